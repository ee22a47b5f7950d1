-- `advance` meets its contract: the one buffer is only read, and the step is written into the other one, in the working slice
-- into the room for a state at its front.
use Prim.Native.Nat.{◌*◌}
use native.Mathlib.Omega.{arith}
use lib.ListN.{length}
use lib.Seq.{length-take-le}
use Rattle.calculus.specs.Term.{Term}
use Rattle.calculus.specs.Words.{longest}
use Rattle.calculus.specs.Book.{Book}
use Rattle.book.specs.Layout as layout
use Rattle.evaluation.specs.Courses.{Holds}
use Rattle.evaluation.proofs.States.{held_within, in_lent, in_other, from_lent, from_other}
use Rattle.evaluation.proofs.advance.Goals as goal
use Rattle.evaluation.proofs.advance.Goals.{Else-lent, Then-lent}

-- The state is in the buffer that is read, over the book that is held.
lent : (c : goal.Then-lent)
    → let a = c.args in
    (B : Book) × (x : Term) × layout.Holds B a.book.now × Holds (length B) a.work.now a.count x
lent c =
    let (B, x, held, h) = c.requires.2 in
    (B, x, held, in_lent c.args.work.now c.args.other.now c.if-lent.true h)

other : (c : goal.Else-lent)
    → let a = c.args in
    (B : Book) × (x : Term) × layout.Holds B a.book.now × Holds (length B) a.other.now a.count x
other c =
    let (B, x, held, h) = c.requires.2 in
    (B, x, held, in_other c.args.work.now c.args.other.now c.if-lent.false h)

pub step-requires : goal.step-requires
step-requires c =
    let (B, x, held, h) = lent (goal.at.step-requires c).Then-lent in
    (held_within B held h, omega (arith, c.requires.1))

pub returns-then-lent : goal.returns-then-lent
returns-then-lent c =
    let a = c.args in
    let moved =
    from_lent a.book.now a.work.now a.other.now a.count c.step.result c.step.new.out c.if-lent.true c.requires.1 c.step.ensures in
    record { advances = moved.0; other_unchanged = moved.1 }

pub step-requires-2 : goal.step-requires-2
step-requires-2 c =
    let room = length-take-le (2 * longest) c.args.work.now c.requires.0 in
    let (B, x, held, h) = other (goal.at.step-requires-2 c).Else-lent in
    (held_within B held h, omega (arith, room))

pub returns : goal.returns
returns c =
    let a = c.args in
    let moved =
    from_other a.book.now a.work.now a.other.now a.count c.step-2.result c.step-2.new.out c.if-lent.false c.requires.0
    c.step-2.auto.out c.step-2.ensures in
    record { advances = moved.0; other_unchanged = moved.1 }
