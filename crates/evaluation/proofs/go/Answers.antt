use Prim.Native.Nat.{◌*◌, ◌≤◌}
use mathlib.Core.Path.{◌≡◌, refl, ap, ◌∙◌}
use native.Mathlib.Omega.{arith}
use lib.ListN.{length, drop}
use Rattle.calculus.specs.Term.{Term}
use Rattle.calculus.specs.Words.{longest}
use Rattle.calculus.specs.Book.{Book}
use Rattle.calculus.specs.Kinds.{total}
use Rattle.calculus.proofs.Counting.{total_counting}
use Rattle.book.specs.Layout as layout
use Rattle.evaluation.specs.Courses.{Holds, buffer}
use Rattle.evaluation.proofs.States.{keeps, buffer_room}
use Rattle.evaluation.proofs.Turns.{Reaches, reaches_first, reaches_next, goes_stop, goes_last}
use Rattle.evaluation.proofs.go.Goals as goal
use Rattle.evaluation.proofs.go.Goals.{After-advance, At-loop-steps}

pub loop-steps-init : goal.loop-steps-init
unfolding total buffer
loop-steps-init c = (omega arith, refl, refl, λ B t held h. reaches_first B h)

-- There are a book and a state in the buffer at the loop's head, and the slices are as long as ever.
present : (c : goal.At-loop-steps)
    → let a = c.args in
    (B : Book)
    × (x : Term)
    × layout.Holds B a.book.now
    × Holds (length B) (buffer c.loop-steps.lent c.loop-steps.work c.loop-steps.other) c.loop-steps.count x
present c =
    let (B, t, held, h) = c.requires.2 in
    let r = c.loop-steps.invariant.3 B t held h in
    (B, r.state, held, r.holds)

long : (c : goal.At-loop-steps) → 2 * longest ≤ length c.loop-steps.work
long c = omega (arith, c.requires.0)

other_long : (c : goal.At-loop-steps) → length c.loop-steps.other ≡ 2 * longest
other_long c = omega (arith, c.requires.1)

pub advance-requires : goal.advance-requires
advance-requires c =
    let loop = (goal.at.advance-requires c).At-loop-steps in
    (long loop, other_long loop, present loop)

-- The present state of a run of `t` over the book B, and one step from it.
module _ (c : goal.After-advance) (B : Book) (t : Term)
    (held : layout.Holds B c.args.book.now)
    (h :
    let a = c.args in
    Holds (length B) a.work.now a.size t) where
  reached : Reaches B c.args.grant c.loop-steps.steps t
      (buffer c.loop-steps.lent c.loop-steps.work c.loop-steps.other) c.loop-steps.count
  reached = c.loop-steps.invariant.3 B t held h

-- Behind the room for a state the working slice is as it was.
behind : (c : goal.After-advance)
    → drop (2 * longest) c.advance.new.work ≡ drop (2 * longest) c.args.work.now
behind c = c.advance.ensures.other_unchanged.1 ∙ c.loop-steps.invariant.2

pub returns-in-Err : goal.returns-in-Err
returns-in-Err c =
    let turn = (goal.at.returns-in-Err c).After-advance in
    record {
      goes =
          λ B t held h.
          let r = reached turn B t held h in
          rw c.from.ensures
          (goes_stop r (omega arith) c.advance.result _ (c.advance.ensures.advances B r.state held r.holds) c.in-Err.is
          c.advance.ensures.other_unchanged.0);
      work_unchanged = behind turn;
    }

-- The run at the end of a turn that is counted.
pub counted-steps-requires : goal.counted-steps-requires
counted-steps-requires c =
    (omega arith, c.loop-steps.invariant.1)

pub loop-steps-preserved : goal.loop-steps-preserved
unfolding total
loop-steps-preserved c =
    let turn = (goal.at.loop-steps-preserved c).After-advance in
    let inv = turn.loop-steps.invariant in
    let (many, each) = c.counted-steps.ensures in (
      omega arith,
      ap total each ∙ total_counting _ _ ∙ omega arith,
      behind turn,
      λ B t held h.
          let r = reached turn B t held h in
          reaches_next r (omega arith) turn.advance.result _ (turn.advance.ensures.advances B r.state held r.holds)
          c.counted-steps.result c.in-Ok.is many each,
    )

-- The run at a used grant: its state is what `last_end` looks at.
pub current-requires : goal.current-requires
current-requires c =
    let loop = (goal.at.current-requires c).At-loop-steps in
    let room = buffer_room loop.loop-steps.lent loop.loop-steps.work loop.loop-steps.other (long loop) (other_long loop) in
    let (B, x, held, h) = present loop in
    omega (arith, room, h.extent, h.short)

pub last_end-end-requires : goal.last_end-end-requires
last_end-end-requires c =
    let (B, x, held, h) = present (goal.at.last_end-end-requires c).At-loop-steps in
    (B, x, held, rw c.current.ensures (keeps B h))

pub returns : goal.returns
returns c =
    record {
      goes =
          λ B t held h.
          let r = c.loop-steps.invariant.3 B t held h in
          goes_last r (omega arith) (c.last_end-end.ensures B r.state held (rw c.current.ensures (keeps B r.holds)));
      work_unchanged = c.loop-steps.invariant.2;
    }

pub loop-steps-smaller : goal.loop-steps-smaller
loop-steps-smaller c = omega (arith, c.counted-steps.ensures.0)
