use Prim.Native.Nat.{ℕ, ◌+◌, ◌-◌, ◌<◌}
use mathlib.Core.Path.{◌≡◌, refl, sym, ap, ◌∙◌}
use native.Mathlib.Nat.{pos_of_ne-zero}
use native.Mathlib.Omega.{arith}
use lib.ListN.{get_or}
use Rattle.std.specs.Prelude.{Result}
use Rattle.calculus.specs.Answer.{ok}
use Rattle.calculus.specs.Meaning.{meaning, binds}
use Rattle.calculus.specs.Scan.{test}
use Rattle.term.specs.declared.refusal.Reason.{Reason}
use Rattle.term.specs.Subterms.{pending, visit_of}
use Rattle.term.specs.Word.{second}
use Rattle.term.proofs.Turns.{Fits, begins, fits, short, turn_refused, level, second_fits, turn_last, turn_next}
use Rattle.term.proofs.Words.{two_at_most}
use Rattle.term.proofs.reading.read_first.Goals as goal
use Rattle.term.proofs.reading.read_first.Goals.{After-from, After-parts-waiting, After-tested, In_default, In-loop-place}

-- The word at hand.
abbrev word : goal.In-loop-place → ℕ
word i = get_or i.args.words.now i.loop-place.place 0

-- What `tested` says of it, where its result is `v`.
seen : (c : goal.After-tested) {v : Result (Unit {0}) Reason}
    → c.tested.result ≡ v
    → let l = c.loop-place in
    visit_of v l.place ≡ test (meaning (get_or c.args.words.now l.place 0)) (pending l.room l.binders) l.place
seen c e =
    let place = c.loop-place.place in
    ap (λ v. visit_of v place) (sym e) ∙ c.tested.ensures place

-- A word that passes.
abbrev here : goal.In_default → goal.In-loop-place
here c = (goal.at.overflow_sub-left c).In-loop-place

passes : (c : goal.In_default)
    → let l = (here c).loop-place in
    ok tt ≡ test (meaning (word (here c))) (pending l.room l.binders) l.place
passes c = seen (goal.at.overflow_sub-left c).After-tested c.in_default.is

second_fits_here : (c : goal.In_default)
    → let l = (here c).loop-place in
    Fits (l.waiting + 1) (l.room - 1) (l.binders + second (binds (meaning (word (here c)))))
second_fits_here c = second_fits (here c).loop-place.invariant (here c).loop-place-test.true (passes c)

pub loop-place-init : goal.loop-place-init
loop-place-init c = begins _ _ _ refl refl

pub tested-requires : goal.tested-requires
tested-requires c = omega (arith, (fits c.loop-place.invariant).shallow)

pub returns-in-Err : goal.returns-in-Err
returns-in-Err c =
    turn_refused c.loop-place.invariant c.loop-place-test.true (seen (goal.at.returns-in-Err c).After-tested c.in-Err.is)

pub overflow_sub-left : goal.overflow_sub-left
overflow_sub-left c = level (here c).loop-place.invariant (here c).loop-place-test.true (passes c)

pub overflow_cast-left : goal.overflow_cast-left
overflow_cast-left c = omega (arith, (second_fits_here c).few)

pub overflow_add-first : goal.overflow_add-first
overflow_add-first c = omega (arith, (second_fits_here (goal.at.overflow_add-first c).In_default).few)

pub bounds-rooms-waiting : goal.bounds-rooms-waiting
bounds-rooms-waiting c = omega (arith, (second_fits_here (goal.at.bounds-rooms-waiting c).In_default).few)

pub bounds-rooms-first : goal.bounds-rooms-first
bounds-rooms-first c = omega (arith, (second_fits_here (goal.at.bounds-rooms-first c).In_default).few)

-- The binders around a second part, as they are computed.
scope_fits : (c : goal.After-from)
    → let l = (here (goal.at.overflow_add-scopes c).In_default).loop-place in
    Fits (l.waiting + 1) (l.room - 1) (l.binders + c.from.result)
scope_fits c = rw (c.from.ensures, c.bound.ensures) (second_fits_here (goal.at.overflow_add-scopes c).In_default)

pub overflow_add-scopes : goal.overflow_add-scopes
overflow_add-scopes c = omega (arith, (scope_fits c).shallow)

pub overflow_cast-scopes : goal.overflow_cast-scopes
overflow_cast-scopes c = omega (arith, (scope_fits c).shallow)

pub bounds-scopes-waiting : goal.bounds-scopes-waiting
bounds-scopes-waiting c = omega (arith, (scope_fits (goal.at.bounds-scopes-waiting c).After-from).few)

pub overflow_cast-scopes-in-loop-place : goal.overflow_cast-scopes-in-loop-place
overflow_cast-scopes-in-loop-place c = omega (arith, (scope_fits (goal.at.overflow_cast-scopes-in-loop-place c).After-from).shallow)

pub bounds-scopes-first : goal.bounds-scopes-first
bounds-scopes-first c = omega (arith, (scope_fits (goal.at.bounds-scopes-first c).After-from).few)

-- The entries that count after the turn are two more at most.
more : (c : goal.After-parts-waiting) → (here (goal.at.overflow_add-waiting c).In_default).loop-place.waiting + c.parts-waiting.result < 66
more c =
    let l = here (goal.at.overflow_add-waiting c).In_default in
    omega (arith, c.parts-waiting.ensures, two_at_most (word l), (scope_fits (goal.at.overflow_add-waiting c).After-from).few)

pub overflow_add-waiting : goal.overflow_add-waiting
overflow_add-waiting c = omega (arith, more c)

pub returns-then-waiting-eq0 : goal.returns-then-waiting-eq0
returns-then-waiting-eq0 c =
    let t = (goal.at.returns-then-waiting-eq0 c).In_default in
    turn_last (here t).loop-place.invariant (here t).loop-place-test.true (passes t) (rw (← c.parts-waiting.ensures) c.if-waiting-eq0.true)

pub bounds-rooms-waiting-in-loop-place : goal.bounds-rooms-waiting-in-loop-place
bounds-rooms-waiting-in-loop-place c = omega (arith, more (goal.at.bounds-rooms-waiting-in-loop-place c).After-parts-waiting)

pub bounds-scopes-waiting-in-loop-place : goal.bounds-scopes-waiting-in-loop-place
bounds-scopes-waiting-in-loop-place c = omega (arith, more (goal.at.bounds-scopes-waiting-in-loop-place c).After-parts-waiting)

-- What the arrays hold then is what the turn's law says of them, with the results of the calls put in.
pub loop-place-preserved : goal.loop-place-preserved
loop-place-preserved c =
    let t = (goal.at.loop-place-preserved c).In_default in
    rw (
      c.from-binders.ensures,
      c.from-room.ensures,
      c.parts-waiting.ensures,
      c.from.ensures,
      c.bound.ensures,
    )
    (turn_next
    (here t).loop-place.invariant
    (here t).loop-place-test.true
    (passes t)
    (rw (← c.parts-waiting.ensures) (pos_of_ne-zero c.if-waiting-eq0.false)))

pub returns : goal.returns
returns c = short c.loop-place.invariant c.loop-place-test.false
