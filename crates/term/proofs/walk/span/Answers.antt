use Prim.Native.Nat.{◌+◌, ◌-◌, ◌≤◌}
use mathlib.Core.Path.{◌≡◌, refl}
use native.Mathlib.Nat.{pos_of_ne-zero}
use native.Mathlib.Omega.{arith}
use lib.ListN.{drop, drop_of_length-le}
use Rattle.term.specs.Walk.{span}
use Rattle.term.proofs.Walking.{span_none, span_step}
use Rattle.term.proofs.Words.{two_at_most}
use Rattle.term.proofs.walk.span.Goals as goal
use Rattle.term.proofs.walk.span.Goals.{After-parts}

-- How many parts the word at hand has at most, and the walk from behind it on.
module _ (c : goal.After-parts) where
  few : c.parts.result ≤ 2
  few = rw c.parts.ensures (two_at_most _)

  onward :
      let ws = c.args.words.now in
      span ws 1 ≡ c.loop-at.at + 1 + span (drop (c.loop-at.at + 1) ws) (c.loop-at.left + c.parts.result - 1)
  onward =
      let inside = c.loop-at-test.true in
      let step = span_step c.args.words.now c.loop-at.at c.loop-at.left inside c.loop-at.invariant.1 in
      rw c.parts.ensures (omega (arith, c.loop-at.invariant.0, step))

pub overflow_add-left : goal.overflow_add-left
overflow_add-left c = omega (arith, few c)

pub returns-then-left-eq0 : goal.returns-then-left-eq0
returns-then-left-eq0 c =
    let none = rw (c.if-left-eq0.true, span_none) at (onward (goal.at.returns-then-left-eq0 c).After-parts) in
    (omega (arith, none), omega (arith, c.loop-at-test.true))

pub loop-at-preserved : goal.loop-at-preserved
loop-at-preserved c =
    let t = (goal.at.loop-at-preserved c).After-parts in
    (onward t, pos_of_ne-zero c.if-left-eq0.false, omega (arith, few t))

pub returns : goal.returns
unfolding span
returns c =
    let i = c.loop-at in
    let ws = c.args.words.now in
    let none : span (drop i.at ws) i.left ≡ 0 = rw (drop_of_length-le _ c.loop-at-test.false) refl in
    (omega (arith, i.invariant.0, i.auto.at-end), omega arith)
