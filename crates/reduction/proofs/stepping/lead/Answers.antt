use Rattle.std.proofs.Common.{◌+◌, ◌≤◌, refl, arith}
use Rattle.calculus.specs.Words.{longest}
use Rattle.term.specs.Kept.{length_at}
use Rattle.reduction.specs.Stepping.{moved}
use Rattle.reduction.proofs.Moving.{movable_at, moved_next}
use Rattle.reduction.proofs.stepping.lead.Goals as goal
use Rattle.reduction.proofs.stepping.lead.Goals.{In-loop-node}

pub loop-node-init : goal.loop-node-init
unfolding moved
loop-node-init c = refl

-- The length of the node is neither too large nor too small.
movable : (c : goal.In-loop-node)
    → let a = c.args in
    let n = c.loop-node.node in
    (length_at a.state.now n ≤ longest) × (a.old ≤ length_at a.state.now n + a.end)
movable c =
    let a = c.args in
    movable_at a.old a.end a.state.now a.at c.loop-node.node c.requires.0 c.loop-node-test.true c.requires.4

pub overflow_add-out-in-loop-node : goal.overflow_add-out-in-loop-node
overflow_add-out-in-loop-node c = omega (arith, (movable (goal.at.overflow_add-out-in-loop-node c).In-loop-node).0)

pub overflow_sub-out : goal.overflow_sub-out
overflow_sub-out c = omega (arith, (movable (goal.at.overflow_sub-out c).In-loop-node).1)

pub loop-node-preserved : goal.loop-node-preserved
loop-node-preserved c =
    let a = c.args in
    rw
    (c.loop-node.invariant, c.narrow.ensures, c.narrow-in-loop-node.ensures)
    (moved_next a.old a.end a.out.now a.state.now c.loop-node.node (omega arith))
