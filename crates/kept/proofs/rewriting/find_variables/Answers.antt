use Prim.Native.Nat.{◌+◌, ◌-◌, ◌≤◌}
use mathlib.Core.Path.{◌≡◌, ◌∙◌}
use native.Mathlib.Omega.{arith}
use Rattle.kept.proofs.RaiseSurvey.{found, found_none, found_here, found_behind, surveyed_none, surveyed_more}
use Rattle.kept.proofs.rewriting.find_variables.Goals as goal
use Rattle.kept.proofs.rewriting.find_variables.Goals.{then-source-node-ge16, else-source-node-ge16}

pub loop-node-init : goal.loop-node-init
loop-node-init c =
    let source = c.args.source.now in
    let to = c.args.to in (
      c.requires.0,
      c.narrow-next.ensures ∙ found_none source to,
      surveyed_none source to c.requires.3,
    )

pub loop-node-preserved : goal.loop-node-preserved
loop-node-preserved c =
    let l = c.loop-node in
    let source = c.args.source.now in
    let m = l.node - 1 in
    let next_is : m + 1 ≡ l.node = omega (arith, c.loop-node-test.true) in
    let inside : l.node ≤ c.args.to = omega arith in
    let now : c.if-source-node-ge16.next ≡ found source c.args.to m =
    elim c.if-source-node-ge16.branch [
      | then-source-node-ge16 w ↦ w.next-is ∙ w.narrow-next-then-source-node-ge16.ensures ∙ found_here source m next_is inside c.requires.2 w.if-source-node-ge16.true
      | else-source-node-ge16 w ↦ w.next-is ∙ l.invariant.1 ∙ found_behind source m next_is inside c.requires.2 w.if-source-node-ge16.false
    ]
    in (
      omega (arith, c.loop-node-test.true),
      now,
      surveyed_more source m next_is inside c.requires.2 c.if-source-node-ge16.next c.requires.1 now l.invariant.2,
    )
