-- `find_variables` meets its contract. The loop's invariant: the nodes from `node` on are surveyed, and `next` is what is found
-- from there on.
use Prim.Native.Nat.{◌≤◌}
use mathlib.Core.Path.{◌≡◌}
use Rattle.kept.specs.Rewriting.{FirstVariables}
use Rattle.kept.proofs.RaiseSurvey.{found}
use Rattle.kept.proofs.rewriting.find_variables.Given as goal

abbrev pub invariant-loop-node : goal.invariant-loop-node
invariant-loop-node l = (l.from ≤ l.node) × (l.next ≡ found l.source l.to l.node) × FirstVariables l.source l.node l.to l.first
