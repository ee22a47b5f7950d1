-- `raise_parts` meets its contract: each part is raised where it stands, as a leaf, by a call, or by passing it over where it has
-- no variable; so the node is. It ends since a part stands behind its node.
use Prim.Native.Nat.{◌-◌}
use Rattle.calculus.specs.Words.{longest}
use Rattle.kept.proofs.rewriting.+raise_parts.Given as goal

abbrev pub decreases-raise_parts : goal.decreases-raise_parts
decreases-raise_parts l = longest - l.node
