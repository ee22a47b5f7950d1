-- `rewrite` meets its contract. A variable is put by what stands for it. A node's word is put with a length that is not known
-- yet, then each part, as it stands or by a call; where one does not fit, neither does the term, and otherwise the length that is
-- set makes it whole. It ends since a part stands behind its node.
use Prim.Native.Nat.{◌-◌}
use Rattle.calculus.specs.Words.{longest}
use Rattle.kept.proofs.rewriting.+rewrite.Given as goal

abbrev pub decreases-rewrite : goal.decreases-rewrite
decreases-rewrite l = longest - l.node
