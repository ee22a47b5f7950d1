-- `span` meets its contract. The invariant: the walk from the start is as long as the words passed and the walk over the subterms
-- left from here together; some are left, and no more than words were passed, and one, since a word has two parts at most.
use Prim.Native.Nat.{◌+◌, ◌≤◌}
use mathlib.Core.Path.{◌≡◌}
use lib.ListN.{drop}
use Rattle.term.specs.Walk.{span}
use Rattle.term.proofs.walk.span.Given as goal

abbrev pub invariant-loop-at : goal.invariant-loop-at
invariant-loop-at l = (span l.words 1 ≡ l.at + span (drop l.at l.words) l.left) × (1 ≤ l.left) × (l.left ≤ l.at + 1)
