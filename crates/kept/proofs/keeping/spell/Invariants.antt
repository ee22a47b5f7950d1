-- `spell` meets its contract. The loop's invariant: the output is as it was with the first `i` of the plain words stored from its
-- start on.
use mathlib.Core.Path.{◌≡◌}
use lib.ListN.{take}
use lib.Seq.{sets}
use Rattle.term.proofs.Keeping.{spelled}
use Rattle.kept.proofs.keeping.spell.Given as goal

abbrev pub invariant-loop-i : goal.invariant-loop-i
invariant-loop-i l = l.out ≡ sets l.initial.out 0 (take l.i (spelled l.slice))
