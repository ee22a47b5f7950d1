-- `note` meets its contract. The loop's invariant: the output is as it was, with the words from `node` on noted in their places.
-- The length of a node is then the walk from it, since the lengths of its parts are walks and two walks in a row are one.
use Prim.Native.Nat.{◌+◌, ◌*◌, ◌-◌, ◌≤◌}
use mathlib.Core.Path.{◌≡◌}
use lib.ListN.{length, drop}
use lib.Seq.{sets}
use Rattle.kept.proofs.Noting.{noted_words}
use Rattle.kept.proofs.keeping.note.Given as goal

abbrev pub invariant-loop-node : goal.invariant-loop-node
invariant-loop-node l =
    (l.at ≤ l.node)
    × (l.node ≤ l.end)
    × (l.end ≡ l.at + length l.plain)
    × (length l.out ≡ length l.initial.out)
    × (l.out ≡ sets l.initial.out (2 * l.node) (noted_words (drop (l.node - l.at) l.plain)))
