-- `of_bytes` meets its contract. The loop's invariant: the first `i` words are stored.
use mathlib.Core.Path.{◌≡◌}
use lib.ListN.{take}
use lib.Seq.{sets}
use Rattle.text.specs.Pairs.{pairs}
use Rattle.text.proofs.words.of_bytes.Given as goal

abbrev pub invariant-loop-i : goal.invariant-loop-i
invariant-loop-i l = l.word-items ≡ sets l.initial.word-items 0 (take l.i (pairs l.bytes))
