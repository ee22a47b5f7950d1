-- `clear` meets its contract. The loop's invariant: the words of the blocks passed are cleared.
use Prim.Native.Nat.{◌*◌}
use mathlib.Core.Path.{◌≡◌}
use Rattle.calculus.specs.Outcomes.{cleared}
use Rattle.kept.proofs.clearing.clear.Given as goal

abbrev pub invariant-loop-block : goal.invariant-loop-block
invariant-loop-block l = l.work ≡ cleared (512 * l.block) l.initial.work
