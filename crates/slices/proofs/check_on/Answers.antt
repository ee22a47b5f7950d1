-- `check_on` is safe and ends: each array is lent whole. The length of the long one is a law, since counting it takes long.
use Prim.Native.Nat.{ℕ}
use mathlib.Core.Path.{sym}
use lib.ListN.{length-replicate}
use Rattle.slices.proofs.check_on.Goals as goal

pub slice_bounds-call_parts-end : goal.slice_bounds-call_parts-end
slice_bounds-call_parts-end g c = sym (length-replicate {A = ℕ} 1048579 0)
