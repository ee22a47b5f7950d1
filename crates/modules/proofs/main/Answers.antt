-- `main` is safe and ends: each array is lent whole. The length of the long one is a law, since counting it takes long.
use Prim.Native.Nat.{ℕ}
use mathlib.Core.Path.{sym}
use lib.ListN.{length-replicate}
use Rattle.modules.proofs.main.Goals as goal

pub slice_bounds-serve-end-2 : goal.slice_bounds-serve-end-2
slice_bounds-serve-end-2 c = sym (length-replicate {A = ℕ} 1048576 0)
