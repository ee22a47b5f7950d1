-- `serve` is safe and ends: each array is lent whole. The length of the long one is a law, since counting it takes long.
use Prim.Native.Nat.{ℕ}
use mathlib.Core.Path.{sym}
use lib.ListN.{length-replicate}
use Rattle.session.proofs.serve.Goals as goal

pub slice_bounds-serve_on-end-3 : goal.slice_bounds-serve_on-end-3
slice_bounds-serve_on-end-3 g c = sym (length-replicate {A = ℕ} 1048576 0)
