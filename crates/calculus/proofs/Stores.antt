-- Two runs of stores, the second from where the first ends, are one run of both, since each store is the next of the one run.
use Prim.Native.Nat.{ℕ, suc, ◌+◌}
use mathlib.Core.List.{List, [], ◌∷◌, ◌++◌}
use mathlib.Core.Path.{◌≡◌}
use native.Mathlib.Nat.{add-zero, add-suc, suc-add}
use lib.ListN.{length, set}
use lib.Seq.{sets}

pub sets_append : (l : List ℕ) (at : ℕ) (e e₂ : List ℕ) → sets l at (e ++ e₂) ≡ sets (sets l at e) (at + length e) e₂
sets_append l at [] e₂ = rw (add-zero at)
sets_append l at (w ∷ e) e₂ = rw (add-suc at (length e), ← suc-add at (length e)) (sets_append (set l at w) (suc at) e e₂)
