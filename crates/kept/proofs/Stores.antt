-- A run of stores: no store changes what stands before the place where the run begins; and a list that is being copied is stored
-- word by word, as the words so far and the next are one run.
use Prim.Native.Nat.{ℕ, suc, ◌+◌, ◌-◌, ◌≤◌, ◌<◌}
use mathlib.Core.List.{List, [], ◌∷◌, ◌++◌, append_assoc}
use mathlib.Core.Path.{◌≡◌, refl, sym, ap, ◌∙◌}
use native.Mathlib.Numerals.{add-one}
use native.Mathlib.Omega.{arith}
use borrow.Rule.Slice.PartMut.{put_mid}
use lib.ListN.{length, take, drop, get_or, set}
use lib.Seq.{sets, sets-eq, set_comm, take-set-le, take-suc, length-take-le, drop-drop}
use Rattle.calculus.proofs.Stores.{sets_append}

pub take_sets : (n : ℕ) (l : List ℕ) (at : ℕ) (e : List ℕ) → n ≤ at → take n (sets l at e) ≡ take n l
take_sets n l at [] h = refl
take_sets n l at (w ∷ e) h = take_sets n (set l at w) (suc at) e (omega arith) ∙ take-set-le n l at w h

-- A store before a run of stores may be done behind it.
pub set_sets : (l : List ℕ) (i n at : ℕ) (e : List ℕ) → i < at → set (sets l at e) i n ≡ sets (set l i n) at e
set_sets l i n at [] h = refl
set_sets l i n at (w ∷ e) h =
    set_sets (set l at w) i n (suc at) e (omega arith) ∙ ap (λ k. sets k (suc at) e) (set_comm l at i w n (λ same. omega arith))

-- A part of a slice that is made the list `e` is that list stored there.
pub put_copied : (e l : List ℕ) (at : ℕ)
    → at + length e ≤ length l
    → put_mid at (at + length e - at) l e ≡ sets l at e
put_copied e l at h =
    let count : at + (at + length e - at) ≡ at + length e = omega arith in
    ap (λ r. take at l ++ (e ++ r)) (drop-drop (at + length e - at) at l ∙ ap (λ n. drop n l) count)
    ∙ sym (append_assoc (take at l) e (drop (at + length e) l))
    ∙ sym (sets-eq e l at h)

-- One more word of a list that is being copied.
pub sets_next : (l : List ℕ) (at : ℕ) (e : List ℕ) (i : ℕ)
    → i < length e
    → set (sets l at (take i e)) (at + i) (get_or e i 0) ≡ sets l at (take (i + 1) e)
sets_next l at e i h =
    rw
    (add-one i, take-suc e i 0 h, sets_append l at (take i e) (get_or e i 0 ∷ []), length-take-le i e (omega arith))
    refl
