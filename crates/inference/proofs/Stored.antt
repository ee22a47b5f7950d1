-- A run of stores into a part of a list is a run of stores into the list, where the part has room for it, since every store then
-- is one into the part; what was stored can be read back, and stored over by a run as long it is gone.
use Prim.Native.Nat.{ℕ, suc, ◌+◌, ◌≤◌}
use mathlib.Core.List.{List, [], ◌∷◌, ◌++◌, append_assoc}
use mathlib.Core.Path.{◌≡◌, refl, sym, ap, ap₂, ◌∙◌}
use native.Mathlib.Nat.{zero-add, le_refl}
use native.Mathlib.Omega.{arith}
use lib.ListN.{length, take, drop, set, length-set, take-append-drop, length-drop}
use lib.Seq.{sets, sets-eq, set-append_left, length-take-le, take_at, drop_at, drop-drop, drop-set-lt}
use Rattle.kept.proofs.Stores.{take_sets}

sets_left : (front rest : List ℕ) (at : ℕ) (e : List ℕ)
    → at + length e ≤ length front
    → sets (front ++ rest) at e ≡ sets front at e ++ rest
sets_left front rest at [] h = refl
sets_left front rest at (w ∷ e) h =
    let inside = set-append_left front rest at w (omega arith) in
    ap (λ l. sets l (suc at) e) inside ∙ sets_left (set front at w) rest (suc at) e (omega (arith, length-set front at w))

-- Into the first `n` words.
pub stored_front : (l e : List ℕ) (at n : ℕ)
    → at + length e ≤ n
    → n ≤ length l
    → sets (take n l) at e ++ drop n l ≡ sets l at e
stored_front l e at n h k =
    sym (sets_left (take n l) (drop n l) at e (omega (arith, length-take-le n l k)))
    ∙ ap (λ x. sets x at e) (take-append-drop n l)

pub sets_between : (l e : List ℕ) (at : ℕ) → at + length e ≤ length l → sets l at e ≡ take at l ++ (e ++ drop (at + length e) l)
sets_between l e at h = sets-eq e l at h ∙ append_assoc (take at l) e (drop (at + length e) l)

-- Into the `n` words from `at` on.
pub stored_part : (l e : List ℕ) (at n : ℕ)
    → length e ≤ n
    → at + n ≤ length l
    → take at l ++ (sets (take n (drop at l)) 0 e ++ drop n (drop at l)) ≡ sets l at e
stored_part l e at n h k =
    let end = drop at l in
    let many = length-drop at l in
    let inside = stored_front end e 0 n (omega arith) (omega arith) ∙ sets_between end e 0 (omega arith) in
    let rest = drop-drop (0 + length e) at l ∙ ap (λ m. drop (at + m) l) (zero-add (length e)) in
    ap (λ x. take at l ++ x) (inside ∙ ap (λ x. e ++ x) rest) ∙ sym (sets_between l e at (omega arith))

pub stored : (l e : List ℕ) (at : ℕ) → at + length e ≤ length l → take (length e) (drop at (sets l at e)) ≡ e
stored l e at h =
    let rest = drop (at + length e) l in
    ap (λ x. take (length e) (drop at x)) (sets_between l e at h)
    ∙ ap (take (length e)) (drop_at (take at l) (e ++ rest) at (length-take-le at l (omega arith)))
    ∙ take_at e rest (length e) refl

drop_sets : (n : ℕ) (l : List ℕ) (at : ℕ) (e : List ℕ) → at + length e ≤ n → drop n (sets l at e) ≡ drop n l
drop_sets n l at [] h = refl
drop_sets n l at (w ∷ e) h = drop_sets n (set l at w) (suc at) e (omega arith) ∙ drop-set-lt n l at w (omega arith)

-- `e` was stored, and in its place now stands `f`, which is as long.
pub stored_over : (l e f : List ℕ) (at n : ℕ)
    → at + length e ≤ length l
    → length f ≡ length e
    → n ≡ length e
    → take at (sets l at e) ++ (f ++ drop n (drop at (sets l at e))) ≡ sets l at f
stored_over l e f at n h same many =
    let sum : at + n ≡ at + length f = omega arith in
    ap₂ (λ x y. x ++ (f ++ y)) (take_sets at l at e (le_refl at))
    (drop-drop n at (sets l at e) ∙ drop_sets (at + n) l at e (omega arith) ∙ ap (λ k. drop k l) sum)
    ∙ sym (sets_between l f at (omega arith))
