-- Words of two bytes each, by their index: word `i` is made of the bytes `2 * i` and `2 * i + 1`, and there are half as many words
-- as bytes. So storing them one after the other stores them all.
use Prim.Native.Nat.{ℕ, zero, suc, ◌+◌, ◌*◌, ◌/◌, ◌%◌, ◌≤◌, ◌<◌, min}
use mathlib.Core.Bool.{Bool, true, false, ◌&&◌}
use mathlib.Core.List.{List, [], ◌∷◌, ◌++◌}
use mathlib.Core.Path.{◌≡◌, refl, sym, ap, ◌∙◌}
use borrow.Author.Tests.{lt-leb, leb-true}
use native.Mathlib.Nat.{zero-add}
use native.Mathlib.Numerals.{add-one}
use native.Mathlib.Omega.{arith}
use lib.Dec.{leb, eqb}
use lib.ListN.{length, take, drop, get_or, set, length-take, take-append-drop}
use lib.Seq.{sets, sets-eq, length-sets, set_out, take_at, take_all, take-suc}
use Rattle.std.proofs.lemmas.List.{drop_all}
use native.Mathlib.Decide.{dec_le}
use Rattle.calculus.proofs.Stores.{sets_append}
use Rattle.text.specs.Pairs.{pairs, allowed}

pub length_pairs : (bs : List ℕ) → length (pairs bs) ≡ length bs / 2
unfolding pairs
length_pairs [] = refl
length_pairs (b ∷ []) = refl
length_pairs (b ∷ c ∷ bs) = omega (arith, length_pairs bs)

pub pairs_at : (bs : List ℕ) (i : ℕ) → i < length bs / 2 → get_or (pairs bs) i 0 ≡ get_or bs (2 * i) 0 + 256 * get_or bs (2 * i + 1) 0
unfolding pairs
pairs_at [] i h = absurd (omega arith)
pairs_at (b ∷ []) i h = absurd (omega arith)
pairs_at (b ∷ c ∷ bs) zero h = refl
pairs_at (b ∷ c ∷ bs) (suc i) h =
    let low : 2 * suc i ≡ suc (suc (2 * i)) = omega arith in
    let high : 2 * suc i + 1 ≡ suc (suc (2 * i + 1)) = omega arith in
    rw (high, low) (pairs_at bs i (omega arith))

-- One word more of those that are stored from the start on.
pub store_next : (ws l : List ℕ) (i : ℕ) → i < length ws → set (sets l 0 (take i ws)) i (get_or ws i 0) ≡ sets l 0 (take (i + 1) ws)
store_next ws l i h =
    let count : length (take i ws) ≡ i = omega (arith, length-take i ws) in
    sym (ap (sets l 0) (ap (λ n. take n ws) (add-one i) ∙ take-suc ws i 0 h)
    ∙ sets_append l 0 (take i ws) (get_or ws i 0 ∷ [])
    ∙ ap (λ n. set (sets l 0 (take i ws)) n (get_or ws i 0)) (zero-add (length (take i ws)) ∙ count))

-- What is stored from the start on is found there.
stored : (ws l : List ℕ) (n : ℕ) → n ≡ length ws → length ws ≤ length l → take n (sets l 0 ws) ≡ ws
stored ws l n e h = ap (take n) (sets-eq ws l 0 (omega arith)) ∙ take_at ws (drop (0 + length ws) l) n (sym e)

sets_out : (l : List ℕ) (at : ℕ) (ws : List ℕ) → length l ≤ at → sets l at ws ≡ l
sets_out l at [] h = refl
sets_out l at (w ∷ ws) h = rw (set_out l at w h) (sets_out l (suc at) ws (omega arith))

-- Of words from the start on as many are stored as there is room for.
pub front_stored : (ws l : List ℕ) (n : ℕ) → n ≡ min (length l) (length ws) → sets (take n l) 0 (take n ws) ++ drop n l ≡ sets l 0 ws
front_stored ws l n e =
    let count : length (take n ws) ≡ n = omega (arith, length-take n ws) in
    let room : length (take n l) ≡ n = omega (arith, length-take n l) in
    let front = sets (take n l) 0 (take n ws) in
    let all : take n front ≡ front = take_all n front (omega (arith, length-sets (take n l) 0 (take n ws))) in
    let next : 0 + length (take n ws) ≡ n = omega arith in
    ap (λ x. x ++ drop n l) (sym all ∙ stored (take n ws) (take n l) n (sym count) (omega arith))
    ∙ sym (
    ap (sets l 0) (sym (take-append-drop n ws))
    ∙ sets_append l 0 (take n ws) (drop n ws)
    ∙ ap (λ k. sets (sets l 0 (take n ws)) k (drop n ws)) next
    ∙ over_room (dec_le (length ws) (length l))
    ∙ sets-eq (take n ws) l 0 (omega arith)
    ∙ ap (λ k. take n ws ++ drop k l) next)
  where
    over_room : Dec (length ws ≤ length l) → sets (sets l 0 (take n ws)) n (drop n ws) ≡ sets l 0 (take n ws)
    over_room (yes h) = rw (drop_all n ws (omega arith)) refl
    over_room (no h) = sets_out (sets l 0 (take n ws)) n (drop n ws) (omega (arith, length-sets l 0 (take n ws)))

-- The test of the number of bytes.
pub over : (bs : List ℕ) → 2048 < length bs → allowed bs ≡ false
unfolding allowed
over bs h = rw (lt-leb (length bs) 2048 h) refl

first_true : (a b : Bool) → a && b ≡ true → a ≡ true
first_true true b e = refl
first_true false b e = e

-- All words of allowed bytes are stored in the room of the longest term, and found there.
pub all_stored : (bs l : List ℕ) → allowed bs ≡ true → length l ≡ 1024 → take (length bs / 2) (sets l 0 (pairs bs)) ≡ pairs bs
unfolding allowed
all_stored bs l e room =
    let short : length bs ≤ 2048 = leb-true (length bs) 2048 (first_true (leb (length bs) 2048) (eqb (length bs % 2) 0) e) in
    stored (pairs bs) l (length bs / 2) (sym (length_pairs bs)) (omega (arith, length_pairs bs))
