-- What is appended in several calls is appended as one text, as far as there is room. A text that fits is there whole.
use Prim.Native.Nat.{ℕ, zero, suc, ◌+◌, ◌-◌, ◌≤◌}
use mathlib.Core.List.{List, [], ◌∷◌, ◌++◌, append-nil, append_assoc}
use mathlib.Core.Path.{◌≡◌, refl, ap, ◌∙◌}
use native.Mathlib.Nat.{zero-sub}
use native.Mathlib.Numerals.{unary_clauses}
use native.Mathlib.Omega.{arith}
use lib.ListN.{length, take, length-append, length-take}
use lib.Seq.{take_all}
use Rattle.std.proofs.lemmas.List.{map-id}
use Rattle.text.specs.Appending.{appended}

-- What fits of two texts is what fits of the first, and of the second what fits then.
take_both : (room : ℕ) (bs cs : List ℕ) → take room bs ++ take (room - length bs) cs ≡ take room (bs ++ cs)
take_both zero bs cs = ap (λ n. take n cs) (zero-sub (length bs))
take_both (suc room) [] cs = simp unary_clauses refl
take_both (suc room) (b ∷ bs) cs = simp unary_clauses (ap (λ l. b ∷ l) (take_both room bs cs))

-- Two appends in a row are one of both texts.
pub both : (room : ℕ) (page bs cs : List ℕ) → appended room (appended room page bs) cs ≡ appended room page (bs ++ cs)
unfolding appended
both room page bs cs =
    let left = room - length page in
    let same : room - length (page ++ take left bs) ≡ left - length bs = omega (arith, length-append page (take left bs), length-take left bs) in
    rw same (append_assoc page (take left bs) (take (left - length bs) cs) ∙ ap (λ l. page ++ l) (take_both left bs cs))

pub none : (room : ℕ) (page : List ℕ) → appended room page [] ≡ page
unfolding appended
none room page = ap (λ l. page ++ l) (take_all (room - length page) [] (omega arith)) ∙ append-nil page

-- A text that fits is there whole.
pub whole : (room : ℕ) (page bs : List ℕ) → length page + length bs ≤ room → appended room page bs ≡ page ++ bs
unfolding appended
whole room page bs h = ap (λ l. page ++ l) (take_all (room - length page) bs (omega arith))

-- Nothing is appended to a page that is full.
pub full : (room : ℕ) (page bs : List ℕ) → room ≤ length page → appended room page bs ≡ page
unfolding appended
full room page bs h =
    let none_left : room - length page ≡ 0 = omega arith in
    rw none_left (append-nil page)

-- What a call leaves behind several appends, as one text. A number is its own value.
pub ruleset appends = (both, none, map-id)
