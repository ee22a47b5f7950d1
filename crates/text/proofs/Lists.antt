-- Each number of a list has a text of its own, so that of two lists in a row is both their texts.
use Prim.Native.Nat.{ℕ}
use mathlib.Core.List.{List, [], ◌∷◌, ◌++◌, append_assoc, append-nil}
use mathlib.Core.Path.{◌≡◌, refl, sym, ap}
use Rattle.text.specs.Appending.{appended}
use Rattle.text.specs.Texts.{decimal, spaced}
use Rattle.text.proofs.Appended.{both}

pub spaced_append : (vs ws : List ℕ) → spaced (vs ++ ws) ≡ spaced vs ++ spaced ws
unfolding spaced
spaced_append [] ws = refl
spaced_append (v ∷ vs) ws = rw (spaced_append vs ws) (sym (append_assoc (32 ∷ decimal v) (spaced vs) (spaced ws)))

pub spaced_one : (w : ℕ) → spaced (w ∷ []) ≡ 32 ∷ decimal w
unfolding spaced
spaced_one w = append-nil (32 ∷ decimal w)

-- A number more behind those that are written.
pub spaced_next : (room : ℕ) (page vs : List ℕ) (w : ℕ)
    → appended room (appended room page (spaced vs)) (32 ∷ decimal w) ≡ appended room page (spaced (vs ++ w ∷ []))
spaced_next room page vs w =
    simp (both, spaced_append) (ap (λ l. appended room page (spaced vs ++ l)) (sym (spaced_one w)))
