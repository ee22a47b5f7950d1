-- A fold that compares two lists of one length, place by place, is true in the end exactly where they are the same.
use Prim.Native.Nat.{ℕ}
use mathlib.Core.Bool.{Bool, true, true≢false}
use mathlib.Core.List.{List, [], ◌∷◌}
use mathlib.Core.Path.{◌≡◌, refl, sym, ap, ap₂, ◌∙◌, subst}
use native.Mathlib.Omega.{arith}
use Rattle.std.specs.Prelude.{length, ◌↔◌, map}
use Rattle.std.specs.List.{zip, FoldsTo}

-- A turn keeps what it has exactly where the two words are the same.
module _ {F A : Type 0} (turn : F × Bool → A → F × Bool → Type 0) (v : A → ℕ × ℕ) (f : F)
    (acts : (a : Bool) (x : A) (q : F × Bool) → turn (f, a) x q → (q.0 ≡ f) × ((q.1 ≡ true) ↔ ((a ≡ true) × ((v x).0 ≡ (v x).1)))) where
  compared_on : (xs : List A) (a r : Bool) (last : F) (l m : List ℕ)
      → FoldsTo turn (f, a) xs (last, r)
      → map v xs ≡ zip l m
      → length l ≡ length m
      → (r ≡ true) ↔ ((a ≡ true) × (l ≡ m))
  compared_on [] a r last [] [] t e n = let same : a ≡ r = ap (λ p. p.1) t in (λ h. (same ∙ h, refl), λ h. sym same ∙ h.0)
  compared_on [] a r last (x ∷ l) (y ∷ m) t e n = absurd (true≢false (cc e))
  compared_on [] a r last [] (y ∷ m) t e n = absurd (omega (arith, n))
  compared_on [] a r last (x ∷ l) [] t e n = absurd (omega (arith, n))
  compared_on (z ∷ xs) a r last [] [] t e n = absurd (true≢false (cc e))
  compared_on (z ∷ xs) a r last [] (y ∷ m) t e n = absurd (omega (arith, n))
  compared_on (z ∷ xs) a r last (x ∷ l) [] t e n = absurd (omega (arith, n))
  compared_on (z ∷ xs) a r last (x ∷ l) (y ∷ m) (j, s, t) e n =
      let head : v z ≡ (x, y) = cc e in
      let tail : map v xs ≡ zip l m = cc e in
      let step = acts a z j s in
      let rest = compared_on xs j.1 r last l m (subst (λ g. FoldsTo turn (g, j.1) xs (last, r)) step.0 t) tail (omega (arith, n)) in (
        λ h.
            let p = rest.0 h in
            let q = step.1.0 p.0 in
            (q.0, ap₂ ◌∷◌ (sym (ap (λ p. p.0) head) ∙ q.1 ∙ ap (λ p. p.1) head) p.1),
        λ h.
            let first : x ≡ y = cc (h.1) in
            let others : l ≡ m = cc (h.1) in
            rest.1 (step.1.1 (h.0, ap (λ p. p.0) head ∙ first ∙ sym (ap (λ p. p.1) head)), others),
      )

  pub alike_all : (xs : List A) (r : Bool) (last : F) (l m : List ℕ)
      → FoldsTo turn (f, true) xs (last, r)
      → map v xs ≡ zip l m
      → length l ≡ length m
      → (r ≡ true) ↔ (l ≡ m)
  alike_all xs r last l m t e n = let h = compared_on xs true r last l m t e n in (λ x. (h.0 x).1, λ x. h.1 (refl, x))
