-- Two terms are the same if and only if their kept words are: so terms of different lengths differ, and a comparison of their
-- words decides it.
use Prim.Native.Nat.{ℕ, ◌+◌, ◌-◌, ◌*◌, ◌≤◌}
use mathlib.Core.Bool.{Bool, true, false, not, true≢false}
use mathlib.Core.List.{List}
use mathlib.Core.Logic.{◌≢◌, ◌↔◌}
use mathlib.Core.Path.{◌≡◌, sym, ap, ◌∙◌}
use native.Mathlib.Nat.{le_refl}
use native.Mathlib.Omega.{arith}
use borrow.Author.Tests.{not-true, not-false}
use lib.ListN.{length, take, drop}
use lib.Seq.{sets}
use Rattle.calculus.specs.Term.{Term, size}
use Rattle.calculus.specs.Words.{Worded}
use Rattle.term.specs.Kept.{kept}
use Rattle.term.proofs.Keeping.{kept_injective}
use Rattle.inference.proofs.KeptTypes.{written, lies_still}

pub longer : {m n : ℕ} (σ τ : Term) → m ≡ size σ → n ≡ size τ → (m ≡ n → ⊥) → σ ≢ τ
longer σ τ x y d q = d (x ∙ ap size q ∙ sym y)

-- The kept words of τ and of σ were compared.
module _ {first second : List ℕ} (σ τ : Term) (hσ : Worded σ) (hτ : Worded τ) (x : first ≡ kept τ) (y : second ≡ kept σ)
    {r : Bool} (h : (r ≡ true) ↔ (first ≡ second)) where
  same_term : not r ≡ false → σ ≡ τ
  same_term q = sym (kept_injective τ σ hτ hσ (sym x ∙ h.0 (not-false r q) ∙ y))

  other_term : not r ≡ true → σ ≢ τ
  other_term q e =
      true≢false (sym (h.1 (x ∙ ap kept (sym e) ∙ sym y)) ∙ not-true r q)

  pub compared : (not r ≡ true → σ ≢ τ) × (not r ≡ false → σ ≡ τ)
  compared = (other_term, same_term)

-- τ lies at `top`, σ was written behind it, and the two parts of the slice were compared.
module _ (before : List ℕ) (top m k : ℕ) {after : List ℕ} (σ τ : Term) (hσ : Worded σ) (hτ : Worded τ)
    (lies : take (2 * m) (drop (2 * top) before) ≡ kept τ) (x : after ≡ sets before (2 * (top + m)) (kept σ)) (long : k ≡ size σ)
    (room : 2 * (top + m + k) ≤ length before)
    {r : Bool}
    (h : (r ≡ true)
    ↔ (take (2 * (top + m) - 2 * top) (drop (2 * top) after)
    ≡ take (2 * (top + m + k) - 2 * (top + m)) (drop (2 * (top + m)) after))) where
  first_lies : take (2 * (top + m) - 2 * top) (drop (2 * top) after) ≡ kept τ
  first_lies =
      let many : 2 * (top + m) - 2 * top ≡ 2 * m = omega arith in
      ap (λ n. take n (drop (2 * top) after)) many ∙ lies_still before top m (top + m) (kept σ) (le_refl (top + m)) x lies

  second_lies : take (2 * (top + m + k) - 2 * (top + m)) (drop (2 * (top + m)) after) ≡ kept σ
  second_lies =
      let many : 2 * (top + m + k) - 2 * (top + m) ≡ 2 * size σ = omega arith in
      ap (λ n. take n (drop (2 * (top + m)) after)) many ∙ written before (top + m) σ x (omega arith)

  pub compared_behind : (not r ≡ true → σ ≢ τ) × (not r ≡ false → σ ≡ τ)
  compared_behind = compared σ τ hσ hτ first_lies second_lies h
