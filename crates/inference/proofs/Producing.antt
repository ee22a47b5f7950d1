-- What inference answers for a product, by what it found of the domain and of the codomain under it.
use Prim.Native.Nat.{ℕ, suc, ◌+◌, ◌≤◌}
use mathlib.Core.List.{List, ◌∷◌}
use mathlib.Core.Path.{◌≡◌}
use Rattle.calculus.specs.Term.{Term, star, pi, size}
use Rattle.calculus.specs.Answer.{ok, ◌>>=◌, ◌>>◌, require, not_star}
use Rattle.calculus.specs.Rules.{Context}
use Rattle.calculus.specs.Infer.{infer, same, measure}
use Rattle.calculus.proofs.Testing.{equal, fitting}
use Rattle.inference.specs.Inference.{judge, star_typed}
use Rattle.inference.proofs.Passing.{star_first}
use Rattle.book.specs.declared.Reader.{Reader}

module _ (who : Reader) (book : List ℕ) (L : ℕ) (Γ : Context) (p : ℕ) (a b : Term) where
  pub by_domain : {q : ℕ} → q ≡ suc p
      → judge who book L Γ p (pi a b)
      ≡ (star_typed who book L Γ q a >>= λ _.
      judge who book L (a ∷ Γ) (suc p + size a) b >>= λ τ. require not_star (suc p + size a) (same τ star) >> measure L p star)
  unfolding infer star_typed
  by_domain x = rw x (star_first (judge who book L Γ (suc p) a) (suc p) _)

  pub by_codomain : {q : ℕ} → judge who book L Γ (suc p) a ≡ ok star → q ≡ suc p + size a
      → judge who book L Γ p (pi a b) ≡ (star_typed who book L (a ∷ Γ) q b >>= λ _. measure L p star)
  unfolding infer star_typed ◌>>=◌ ◌>>◌ require
  by_codomain f x = rw (f, equal star, x) (star_first (judge who book L (a ∷ Γ) (suc p + size a) b) (suc p + size a) (measure L p star))

  pub by_both : judge who book L Γ (suc p) a ≡ ok star → judge who book L (a ∷ Γ) (suc p + size a) b ≡ ok star → 1 ≤ L → judge who book L Γ p (pi a b) ≡ ok star
  unfolding infer ◌>>=◌ ◌>>◌ require size
  by_both f g h = rw (f, equal star, g, equal star) (fitting p star h)
