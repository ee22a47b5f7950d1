-- What inference answers for an application, by what it found of the parts: each is the definition, computed along the tests that
-- passed.
use Prim.Native.Nat.{ℕ, suc, ◌+◌}
use mathlib.Core.Logic.{◌≢◌}
use mathlib.Core.Path.{◌≡◌, refl}
use Rattle.calculus.specs.Term.{Term, app, pi, size, substitute}
use Rattle.calculus.specs.Answer.{Answer, ok, refused, ◌>>=◌, ◌>>◌, require, not_product, wrong_argument}
use Rattle.calculus.specs.Rules.{Context}
use Rattle.calculus.specs.Infer.{infer, same, measure, product}
use Rattle.calculus.proofs.Testing.{equal, unequal, no_product}
use Rattle.inference.specs.Inference.{judge}
use Rattle.book.specs.declared.Reader.{Reader}
use mathlib.Core.List.{List}

module _ (who : Reader) (book : List ℕ) (L : ℕ) (Γ : Context) (p : ℕ) (f u : Term) where
  -- What follows the argument's type, and the function's.
  abbrev pub after_argument : Term → Term → Term → Answer Term
  after_argument a b σ = require wrong_argument p (same σ a) >> measure L p (substitute 0 u b)

  abbrev pub after_function : Term → Answer Term
  after_function τ = product p τ >>= λ x. judge who book L Γ (suc p + size f) u >>= after_argument x.0 x.1

  pub by_function : {q : ℕ} → q ≡ suc p → judge who book L Γ p (app f u) ≡ (judge who book L Γ q f >>= after_function)
  unfolding infer
  by_function x = rw x refl

  pub no_function : {τ : Term} → judge who book L Γ (suc p) f ≡ ok τ → ((a b : Term) → τ ≢ pi a b) → judge who book L Γ p (app f u) ≡ refused not_product p
  unfolding infer ◌>>=◌
  no_function x n = rw (x, no_product p n) refl

  module _ {a b : Term} (x : judge who book L Γ (suc p) f ≡ ok (pi a b)) where
    pub by_argument : {q : ℕ} → q ≡ suc p + size f → judge who book L Γ p (app f u) ≡ (judge who book L Γ q u >>= after_argument a b)
    unfolding infer product ◌>>=◌
    by_argument y = rw (x, y) refl

    module _ {σ : Term} (y : judge who book L Γ (suc p + size f) u ≡ ok σ) where
      pub wrong : σ ≢ a → judge who book L Γ p (app f u) ≡ refused wrong_argument p
      unfolding infer product ◌>>=◌ ◌>>◌ require
      wrong n = rw (x, y, unequal n) refl

      pub right : σ ≡ a → judge who book L Γ p (app f u) ≡ measure L p (substitute 0 u b)
      unfolding infer product ◌>>=◌ ◌>>◌ require
      right z = rw (x, y, z, equal a) refl
