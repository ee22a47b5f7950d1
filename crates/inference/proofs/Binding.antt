-- What inference answers for an abstraction and for a recursion, by what it found of the annotation and of the body under it: each is
-- the definition, computed along the tests that passed.
use Prim.Native.Nat.{ℕ, suc, ◌+◌, ◌≤◌, ◌<◌}
use mathlib.Core.List.{List, ◌∷◌}
use mathlib.Core.Logic.{◌≢◌}
use mathlib.Core.Path.{◌≡◌, refl}
use Rattle.calculus.specs.Term.{Term, star, lam, pi, mu, size, raise}
use Rattle.calculus.specs.Answer.{Answer, ok, refused, ◌>>=◌, ◌>>◌, require, wrong_recursion, over_limit}
use Rattle.calculus.specs.Rules.{Context}
use Rattle.calculus.specs.Infer.{infer, same, measure}
use Rattle.calculus.proofs.Testing.{equal, unequal, fitting, over}
use Rattle.inference.specs.Inference.{judge, star_typed}
use Rattle.inference.proofs.Passing.{star_first}
use Rattle.inference.proofs.Parts.{Both}
use Rattle.book.specs.declared.Reader.{Reader}

-- What a recursion does once its body has the type τ.
abbrev pub mu_tests : ℕ → ℕ → Term → Term → Answer Term
mu_tests L p a τ = do
  require wrong_recursion p (same τ (raise 1 0 a))
  measure L p a

module _ (who : Reader) (book : List ℕ) (L : ℕ) (Γ : Context) (p q : ℕ) (a e : Term) where
  -- The annotation comes first, at `q`.
  module _ (at : q ≡ suc p) where
    pub lam_annotation : judge who book L Γ p (lam a e) ≡ (star_typed who book L Γ q a >>= λ _. judge who book L (a ∷ Γ) (suc p + size a) e >>= λ b. measure L p (pi a b))
    unfolding infer star_typed
    lam_annotation =
        rw at (star_first (judge who book L Γ (suc p) a) (suc p) (judge who book L (a ∷ Γ) (suc p + size a) e >>= λ b. measure L p (pi a b)))

    pub mu_annotation : judge who book L Γ p (mu a e) ≡ (star_typed who book L Γ q a >>= λ _. judge who book L (a ∷ Γ) (suc p + size a) e >>= mu_tests L p a)
    unfolding infer star_typed
    mu_annotation = rw at (star_first (judge who book L Γ (suc p) a) (suc p) (judge who book L (a ∷ Γ) (suc p + size a) e >>= mu_tests L p a))

  -- Then the body, at `q`.
  module _ (f : judge who book L Γ (suc p) a ≡ ok star) (at : q ≡ suc p + size a) where
    pub lam_body : judge who book L Γ p (lam a e) ≡ (judge who book L (a ∷ Γ) q e >>= λ b. measure L p (pi a b))
    unfolding infer ◌>>=◌ ◌>>◌ require
    lam_body = rw (f, equal star, at) refl

    pub mu_body : judge who book L Γ p (mu a e) ≡ (judge who book L (a ∷ Γ) q e >>= mu_tests L p a)
    unfolding infer ◌>>=◌ ◌>>◌ require
    mu_body = rw (f, equal star, at) refl

-- Both parts are typed.
module _ {who : Reader} {book : List ℕ} {L : ℕ} {Γ : Context} {p : ℕ} {a e : Term} {places : List ℕ} {depth : ℕ} {work : List ℕ} {top from n more m : ℕ} {after places' : List ℕ}
    (B : Both who book L Γ (a ∷ Γ) p a e places depth work top from n more m after places') where
  lam_measured : judge who book L Γ p (lam a e) ≡ measure L p (pi a B.type)
  unfolding infer ◌>>=◌ ◌>>◌ require
  lam_measured = rw (B.annotation, equal star, B.body) refl

  pub lam_over : L < size (pi a B.type) → judge who book L Γ p (lam a e) ≡ refused over_limit p
  lam_over h = rw lam_measured (over p (pi a B.type) h)

  pub lam_typed : size (pi a B.type) ≤ L → judge who book L Γ p (lam a e) ≡ ok (pi a B.type)
  lam_typed h = rw lam_measured (fitting p (pi a B.type) h)

  mu_tested : judge who book L Γ p (mu a e) ≡ mu_tests L p a B.type
  unfolding infer ◌>>=◌ ◌>>◌ require
  mu_tested = rw (B.annotation, equal star, B.body) refl

  pub mu_other : B.type ≢ raise 1 0 a → judge who book L Γ p (mu a e) ≡ refused wrong_recursion p
  unfolding ◌>>=◌ ◌>>◌ require
  mu_other d = rw (mu_tested, unequal d) refl

  pub mu_typed : B.type ≡ raise 1 0 a → size a ≤ L → judge who book L Γ p (mu a e) ≡ ok a
  unfolding ◌>>=◌ ◌>>◌ require
  mu_typed x h = rw (mu_tested, x, equal (raise 1 0 a)) (fitting p a h)
