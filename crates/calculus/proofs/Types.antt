-- A typed term has no free variable but those of its context (document 002, Lemma B.1), and it is the only type that it has: each by
-- induction on the derivation, at any view. With all bodies open its type has type star itself (Lemma B.5), if that holds of what the
-- book stores. The node fixes the rule, the rule the type; a down cast needs besides that a type has at most one step.
use Prim.Native.Nat.{ℕ, ◌<◌}
use mathlib.Core.List.{[]}
use mathlib.Core.Option.{some}
use mathlib.Core.Path.{◌≡◌, refl, sym, ap, subst}
use native.Mathlib.Omega.{arith}
use lib.ListN.{length}
use Rattle.calculus.specs.Term.{Term, star, pi, raise, substitute}
use Rattle.calculus.specs.Words.{Scoped, Named}
use Rattle.calculus.specs.Book.{Book, View, types, bodies}
use Rattle.calculus.specs.Rules.{Context, ◌⊩◌⟶◌, ◌∋◌⦂◌, here, there, WellFormed, env_var, ◌∣◌∣◌⊢◌⦂◌, t_ax, t_var, t_app, t_lam, t_pi, t_castup, t_castdown, t_mu, t_name}
use Rattle.calculus.proofs.Books.{types_within}
use Rattle.calculus.proofs.Reduction.{determinism}
use Rattle.calculus.proofs.Along.{product_typed, Closed}
use Rattle.calculus.proofs.Thinning.{thinning}
use Rattle.calculus.proofs.Substitution.{substitution, anywhere}

within : {Γ : Context} {i : ℕ} {τ : Term} → Γ ∋ i ⦂ τ → i < length Γ
within here = omega arith
within (there x) = let h = within x in omega arith

pub scoped : {B : Book} {v : View} {Γ : Context} {e τ : Term} → B ∣ v ∣ Γ ⊢ e ⦂ τ → Scoped (length Γ) e
unfolding Scoped
scoped (t_ax w) = tt
scoped (t_var w x) = within x
scoped (t_app f u) = (scoped f, scoped u)
scoped (t_lam e p) = ((scoped p).0, scoped e)
scoped (t_pi a b) = (scoped a, scoped b)
scoped (t_castup e a s) = (scoped a, scoped e)
scoped (t_castdown e a s) = scoped e
scoped (t_mu e a) = (scoped a, scoped e)
scoped (t_name w h) = tt

-- Nor has it a name that is not in the book.
pub named : {B : Book} {v : View} {Γ : Context} {e τ : Term} → B ∣ v ∣ Γ ⊢ e ⦂ τ → Named (length B) e
unfolding Named
named (t_ax w) = tt
named (t_var w x) = tt
named (t_app f u) = (named f, named u)
named (t_lam e p) = ((named p).0, named e)
named (t_pi a b) = (named a, named b)
named (t_castup e a s) = (named a, named e)
named (t_castdown e a s) = named e
named (t_mu e a) = (named a, named e)
named {B} (t_name {i = i} w h) = types_within B i h

-- A book whose stored types are types, and whose bodies have them, with all bodies open.
pub record Sound (B : Book) : Type 0 where
  pub closed : Closed B
  pub types_typed : (i : ℕ) (τ : Term) → types B i ≡ some τ → B ∣ bodies B ∣ [] ⊢ τ ⦂ star
  pub bodies_typed : (i : ℕ) (e τ : Term) → bodies B i ≡ some e → types B i ≡ some τ → B ∣ bodies B ∣ [] ⊢ e ⦂ τ

module _ {B : Book} (S : Sound B) where
  annotation_typed : {Γ : Context} {i : ℕ} {τ : Term} → Γ ∋ i ⦂ τ → WellFormed B (bodies B) Γ → B ∣ bodies B ∣ Γ ⊢ τ ⦂ star
  unfolding raise
  annotation_typed here (env_var w a) = thinning S.closed a (env_var w a)
  annotation_typed (there x) (env_var w a) = thinning S.closed (annotation_typed x w) (env_var w a)

  correct_at : {v : View} {Γ : Context} {e τ : Term} → v ≡ bodies B → B ∣ v ∣ Γ ⊢ e ⦂ τ → B ∣ bodies B ∣ Γ ⊢ τ ⦂ star
  unfolding substitute Scoped
  correct_at {Γ = Γ} q (t_ax w) = t_ax (subst (λ v. WellFormed B v Γ) q w)
  correct_at {Γ = Γ} q (t_var w x) = annotation_typed x (subst (λ v. WellFormed B v Γ) q w)
  correct_at {Γ = Γ} q (t_app {e₂ = u} {τ₂ = a} f d) =
      substitution S.closed (product_typed (correct_at q f)).2 (subst (λ v. B ∣ v ∣ Γ ⊢ u ⦂ a) q d)
  correct_at q (t_lam e p) = p
  correct_at q (t_pi a b) = correct_at q a
  correct_at {Γ = Γ} q (t_castup {τ₁ = a} e d s) = subst (λ v. B ∣ v ∣ Γ ⊢ a ⦂ star) q d
  correct_at q (t_castdown e a s) = a
  correct_at {Γ = Γ} q (t_mu {τ = a} e d) = subst (λ v. B ∣ v ∣ Γ ⊢ a ⦂ star) q d
  correct_at {Γ = Γ} q (t_name {i = i} {τ = τ} w h) =
      anywhere S.closed (S.closed.shut_types i τ h) tt (subst (λ v. WellFormed B v Γ) q w) (S.types_typed i τ h)

  pub correctness : {Γ : Context} {e τ : Term} → B ∣ bodies B ∣ Γ ⊢ e ⦂ τ → B ∣ bodies B ∣ Γ ⊢ τ ⦂ star
  correctness d = correct_at refl d

lookup_unique : {Γ : Context} {i : ℕ} {σ τ : Term} → Γ ∋ i ⦂ σ → Γ ∋ i ⦂ τ → σ ≡ τ
lookup_unique here here = refl
lookup_unique (there x) (there y) = ap (raise 1 0) (lookup_unique x y)

codomain_unique : {a b c d : Term} → pi a b ≡ pi c d → b ≡ d
codomain_unique p = cc

pub uniqueness : {B : Book} {v : View} {Γ : Context} {e σ τ : Term} → B ∣ v ∣ Γ ⊢ e ⦂ σ → B ∣ v ∣ Γ ⊢ e ⦂ τ → σ ≡ τ
uniqueness (t_ax w) (t_ax _) = refl
uniqueness (t_var w x) (t_var _ y) = lookup_unique x y
uniqueness (t_app {e₂ = u} f a) (t_app g b) = ap (substitute 0 u) (codomain_unique (uniqueness f g))
uniqueness (t_lam {τ₁ = a} e p) (t_lam d q) = ap (pi a) (uniqueness e d)
uniqueness (t_pi a b) (t_pi c d) = refl
uniqueness (t_castup e a s) (t_castup d b r) = refl
uniqueness {v = v} (t_castdown e a s) (t_castdown {τ₂ = τ} d b r) = determinism s (subst (λ t. v ⊩ t ⟶ τ) (sym (uniqueness e d)) r)
uniqueness (t_mu e a) (t_mu d b) = refl
uniqueness (t_name w h) (t_name _ k) = cc (h, k)
