-- Typing within a limit (document 01, Typing, in checking order), from the rules alone.
use Rattle.std.specs.Prelude.{ℕ, ◌≤◌, ◌∷◌}
use Rattle.calculus.specs.Term.{Term, app, lam, pi, castup, castdown, mu, size}
use Rattle.calculus.specs.Book.{Book, View}
use Rattle.calculus.specs.Rules.{Context, ◌⊩◌⟶◌, ◌∣◌∣◌⊢◌⦂◌}

infix 30 ◌∣◌∣◌⊢⟨◌⟩◌⦂◌
-- `Part Γ e Γ' e'`: `e'`, in the context Γ', is a part of `e` in Γ; the second part of nodes 4, 5 and 6 stands under its annotation.
pub data Part : Context → Term → Context → Term → Type 0 where
  function : {Γ : Context} {f u : Term} → Part Γ (app f u) Γ f
  argument : {Γ : Context} {f u : Term} → Part Γ (app f u) Γ u
  lam_annotation : {Γ : Context} {a e : Term} → Part Γ (lam a e) Γ a
  lam_body : {Γ : Context} {a e : Term} → Part Γ (lam a e) (a ∷ Γ) e
  domain : {Γ : Context} {a b : Term} → Part Γ (pi a b) Γ a
  codomain : {Γ : Context} {a b : Term} → Part Γ (pi a b) (a ∷ Γ) b
  castup_annotation : {Γ : Context} {a e : Term} → Part Γ (castup a e) Γ a
  castup_body : {Γ : Context} {a e : Term} → Part Γ (castup a e) Γ e
  castdown_body : {Γ : Context} {e : Term} → Part Γ (castdown e) Γ e
  mu_annotation : {Γ : Context} {a e : Term} → Part Γ (mu a e) Γ a
  mu_body : {Γ : Context} {a e : Term} → Part Γ (mu a e) (a ∷ Γ) e

-- "Measured are the type of every subterm, when found, and every stepped type." The stepped type of a down cast is its type.
pub data Measured (B : Book) (v : View) : Context → Term → Term → Type 0 where
  its_type : {Γ : Context} {e σ : Term} → B ∣ v ∣ Γ ⊢ e ⦂ σ → Measured B v Γ e σ
  stepped_annotation : {Γ : Context} {a e σ : Term} → v ⊩ a ⟶ σ → Measured B v Γ (castup a e) σ
  at_part : {Γ Γ' : Context} {e e' σ : Term} → Part Γ e Γ' e' → Measured B v Γ' e' σ → Measured B v Γ e σ

-- Γ ⊢L e : τ. The rules give `e` the type τ, and every type measured on the way fits the limit.
pub record ◌∣◌∣◌⊢⟨◌⟩◌⦂◌ (B : Book) (v : View) (Γ : Context) (L : ℕ) (e τ : Term) : Type 0 where
  pub typed : B ∣ v ∣ Γ ⊢ e ⦂ τ
  pub fits : (σ : Term) → Measured B v Γ e σ → size σ ≤ L
