-- Typing goes along a substitution, whatever is known of its terms, if what is known gives each variable's term its type and goes
-- under a binder; with all bodies open, over a book of closed terms. Thinning and substitution are two instances: the rules are gone
-- through once, here.
use Prim.Native.Nat.{ℕ}
use mathlib.Core.List.{◌∷◌}
use mathlib.Core.Path.{◌≡◌, refl, subst}
use Rattle.calculus.specs.Term.{Term, star, pi}
use Rattle.calculus.specs.Book.{Book, View, types, bodies}
use Rattle.calculus.specs.Rules.{◌⊩◌⟶◌, Context, ◌∋◌⦂◌, WellFormed, env_var, ◌∣◌∣◌⊢◌⦂◌, t_ax, t_var, t_app, t_lam, t_pi, t_castup, t_castdown, t_mu, t_name}
use Rattle.calculus.proofs.Parallel.{traverse, lift, sub}
use Rattle.calculus.proofs.Bridge.{sub_raise, sub_substitute}
use Rattle.calculus.proofs.Scoping.{Shut, sub_closed}
use Rattle.calculus.proofs.Reduction.{step_sub}

-- T_PI is the one rule for a product.
pub product_typed : {B : Book} {v : View} {Γ : Context} {a b τ : Term}
    → B ∣ v ∣ Γ ⊢ pi a b ⦂ τ
    → (τ ≡ star) × (B ∣ v ∣ Γ ⊢ a ⦂ star) × (B ∣ v ∣ (a ∷ Γ) ⊢ b ⦂ star)
product_typed (t_pi a b) = (refl, a, b)

-- All that a book stores is closed.
pub record Closed (B : Book) : Type 0 where
  pub shut_types : Shut (types B)
  pub shut_bodies : Shut (bodies B)

-- What is known of a substitution from the context Γ to Δ.
pub record Carries (B : Book) (P : (ℕ → Term) → Context → Context → Type 0) : Type 0 where
  pub at_variable : {σ : ℕ → Term} {Γ Δ : Context} {i : ℕ} {τ : Term}
      → P σ Γ Δ → WellFormed B (bodies B) Δ → Γ ∋ i ⦂ τ → B ∣ bodies B ∣ Δ ⊢ σ i ⦂ sub σ τ
  pub under_binder : {σ : ℕ → Term} {Γ Δ : Context} {τ : Term}
      → P σ Γ Δ → WellFormed B (bodies B) (sub σ τ ∷ Δ) → P (lift σ) (τ ∷ Γ) (sub σ τ ∷ Δ)

module _ {B : Book} (C : Closed B) {P : (ℕ → Term) → Context → Context → Type 0} (c : Carries B P) where
  -- A step at the view with all bodies open goes along.
  step_along : {v : View} {e x : Term} (σ : ℕ → Term) → v ≡ bodies B → v ⊩ e ⟶ x → bodies B ⊩ sub σ e ⟶ sub σ x
  step_along {e = e} {x} σ q s = step_sub σ C.shut_bodies (subst (λ v. v ⊩ e ⟶ x) q s)

  -- The view of a derivation is a variable here, so that its cases are told apart; it is the one with all bodies open.
  along_at : {σ : ℕ → Term} {Γ Δ : Context} {v : View} {e τ : Term}
      → v ≡ bodies B
      → P σ Γ Δ
      → WellFormed B (bodies B) Δ
      → B ∣ v ∣ Γ ⊢ e ⦂ τ
      → B ∣ bodies B ∣ Δ ⊢ sub σ e ⦂ sub σ τ
  unfolding sub traverse
  along_at q p w (t_ax _) = t_ax w
  along_at q p w (t_var _ x) = c.at_variable p w x
  along_at {σ = σ} q p w (t_app {e₂ = u} {τ₁ = b} f a) = rw (sub_substitute σ u b) (t_app (along_at q p w f) (along_at q p w a))
  along_at {σ = σ} q p w (t_lam e r) =
      let r' = along_at refl p w r in
      let w' = env_var w (product_typed r').1 in
      t_lam (along_at {σ = lift σ} q (c.under_binder p w') w' e) r'
  along_at {σ = σ} q p w (t_pi a b) =
      let a' = along_at q p w a in
      let w' = env_var w a' in
      t_pi a' (along_at {σ = lift σ} q (c.under_binder p w') w' b)
  along_at {σ = σ} q p w (t_castup e a s) = t_castup (along_at q p w e) (along_at q p w a) (step_along σ q s)
  along_at {σ = σ} q p w (t_castdown e a s) = t_castdown (along_at q p w e) (along_at refl p w a) (step_along σ q s)
  along_at {σ = σ} q p w (t_mu e a) =
      let a' = along_at q p w a in
      let w' = env_var w a' in
      t_mu (rw sub_raise at (along_at {σ = lift σ} q (c.under_binder p w') w' e)) a'
  along_at {σ = σ} q p w (t_name {i = i} {τ = τ} _ h) = rw (sub_closed σ τ (C.shut_types i τ h)) (t_name w h)

  pub along : {σ : ℕ → Term} {Γ Δ : Context} {e τ : Term}
      → P σ Γ Δ
      → WellFormed B (bodies B) Δ
      → B ∣ bodies B ∣ Γ ⊢ e ⦂ τ
      → B ∣ bodies B ∣ Δ ⊢ sub σ e ⦂ sub σ τ
  along p w d = along_at refl p w d
