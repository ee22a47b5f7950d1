-- Thinning (document 002, Lemma B.2): what is typed in a context is typed in every well_formed context that holds the same variables
-- with the same types, perhaps at other places. A renaming is a substitution of variables, so this is `along`.
use Prim.Native.Nat.{ℕ, zero, suc}
use mathlib.Core.List.{◌∷◌}
use mathlib.Core.Path.{◌≡◌, refl, sym, ap, subst}
use Rattle.calculus.specs.Term.{Term, var, raise}
use Rattle.calculus.specs.Book.{Book, View, bodies}
use Rattle.calculus.specs.Rules.{Context, ◌∋◌⦂◌, here, there, WellFormed, env_var, ◌∣◌∣◌⊢◌⦂◌, t_ax, t_var, t_app, t_lam, t_pi, t_castup, t_castdown, t_mu, t_name}
use Rattle.calculus.proofs.Parallel.{traverse, rename, lift, sub, rename_is_sub}
use Rattle.calculus.proofs.Bridge.{raise_moves, sub_raise}
use Rattle.calculus.proofs.Along.{Closed, Carries, along}

-- A context without its innermost annotation.
outer : {B : Book} {v : View} {Γ : Context} {τ : Term} → WellFormed B v (τ ∷ Γ) → WellFormed B v Γ
outer (env_var w a) = w

pub well_formed : {B : Book} {v : View} {Γ : Context} {e τ : Term} → B ∣ v ∣ Γ ⊢ e ⦂ τ → WellFormed B v Γ
well_formed (t_ax w) = w
well_formed (t_var w x) = w
well_formed (t_app f u) = well_formed f
well_formed (t_lam e p) = outer (well_formed e)
well_formed (t_pi a b) = well_formed a
well_formed (t_castup e a s) = well_formed e
well_formed (t_castdown e a s) = well_formed e
well_formed (t_mu e a) = well_formed a
well_formed (t_name w h) = w

-- The substitution puts variables of Δ in for those of Γ.
abbrev ToVariables : (ℕ → Term) → Context → Context → Type 0
ToVariables σ Γ Δ = (i : ℕ) (τ : Term) → Γ ∋ i ⦂ τ → (j : ℕ) × (σ i ≡ var j) × (Δ ∋ j ⦂ sub σ τ)

variable_typed : {B : Book} {σ : ℕ → Term} {Γ Δ : Context} {i : ℕ} {τ : Term}
    → ToVariables σ Γ Δ
    → WellFormed B (bodies B) Δ
    → Γ ∋ i ⦂ τ
    → B ∣ bodies B ∣ Δ ⊢ σ i ⦂ sub σ τ
variable_typed {i = i} {τ = τ} p w x = let (j, q, y) = p i τ x in rw q (t_var w y)

variables_under : {σ : ℕ → Term} {Γ Δ : Context} {a : Term} → ToVariables σ Γ Δ → ToVariables (lift σ) (a ∷ Γ) (sub σ a ∷ Δ)
unfolding lift rename traverse
variables_under {σ} p i t (here {τ = τ}) = (zero, refl, rw (sub_raise σ τ) here)
variables_under {σ} {Δ = Δ} {a} p i t (there {τ = τ} {i = k} x) =
    let (j, q, y) = p k τ x in
    (suc j, ap (rename suc) q, subst (λ b. (sub σ a ∷ Δ) ∋ suc j ⦂ b) (sym (sub_raise σ τ)) (there y))

-- `ρ` takes the variables of Γ to variables of Δ that have the same types.
abbrev Thins : (ℕ → ℕ) → Context → Context → Type 0
Thins ρ Γ Δ = (i : ℕ) (τ : Term) → Γ ∋ i ⦂ τ → Δ ∋ ρ i ⦂ rename ρ τ

module _ {B : Book} (C : Closed B) where
  thinning_along : {ρ : ℕ → ℕ} {Γ Δ : Context} {e τ : Term}
      → B ∣ bodies B ∣ Γ ⊢ e ⦂ τ
      → Thins ρ Γ Δ
      → WellFormed B (bodies B) Δ
      → B ∣ bodies B ∣ Δ ⊢ rename ρ e ⦂ rename ρ τ
  thinning_along {ρ} {Γ} {Δ} {e} {τ} h p w = rw (rename_is_sub ρ e, rename_is_sub ρ τ) (along C carries variables w h)
    where
      variables : ToVariables (λ i. var (ρ i)) Γ Δ
      variables i a x = (ρ i, refl, rw (← rename_is_sub ρ a) (p i a x))

      carries : Carries B ToVariables
      carries = record { at_variable = variable_typed; under_binder = λ p w. variables_under p }

  pub thinning : {Γ : Context} {e τ σ : Term}
      → B ∣ bodies B ∣ Γ ⊢ e ⦂ τ
      → WellFormed B (bodies B) (σ ∷ Γ)
      → B ∣ bodies B ∣ (σ ∷ Γ) ⊢ raise 1 0 e ⦂ raise 1 0 τ
  thinning {e = e} {τ} h w = rw (raise_moves e, raise_moves τ) (thinning_along h (λ i a x. rw (← raise_moves a) (there x)) w)
