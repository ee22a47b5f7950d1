-- Substitution (document 002, Lemma B.3): terms of the right types may stand for the variables. Under a binder the terms are thinned,
-- and the rules are gone through in `along`. A closed term has its type in every context.
use Prim.Native.Nat.{ℕ}
use mathlib.Core.List.{[], ◌∷◌}
use Rattle.calculus.specs.Term.{Term, var, raise, substitute}
use Rattle.calculus.specs.Words.{Scoped}
use Rattle.calculus.specs.Book.{Book, bodies}
use Rattle.calculus.specs.Rules.{Context, ◌∋◌⦂◌, here, there, WellFormed, ◌∣◌∣◌⊢◌⦂◌, t_var}
use Rattle.calculus.proofs.Parallel.{lift, sub}
use Rattle.calculus.proofs.Bridge.{raise_moves, sub_raise, single, substitute_is_sub, substitute_raise}
use Rattle.calculus.proofs.Scoping.{sub_closed}
use Rattle.calculus.proofs.Along.{Closed, Carries, along}
use Rattle.calculus.proofs.Thinning.{thinning, well_formed}

module _ {B : Book} (C : Closed B) where
  -- `σ` puts in, for each variable of Γ, a term that has its type in Δ.
  abbrev WellTyped : (ℕ → Term) → Context → Context → Type 0
  WellTyped σ Γ Δ = (i : ℕ) (τ : Term) → Γ ∋ i ⦂ τ → B ∣ bodies B ∣ Δ ⊢ σ i ⦂ sub σ τ

  well_typed_under : {σ : ℕ → Term} {Γ Δ : Context} {a : Term}
      → WellTyped σ Γ Δ
      → WellFormed B (bodies B) (sub σ a ∷ Δ)
      → WellTyped (lift σ) (a ∷ Γ) (sub σ a ∷ Δ)
  unfolding lift
  well_typed_under {σ} p w i t (here {τ = τ}) = rw (sub_raise σ τ) (t_var w here)
  well_typed_under {σ} p w i t (there {τ = τ} {i = k} x) = rw (sub_raise σ τ, ← raise_moves (σ k)) (thinning C (p k τ x) w)

  substitution_along : {σ : ℕ → Term} {Γ Δ : Context} {e τ : Term}
      → B ∣ bodies B ∣ Γ ⊢ e ⦂ τ
      → WellTyped σ Γ Δ
      → WellFormed B (bodies B) Δ
      → B ∣ bodies B ∣ Δ ⊢ sub σ e ⦂ sub σ τ
  substitution_along h p w = along C carries p w h
    where
      carries : Carries B WellTyped
      carries = record { at_variable = λ {i} {τ} p w x. p i τ x; under_binder = well_typed_under }

  pub substitution : {Γ : Context} {e τ u σ : Term}
      → B ∣ bodies B ∣ (σ ∷ Γ) ⊢ e ⦂ τ
      → B ∣ bodies B ∣ Γ ⊢ u ⦂ σ
      → B ∣ bodies B ∣ Γ ⊢ substitute 0 u e ⦂ substitute 0 u τ
  unfolding single
  substitution {Γ} {e} {τ} {u} {σ} h a = rw (substitute_is_sub u e, substitute_is_sub u τ) (substitution_along h fits (well_formed a))
    where
      fits : WellTyped (single u) (σ ∷ Γ) Γ
      fits i t (here {τ = b}) = rw (← substitute_is_sub u (raise 1 0 b), substitute_raise u b) a
      fits i t (there {τ = b} {i = k} x) = rw (← substitute_is_sub u (raise 1 0 b), substitute_raise u b) (t_var (well_formed a) x)

  pub anywhere : {Γ : Context} {e τ : Term}
      → Scoped 0 e
      → Scoped 0 τ
      → WellFormed B (bodies B) Γ
      → B ∣ bodies B ∣ [] ⊢ e ⦂ τ
      → B ∣ bodies B ∣ Γ ⊢ e ⦂ τ
  anywhere {Γ} {e} {τ} s r w h = rw (sub_closed var e s, sub_closed var τ r) at (substitution_along {σ = var} h (λ i t x. elim x [ ]) w)
