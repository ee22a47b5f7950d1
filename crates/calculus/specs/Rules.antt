-- The published rules (document 002, A.2 and A.3), under the paper's names and with every premise that it prints; and those of a name
-- (document 02, 2.3). They are read over a book B; which bodies step is told by a view `v` of it.
use Rattle.std.specs.Prelude.{ℕ, zero, suc, List, [], ◌∷◌, ◌≡◌}
use Rattle.std.proofs.Math.Option.{some}
use Rattle.calculus.specs.Term.{Term, var, star, app, lam, pi, castup, castdown, mu, name, raise, substitute}
use Rattle.calculus.specs.Book.{Book, View, types, bodies}

infix 30 ◌⊩◌⟶◌ ◌∣◌∣◌⊢◌⦂◌ ◌∋◌⦂◌
-- A.2, one_step reduction.
pub data ◌⊩◌⟶◌ (v : View) : Term → Term → Type 0 where
  s_beta : {τ e₁ e₂ : Term} → v ⊩ app (lam τ e₁) e₂ ⟶ substitute 0 e₂ e₁
  s_castdownup : {τ e : Term} → v ⊩ castdown (castup τ e) ⟶ e
  s_app : {e₁ e₁' e₂ : Term} → v ⊩ e₁ ⟶ e₁' → v ⊩ app e₁ e₂ ⟶ app e₁' e₂
  s_castdown : {e e' : Term} → v ⊩ e ⟶ e' → v ⊩ castdown e ⟶ castdown e'
  s_mu : {τ e : Term} → v ⊩ mu τ e ⟶ substitute 0 (mu τ e) e
  -- "Such a word [...] steps to the stored body", where the view shows it.
  s_name : {i : ℕ} {e : Term} → v i ≡ some e → v ⊩ name i ⟶ e

-- Document 01: "A term can step when the one_step rules give it a next state."
abbrev pub CanStep : View → Term → Type 0
CanStep v e = (e' : Term) × (v ⊩ e ⟶ e')

-- A.1, values.
pub data Value : Term → Type 0 where
  v_star : Value star
  v_lam : {τ e : Term} → Value (lam τ e)
  v_pi : {τ₁ τ₂ : Term} → Value (pi τ₁ τ₂)
  v_castup : {τ e : Term} → Value (castup τ e)

-- A.1, contexts: the annotations, innermost first, each as it stands outside its own binder.
abbrev pub Context : Type 0
Context = List Term

-- A.3, x : τ ∈ Γ. The annotation of the variable, raised to the present context.
pub data ◌∋◌⦂◌ : Context → ℕ → Term → Type 0 where
  here : {Γ : Context} {τ : Term} → (τ ∷ Γ) ∋ zero ⦂ raise 1 0 τ
  there : {Γ : Context} {σ τ : Term} {i : ℕ} → Γ ∋ i ⦂ τ → (σ ∷ Γ) ∋ suc i ⦂ raise 1 0 τ

-- A.3, well_formed contexts ⊢ Γ, and expression typing Γ ⊢ e : τ. "The two star premises that are proved and never tested are read with
-- all bodies open": those of T_LAM and T_CASTDOWN.
mutual
  pub data WellFormed (B : Book) : View → Context → Type 0 where
    env_empty : {v : View} → WellFormed B v []
    env_var : {v : View} {Γ : Context} {τ : Term} → WellFormed B v Γ → B ∣ v ∣ Γ ⊢ τ ⦂ star → WellFormed B v (τ ∷ Γ)

  pub data ◌∣◌∣◌⊢◌⦂◌ (B : Book) : View → Context → Term → Term → Type 0 where
    t_ax : {v : View} {Γ : Context} → WellFormed B v Γ → B ∣ v ∣ Γ ⊢ star ⦂ star
    t_var : {v : View} {Γ : Context} {i : ℕ} {τ : Term} → WellFormed B v Γ → Γ ∋ i ⦂ τ → B ∣ v ∣ Γ ⊢ var i ⦂ τ
    t_app : {v : View} {Γ : Context} {e₁ e₂ τ₁ τ₂ : Term}
        → B ∣ v ∣ Γ ⊢ e₁ ⦂ pi τ₂ τ₁ → B ∣ v ∣ Γ ⊢ e₂ ⦂ τ₂ → B ∣ v ∣ Γ ⊢ app e₁ e₂ ⦂ substitute 0 e₂ τ₁
    t_lam : {v : View} {Γ : Context} {e τ₁ τ₂ : Term}
        → B ∣ v ∣ (τ₁ ∷ Γ) ⊢ e ⦂ τ₂ → B ∣ bodies B ∣ Γ ⊢ pi τ₁ τ₂ ⦂ star → B ∣ v ∣ Γ ⊢ lam τ₁ e ⦂ pi τ₁ τ₂
    t_pi : {v : View} {Γ : Context} {τ₁ τ₂ : Term}
        → B ∣ v ∣ Γ ⊢ τ₁ ⦂ star → B ∣ v ∣ (τ₁ ∷ Γ) ⊢ τ₂ ⦂ star → B ∣ v ∣ Γ ⊢ pi τ₁ τ₂ ⦂ star
    t_castup : {v : View} {Γ : Context} {e τ₁ τ₂ : Term}
        → B ∣ v ∣ Γ ⊢ e ⦂ τ₂ → B ∣ v ∣ Γ ⊢ τ₁ ⦂ star → v ⊩ τ₁ ⟶ τ₂ → B ∣ v ∣ Γ ⊢ castup τ₁ e ⦂ τ₁
    t_castdown : {v : View} {Γ : Context} {e τ₁ τ₂ : Term}
        → B ∣ v ∣ Γ ⊢ e ⦂ τ₁ → B ∣ bodies B ∣ Γ ⊢ τ₂ ⦂ star → v ⊩ τ₁ ⟶ τ₂ → B ∣ v ∣ Γ ⊢ castdown e ⦂ τ₂
    t_mu : {v : View} {Γ : Context} {e τ : Term}
        → B ∣ v ∣ (τ ∷ Γ) ⊢ e ⦂ raise 1 0 τ → B ∣ v ∣ Γ ⊢ τ ⦂ star → B ∣ v ∣ Γ ⊢ mu τ e ⦂ τ
    -- "Such a word has the stored type, raised by nothing."
    t_name : {v : View} {Γ : Context} {i : ℕ} {τ : Term} → WellFormed B v Γ → types B i ≡ some τ → B ∣ v ∣ Γ ⊢ name i ⦂ τ
