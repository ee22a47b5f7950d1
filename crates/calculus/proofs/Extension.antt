-- What is typed stays typed over a book that has more, and at a view that shows more: every derivation is one there. By induction on
-- derivations of typing and of well_formed contexts at once, since T_LAM has its annotation at the view only in the context of its body.
use Rattle.calculus.specs.Term.{Term}
use Rattle.calculus.specs.Book.{Book, View, ◌⊆◌, types, bodies}
use Rattle.calculus.specs.Rules.{◌⊩◌⟶◌, s_beta, s_castdownup, s_app, s_castdown, s_mu, s_name, Context, WellFormed, env_empty, env_var, ◌∣◌∣◌⊢◌⦂◌, t_ax, t_var, t_app, t_lam, t_pi, t_castup, t_castdown, t_mu, t_name}

pub step_more : {v w : View} {e x : Term} → v ⊆ w → v ⊩ e ⟶ x → w ⊩ e ⟶ x
step_more m s_beta = s_beta
step_more m s_castdownup = s_castdownup
step_more m (s_app s) = s_app (step_more m s)
step_more m (s_castdown s) = s_castdown (step_more m s)
step_more m s_mu = s_mu
step_more m (s_name {i} {e} h) = s_name (m i e h)

module _ (B C : Book) (more-types : types B ⊆ types C) (more-bodies : bodies B ⊆ bodies C) where
  -- At every view that shows more.
  abbrev Formed : View → Context → Type 0
  Formed v Γ = (w : View) → v ⊆ w → WellFormed C w Γ

  abbrev Typed : View → Context → Term → Term → Type 0
  Typed v Γ e τ = (w : View) → v ⊆ w → C ∣ w ∣ Γ ⊢ e ⦂ τ

  pub extended : {v : View} {Γ : Context} {e τ : Term} → B ∣ v ∣ Γ ⊢ e ⦂ τ → Typed v Γ e τ
  extended d = elim d as (λ v Γ _. Formed v Γ) (λ v Γ e τ _. Typed v Γ e τ) [
    | env_empty ↦ λ w m. env_empty
    | env_var (f → hf) (a → ha) ↦ λ w m. env_var (hf w m) (ha w m)
    | t_ax (f → hf) ↦ λ w m. t_ax (hf w m)
    | t_var (f → hf) x ↦ λ w m. t_var (hf w m) x
    | t_app (f → hf) (u → hu) ↦ λ w m. t_app (hf w m) (hu w m)
    | t_lam (e → he) (p → hp) ↦ λ w m. t_lam (he w m) (hp (bodies C) more-bodies)
    | t_pi (a → ha) (b → hb) ↦ λ w m. t_pi (ha w m) (hb w m)
    | t_castup (e → he) (a → ha) s ↦ λ w m. t_castup (he w m) (ha w m) (step_more m s)
    | t_castdown (e → he) (a → ha) s ↦ λ w m. t_castdown (he w m) (ha (bodies C) more-bodies) (step_more m s)
    | t_mu (e → he) (a → ha) ↦ λ w m. t_mu (he w m) (ha w m)
    | t_name {i = i} {τ = τ} (f → hf) h ↦ λ w m. t_name (hf w m) (more-types i τ h)
  ]
