-- Steps (document 002, Lemma B.6): none from a value; at most one from each term, since S_BETA and S_CASTDOWNUP apply only where the
-- part is a value; and the same under every substitution, if the bodies that names unfold to are closed. Each by induction on the step.
use Prim.Native.Nat.{ℕ}
use mathlib.Core.Path.{◌≡◌, refl, ap}
use Rattle.calculus.specs.Term.{Term, app, castdown, mu}
use Rattle.calculus.specs.Book.{View}
use Rattle.calculus.specs.Rules.{◌⊩◌⟶◌, s_beta, s_castdownup, s_app, s_castdown, s_mu, s_name, Value, v_star, v_lam, v_pi, v_castup}
use Rattle.calculus.proofs.Parallel.{traverse, sub}
use Rattle.calculus.proofs.Bridge.{sub_substitute}
use Rattle.calculus.proofs.Scoping.{Shut, sub_closed}

pub determinism : {v : View} {e x y : Term} → v ⊩ e ⟶ x → v ⊩ e ⟶ y → x ≡ y
determinism s_beta s_beta = refl
determinism s_beta (s_app h) = elim h [ ]
determinism s_castdownup s_castdownup = refl
determinism s_castdownup (s_castdown h) = elim h [ ]
determinism (s_app h) s_beta = elim h [ ]
determinism (s_app {e₂ = u} h) (s_app k) = ap (λ f. app f u) (determinism h k)
determinism (s_castdown h) s_castdownup = elim h [ ]
determinism (s_castdown h) (s_castdown k) = ap castdown (determinism h k)
determinism s_mu s_mu = refl
determinism (s_name h) (s_name k) = cc (h, k)

pub value_rests : {v : View} {e x : Term} → Value e → v ⊩ e ⟶ x → ⊥
value_rests v_star h = elim h [ ]
value_rests v_lam h = elim h [ ]
value_rests v_pi h = elim h [ ]
value_rests v_castup h = elim h [ ]

pub step_sub : {v : View} {e x : Term} (σ : ℕ → Term) → Shut v → v ⊩ e ⟶ x → v ⊩ sub σ e ⟶ sub σ x
unfolding sub traverse
step_sub σ c (s_beta {e₁ = e} {e₂ = u}) = rw (sub_substitute σ u e) s_beta
step_sub σ c s_castdownup = s_castdownup
step_sub σ c (s_app h) = s_app (step_sub σ c h)
step_sub σ c (s_castdown h) = s_castdown (step_sub σ c h)
step_sub σ c (s_mu {τ = a} {e = e}) = rw (sub_substitute σ (mu a e) e) s_mu
step_sub σ c (s_name {i} {e} h) = rw (sub_closed σ e (c i e h)) (s_name h)
