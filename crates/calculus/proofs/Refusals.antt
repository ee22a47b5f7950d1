-- What a refusal by the rules means. By any reason but 16 the term has no type at all, with or without a limit: the failing test
-- compares types that the rules give, and these are unique. Its reason is one of 10–16, and its place one of the term's.
use Prim.Native.Nat.{ℕ, ◌+◌}
use mathlib.Core.Logic.{◌≢◌}
use mathlib.Core.Path.{refl, ◌∙◌, subst}
use Rattle.calculus.specs.Term.{Term, size}
use Rattle.calculus.specs.Answer.{Reason, over_limit}
use Rattle.calculus.specs.Book.{Book, View, types}
use Rattle.calculus.specs.Rules.{Context, CanStep, ◌∣◌∣◌⊢◌⦂◌, t_app, t_lam, t_pi, t_castup, t_castdown, t_mu}
use Rattle.calculus.specs.Step.{step}
use Rattle.calculus.specs.Failing.{Fails, star_over, var_over, app_function, app_not_product, app_argument, app_mismatch, app_over, lam_annotation, lam_not_star, lam_body, lam_over, pi_domain, pi_domain_not_star, pi_codomain, pi_codomain_not_star, pi_over, castup_annotation, castup_not_star, castup_body, castup_rests, castup_step_over, castup_mismatch, castup_over, castdown_body, castdown_rests, castdown_over, mu_annotation, mu_not_star, mu_body, mu_mismatch, mu_over, name_over}
use Rattle.calculus.proofs.Says.{of_refused, By}
use Rattle.calculus.proofs.Reduction.{determinism}
use Rattle.calculus.proofs.Thinning.{well_formed}
use Rattle.calculus.proofs.Types.{uniqueness}
use Rattle.calculus.proofs.Completeness.{annotated, refused_complete}
use Rattle.calculus.proofs.Limits.{infer_numbered}

pub no_type : {B : Book} {v : View} {L : ℕ} {Γ : Context} {p q : ℕ} {e τ : Term} {r : Reason}
    → Fails B v L Γ p e r q
    → r ≢ over_limit
    → B ∣ v ∣ Γ ⊢ e ⦂ τ
    → ⊥
no_type (star_over h) n d = n refl
no_type (var_over v h) n d = n refl
no_type (app_function x) n (t_app df du) = no_type x n df
no_type (app_not_product hf m) n (t_app df du) = m _ _ (uniqueness hf.typed df)
no_type (app_argument hf x) n (t_app df du) = no_type x n du
no_type (app_mismatch hf hu m) n (t_app df du) = m (cc (uniqueness hf.typed df, uniqueness hu.typed du))
no_type (app_over hf hu h) n d = n refl
no_type (lam_annotation x) n (t_lam de dp) = no_type x n (annotated (well_formed de))
no_type (lam_not_star ha m) n (t_lam de dp) = m (uniqueness ha.typed (annotated (well_formed de)))
no_type (lam_body ha x) n (t_lam de dp) = no_type x n de
no_type (lam_over ha he h) n d = n refl
no_type (pi_domain x) n (t_pi da db) = no_type x n da
no_type (pi_domain_not_star ha m) n (t_pi da db) = m (uniqueness ha.typed da)
no_type (pi_codomain ha x) n (t_pi da db) = no_type x n db
no_type (pi_codomain_not_star ha hb m) n (t_pi da db) = m (uniqueness hb.typed db)
no_type (pi_over ha hb h) n d = n refl
no_type (castup_annotation x) n (t_castup de da s) = no_type x n da
no_type (castup_not_star ha m) n (t_castup de da s) = m (uniqueness ha.typed da)
no_type (castup_body ha x) n (t_castup de da s) = no_type x n de
no_type (castup_rests ha he m) n (t_castup de da s) = m (_, s)
no_type (castup_step_over ha he s h) n d = n refl
no_type (castup_mismatch ha he s h m) n (t_castup de da s') = m (determinism s s' ∙ uniqueness de he.typed)
no_type (castup_over ha he s h) n d = n refl
no_type (castdown_body x) n (t_castdown de ds s) = no_type x n de
no_type {v = v} (castdown_rests he m) n (t_castdown de ds s) = m (subst (CanStep v) (uniqueness de he.typed) (_, s))
no_type (castdown_over he s h) n d = n refl
no_type (mu_annotation x) n (t_mu de da) = no_type x n da
no_type (mu_not_star ha m) n (t_mu de da) = m (uniqueness ha.typed da)
no_type (mu_body ha x) n (t_mu de da) = no_type x n de
no_type (mu_mismatch ha he m) n (t_mu de da) = m (uniqueness he.typed de)
no_type (mu_over ha he h) n d = n refl
no_type (name_over k h) n d = n refl

pub fails_refusal : {B : Book} {v : View} {L : ℕ} {Γ : Context} {p q : ℕ} {e : Term} {r : Reason}
    → Fails B v L Γ p e r q
    → By 10 16 (p + size e) r q
fails_refusal {B} {v} {L} {Γ} {p} {e = e} f = of_refused (rw (refused_complete f) at (infer_numbered (types B) (step v) L Γ p e))
