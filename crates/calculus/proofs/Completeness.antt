-- Inference answers whatever the rules say: the type of a term typed within the limit, and the reason and the place of a failure.
-- Along a typing, or a failure, the outcome of every test is known, so inference computes. Hence no term has both.
use Prim.Native.Nat.{ℕ}
use mathlib.Core.List.{◌∷◌}
use mathlib.Core.Path.{◌≡◌, refl, sym, ◌∙◌}
use Rattle.calculus.specs.Term.{Term, var, star, app, lam, pi, castup, castdown, mu, name, substitute, raise}
use Rattle.calculus.specs.Answer.{ok, refused, Reason, ◌>>=◌, ◌>>◌, require}
use Rattle.calculus.specs.Words.{first_part, second_part}
use Rattle.calculus.specs.Book.{Book, View, types}
use Rattle.calculus.specs.Rules.{Context, WellFormed, env_var, ◌∣◌∣◌⊢◌⦂◌, t_ax, t_var, t_app, t_lam, t_pi, t_castup, t_castdown, t_mu, t_name}
use Rattle.calculus.specs.Step.{step}
use Rattle.calculus.specs.Limit.{Part, its_type, stepped_annotation, ◌∣◌∣◌⊢⟨◌⟩◌⦂◌}
use Rattle.calculus.specs.Failing.{Fails, star_over, var_over, app_function, app_not_product, app_argument, app_mismatch, app_over, lam_annotation, lam_not_star, lam_body, lam_over, pi_domain, pi_domain_not_star, pi_codomain, pi_codomain_not_star, pi_over, castup_annotation, castup_not_star, castup_body, castup_rests, castup_step_over, castup_mismatch, castup_over, castdown_body, castdown_rests, castdown_over, mu_annotation, mu_not_star, mu_body, mu_mismatch, mu_over, name_over}
use Rattle.calculus.specs.Infer.{infer, stored, product, measure}
use Rattle.calculus.proofs.Says.{ok_not_refused}
use Rattle.calculus.proofs.Thinning.{well_formed}
use Rattle.calculus.proofs.Within.{Fits, part_fits, type_fits}
use Rattle.calculus.proofs.Testing.{equal, unequal, fitting, over, no_product, steps, rests, annotation_of}

-- A node's own type passes its measure.
own : {B : Book} {v : View} {L : ℕ} {Γ : Context} (p : ℕ) {e τ : Term} → B ∣ v ∣ Γ ⊢ e ⦂ τ → Fits B v L Γ e → measure L p τ ≡ ok τ
own p {τ = τ} d h = fitting p τ (h τ (its_type d))

-- The annotation of an abstraction is typed, at the view, in the context of its body.
pub annotated : {B : Book} {v : View} {Γ : Context} {a : Term} → WellFormed B v (a ∷ Γ) → B ∣ v ∣ Γ ⊢ a ⦂ star
annotated (env_var w a) = a

-- By recursion on the term, whose node fixes the rule.
answers : {B : Book} {v : View} {L : ℕ} {Γ : Context} (p : ℕ) (e : Term) {τ : Term} → B ∣ v ∣ Γ ⊢ e ⦂ τ → Fits B v L Γ e → infer (types B) (step v) L Γ p e ≡ ok τ
unfolding infer stored ◌>>=◌ ◌>>◌ require product
answers p (var i) (t_var w x) h = rw (annotation_of x) (own p (t_var w x) h)
answers p star (t_ax w) h = own p (t_ax w) h
answers p (app f u) (t_app {τ₂ = a} df du) h =
    rw (answers (first_part p) f df (part_fits Part.function h), answers (second_part p f) u du (part_fits Part.argument h), equal a)
    (own p (t_app df du) h)
answers {Γ = Γ} p (lam a e) (t_lam de dp) h =
    let da = annotated (well_formed de) in
    rw (answers (first_part p) a da (part_fits Part.lam_annotation h), equal star, answers {Γ = a ∷ Γ} (second_part p a) e de (part_fits Part.lam_body h))
    (own p (t_lam de dp) h)
answers {Γ = Γ} p (pi a b) (t_pi da db) h =
    rw (answers (first_part p) a da (part_fits Part.domain h), equal star, answers {Γ = a ∷ Γ} (second_part p a) b db (part_fits Part.codomain h), equal star)
    (own p (t_pi da db) h)
answers p (castup a e) (t_castup {τ₂ = a'} de da s) h =
    rw (answers (first_part p) a da (part_fits Part.castup_annotation h), equal star, answers (second_part p a) e de (part_fits Part.castup_body h), steps p s, fitting p a' (h a' (stepped_annotation s)), equal a')
    (own p (t_castup de da s) h)
answers p (castdown e) (t_castdown de ds s) h =
    rw (answers (first_part p) e de (part_fits Part.castdown_body h), steps p s) (own p (t_castdown de ds s) h)
answers {Γ = Γ} p (mu a e) (t_mu de da) h =
    rw (answers (first_part p) a da (part_fits Part.mu_annotation h), equal star, answers {Γ = a ∷ Γ} (second_part p a) e de (part_fits Part.mu_body h), equal (raise 1 0 a))
    (own p (t_mu de da) h)
answers p (name i) (t_name w k) h = rw k (own p (t_name w k) h)

pub infer_complete : {B : Book} {v : View} {L : ℕ} {Γ : Context} {e τ : Term} (p : ℕ) → B ∣ v ∣ Γ ⊢⟨ L ⟩ e ⦂ τ → infer (types B) (step v) L Γ p e ≡ ok τ
infer_complete {e = e} p h = answers p e h.typed h.fits

pub refused_complete : {B : Book} {v : View} {L : ℕ} {Γ : Context} {p q : ℕ} {e : Term} {r : Reason} → Fails B v L Γ p e r q → infer (types B) (step v) L Γ p e ≡ refused r q
unfolding infer stored ◌>>=◌ ◌>>◌ require product
refused_complete {p = p} (star_over h) = over p star h
refused_complete {p = p} (var_over {τ = τ} v h) = rw (annotation_of v) (over p τ h)
refused_complete (app_function d) = rw (refused_complete d) refl
refused_complete {p = p} (app_not_product hf n) = rw (infer_complete (first_part p) hf, no_product p n) refl
refused_complete {p = p} (app_argument hf d) = rw (infer_complete (first_part p) hf, refused_complete d) refl
refused_complete {p = p} (app_mismatch {f} hf hu n) =
    rw (infer_complete (first_part p) hf, infer_complete (second_part p f) hu, unequal n) refl
refused_complete {p = p} (app_over {f} {u} {a} {b} hf hu h) =
    rw (infer_complete (first_part p) hf, infer_complete (second_part p f) hu, equal a) (over p (substitute 0 u b) h)
refused_complete (lam_annotation d) = rw (refused_complete d) refl
refused_complete {p = p} (lam_not_star ha n) = rw (infer_complete (first_part p) ha, unequal n) refl
refused_complete {p = p} (lam_body ha d) = rw (infer_complete (first_part p) ha, equal star, refused_complete d) refl
refused_complete {p = p} (lam_over {a} {b} ha he h) =
    rw (infer_complete (first_part p) ha, equal star, infer_complete (second_part p a) he) (over p (pi a b) h)
refused_complete (pi_domain d) = rw (refused_complete d) refl
refused_complete {p = p} (pi_domain_not_star ha n) = rw (infer_complete (first_part p) ha, unequal n) refl
refused_complete {p = p} (pi_codomain ha d) = rw (infer_complete (first_part p) ha, equal star, refused_complete d) refl
refused_complete {p = p} (pi_codomain_not_star {a} ha hb n) =
    rw (infer_complete (first_part p) ha, equal star, infer_complete (second_part p a) hb, unequal n) refl
refused_complete {p = p} (pi_over {a} ha hb h) =
    rw (infer_complete (first_part p) ha, equal star, infer_complete (second_part p a) hb, equal star) (over p star h)
refused_complete (castup_annotation d) = rw (refused_complete d) refl
refused_complete {p = p} (castup_not_star ha n) = rw (infer_complete (first_part p) ha, unequal n) refl
refused_complete {p = p} (castup_body ha d) = rw (infer_complete (first_part p) ha, equal star, refused_complete d) refl
refused_complete {p = p} (castup_rests {a} ha he n) =
    rw (infer_complete (first_part p) ha, equal star, infer_complete (second_part p a) he, rests p n) refl
refused_complete {p = p} (castup_step_over {a} {a'} ha he s h) =
    rw (infer_complete (first_part p) ha, equal star, infer_complete (second_part p a) he, steps p s, over p a' h) refl
refused_complete {p = p} (castup_mismatch {a} {a'} ha he s h n) =
    rw (infer_complete (first_part p) ha, equal star, infer_complete (second_part p a) he, steps p s, fitting p a' h, unequal n) refl
refused_complete {p = p} (castup_over {a} {a'} ha he s h) =
    rw (infer_complete (first_part p) ha, equal star, infer_complete (second_part p a) he, steps p s, fitting p a' (type_fits he), equal a') (over p a h)
refused_complete (castdown_body d) = rw (refused_complete d) refl
refused_complete {p = p} (castdown_rests he n) = rw (infer_complete (first_part p) he, rests p n) refl
refused_complete {p = p} (castdown_over {τ'} he s h) = rw (infer_complete (first_part p) he, steps p s) (over p τ' h)
refused_complete (mu_annotation d) = rw (refused_complete d) refl
refused_complete {p = p} (mu_not_star ha n) = rw (infer_complete (first_part p) ha, unequal n) refl
refused_complete {p = p} (mu_body ha d) = rw (infer_complete (first_part p) ha, equal star, refused_complete d) refl
refused_complete {p = p} (mu_mismatch {a} ha he n) =
    rw (infer_complete (first_part p) ha, equal star, infer_complete (second_part p a) he, unequal n) refl
refused_complete {p = p} (mu_over {a} ha he h) =
    rw (infer_complete (first_part p) ha, equal star, infer_complete (second_part p a) he, equal (raise 1 0 a)) (over p a h)
refused_complete {p = p} (name_over {τ = τ} k h) = rw k (over p τ h)

pub not_both : {B : Book} {v : View} {L : ℕ} {Γ : Context} {p q : ℕ} {e τ : Term} {r : Reason} → B ∣ v ∣ Γ ⊢⟨ L ⟩ e ⦂ τ → Fails B v L Γ p e r q → ⊥
not_both {p = p} h d = ok_not_refused (sym (infer_complete p h) ∙ refused_complete d)
