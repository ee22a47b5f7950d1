-- Inference gives the rules' answer and no other, over a sound book and at any view of its bodies. A term in scope of a well_formed
-- context that names what is in the book is typed within the limit or fails at a
-- test: the parts are decided by recursion, and the tests in their order. As inference answers whatever holds, its answer holds.
use Prim.Native.Nat.{ℕ, zero, suc, ◌≤◌, ◌<◌}
use mathlib.Core.Bool.{true≢false}
use mathlib.Core.List.{[], ◌∷◌}
use mathlib.Core.Logic.{◌≢◌, ◌⊎◌, inl, inr}
use mathlib.Core.Path.{◌≡◌, sym, ◌∙◌, subst, subst₂}
use native.Mathlib.Decide.{ℕ_discrete, dec_le}
use native.Mathlib.Nat.{le_of_suc-le-suc}
use native.Mathlib.Omega.{arith}
use lib.ListN.{length}
use Rattle.calculus.specs.Term.{Term, Term-discrete, var, star, app, lam, pi, castup, castdown, mu, name, size, raise, substitute}
use Rattle.calculus.specs.Answer.{ok, refused, Reason, over_limit}
use Rattle.calculus.specs.Words.{first_part, second_part, Scoped, Named}
use Rattle.calculus.specs.Book.{Book, View, ◌⊆◌, types, bodies}
use Rattle.calculus.specs.Rules.{Context, WellFormed, env_var, ◌⊩◌⟶◌, CanStep, ◌∋◌⦂◌, here, there}
use Rattle.calculus.specs.Limit.{◌∣◌∣◌⊢⟨◌⟩◌⦂◌}
use Rattle.calculus.specs.Failing.{Fails, star_over, var_over, app_function, app_not_product, app_argument, app_mismatch, app_over, lam_annotation, lam_not_star, lam_body, lam_over, pi_domain, pi_domain_not_star, pi_codomain, pi_codomain_not_star, pi_over, castup_annotation, castup_not_star, castup_body, castup_rests, castup_step_over, castup_mismatch, castup_over, castdown_body, castdown_rests, castdown_over, mu_annotation, mu_not_star, mu_body, mu_mismatch, mu_over, name_over}
use Rattle.calculus.specs.Step.{Next, step}
use Rattle.calculus.specs.Infer.{infer, annotation}
use Rattle.calculus.proofs.Says.{ok_not_refused}
use Rattle.calculus.proofs.Reduction.{value_rests}
use Rattle.calculus.proofs.Stepping.{Finds, finds_value, finds_stuck, finds_next, step_finds}
use Rattle.calculus.proofs.Books.{type_of}
use Rattle.calculus.proofs.Types.{Sound}
use Rattle.calculus.proofs.Within.{star_within, var_within, app_within, lam_within, pi_within, castup_within, castdown_within, mu_within, name_within}
use Rattle.calculus.proofs.Completeness.{infer_complete, refused_complete}

-- What the rules say of a term: a type within the limit, or where typing first fails.
abbrev Verdict : Book → View → ℕ → Context → ℕ → Term → Type 0
Verdict B v L Γ p e = ((τ : Term) × (B ∣ v ∣ Γ ⊢⟨ L ⟩ e ⦂ τ)) ⊎ ((r : Reason) × (q : ℕ) × Fails B v L Γ p e r q)

-- Each test, decided: where it fails the term fails, and else the verdict is that of the tests that follow.
module _ {B : Book} {v : View} {L : ℕ} {Γ : Context} {p : ℕ} {e : Term} where
  failing : {r : Reason} {q : ℕ} → Fails B v L Γ p e r q → Verdict B v L Γ p e
  failing {r} {q} d = inr (r, q, d)

  -- A part has a type.
  part : {Γ' : Context} {p' : ℕ} {e' : Term} → Verdict B v L Γ' p' e'
      → ((r : Reason) (q : ℕ) → Fails B v L Γ' p' e' r q → Fails B v L Γ p e r q)
      → ((τ : Term) → B ∣ v ∣ Γ' ⊢⟨ L ⟩ e' ⦂ τ → Verdict B v L Γ p e)
      → Verdict B v L Γ p e
  part (inl (τ, h)) else-fails rest = rest τ h
  part (inr (r, q, d)) else-fails rest = failing (else-fails r q d)

  -- σ, of which P holds, equals τ; then P holds of τ.
  equals : (P : Term → Type 0) {r : Reason} {q : ℕ} {σ : Term} (τ : Term) → P σ
      → (σ ≢ τ → Fails B v L Γ p e r q)
      → (P τ → Verdict B v L Γ p e)
      → Verdict B v L Γ p e
  equals P {σ} τ h else-fails rest = on (Term-discrete ℕ_discrete σ τ)
    where
      on : Dec (σ ≡ τ) → Verdict B v L Γ p e
      on (yes x) = rest (subst P x h)
      on (no n) = failing (else-fails n)

  -- A part has the type star.
  star_part : {Γ' : Context} {p' : ℕ} {a : Term} {r' : Reason} {q' : ℕ} → Verdict B v L Γ' p' a
      → ((r : Reason) (q : ℕ) → Fails B v L Γ' p' a r q → Fails B v L Γ p e r q)
      → ((σ : Term) → B ∣ v ∣ Γ' ⊢⟨ L ⟩ a ⦂ σ → σ ≢ star → Fails B v L Γ p e r' q')
      → (B ∣ v ∣ Γ' ⊢⟨ L ⟩ a ⦂ star → Verdict B v L Γ p e)
      → Verdict B v L Γ p e
  star_part {Γ' = Γ'} {a = a} d part-fails else-fails rest =
      part d part-fails λ σ h. equals (λ x. B ∣ v ∣ Γ' ⊢⟨ L ⟩ a ⦂ x) star h (else-fails σ h) rest

  -- τ, of which P holds, is a product; then P holds of that product.
  is_product : (P : Term → Type 0) {r : Reason} {q : ℕ} (τ : Term) → P τ
      → (((a b : Term) → τ ≢ pi a b) → Fails B v L Γ p e r q)
      → ((a b : Term) → P (pi a b) → Verdict B v L Γ p e)
      → Verdict B v L Γ p e
  is_product P (var i) h else-fails rest = failing (else-fails λ _ _ x. absurd (true≢false (cc x)))
  is_product P star h else-fails rest = failing (else-fails λ _ _ x. absurd (true≢false (cc x)))
  is_product P (app f u) h else-fails rest = failing (else-fails λ _ _ x. absurd (true≢false (cc x)))
  is_product P (lam a t) h else-fails rest = failing (else-fails λ _ _ x. absurd (true≢false (cc x)))
  is_product P (pi a b) h else-fails rest = rest a b h
  is_product P (castup a t) h else-fails rest = failing (else-fails λ _ _ x. absurd (true≢false (cc x)))
  is_product P (castdown t) h else-fails rest = failing (else-fails λ _ _ x. absurd (true≢false (cc x)))
  is_product P (mu a t) h else-fails rest = failing (else-fails λ _ _ x. absurd (true≢false (cc x)))
  is_product P (name i) h else-fails rest = failing (else-fails λ _ _ x. absurd (true≢false (cc x)))

  -- τ steps.
  steps : {r : Reason} {q : ℕ} (τ : Term)
      → (¬ CanStep v τ → Fails B v L Γ p e r q)
      → ((τ' : Term) → v ⊩ τ ⟶ τ' → Verdict B v L Γ p e)
      → Verdict B v L Γ p e
  steps τ else-fails rest = on (step_finds v τ)
    where
      on : {x : Next} → Finds v τ x → Verdict B v L Γ p e
      on (finds_value w) = failing (else-fails (λ c. value_rests w c.1))
      on (finds_stuck _ n) = failing (else-fails n)
      on (finds_next {x = x} s k) = rest x s

  -- τ fits the limit.
  fits_limit : (τ : Term)
      → (L < size τ → Fails B v L Γ p e over_limit p)
      → (size τ ≤ L → Verdict B v L Γ p e)
      → Verdict B v L Γ p e
  fits_limit τ else-fails rest = on (dec_le (size τ) L)
    where
      on : Dec (size τ ≤ L) → Verdict B v L Γ p e
      on (yes h) = rest h
      on (no n) = failing (else-fails (omega arith))

  -- The type fits the limit: the last test.
  type_fits_limit : (τ : Term)
      → (L < size τ → Fails B v L Γ p e over_limit p)
      → (size τ ≤ L → B ∣ v ∣ Γ ⊢⟨ L ⟩ e ⦂ τ)
      → Verdict B v L Γ p e
  type_fits_limit τ else-fails typing = fits_limit τ else-fails λ h. inl (τ, typing h)

-- A variable in scope has its annotation.
annotated : (Γ : Context) (i : ℕ) → i < length Γ → Γ ∋ i ⦂ annotation Γ i
unfolding annotation
annotated [] i h = absurd (omega arith)
annotated (τ ∷ Γ) zero h = here
annotated (τ ∷ Γ) (suc i) h = there (annotated Γ i (le_of_suc-le-suc h))

module _ {B : Book} (S : Sound B) {v : View} (m : v ⊆ bodies B) where
  pub one_of_two : (L : ℕ) {Γ : Context} (p : ℕ) (e : Term)
      → WellFormed B v Γ
      → Scoped (length Γ) e
      → Named (length B) e
      → ((τ : Term) × (B ∣ v ∣ Γ ⊢⟨ L ⟩ e ⦂ τ)) ⊎ ((r : Reason) × (q : ℕ) × Fails B v L Γ p e r q)
  unfolding Scoped Named
  one_of_two L {Γ} p (var i) w s n = let x = annotated Γ i s in type_fits_limit (annotation Γ i) (var_over x) (var_within w x)
  one_of_two L p star w s n = type_fits_limit star star_over (star_within w)
  one_of_two L {Γ} p (app f u) w s n =
      part (one_of_two L (first_part p) f w s.0 n.0) (λ _ _. app_function) λ τ hf.
      is_product (λ x. B ∣ v ∣ Γ ⊢⟨ L ⟩ f ⦂ x) τ hf (app_not_product hf) λ a b hf.
      part (one_of_two L (second_part p f) u w s.1 n.1) (λ _ _. app_argument hf) λ σ hu.
      equals (λ x. B ∣ v ∣ Γ ⊢⟨ L ⟩ u ⦂ x) a hu (app_mismatch hf hu) λ hu.
      type_fits_limit (substitute 0 u b) (app_over hf hu) (app_within hf hu)
  one_of_two L p (lam a e) w s n =
      star_part (one_of_two L (first_part p) a w s.0 n.0) (λ _ _. lam_annotation) (λ _. lam_not_star) λ ha.
      part (one_of_two L (second_part p a) e (env_var w ha.typed) s.1 n.1) (λ _ _. lam_body ha) λ b he.
      type_fits_limit (pi a b) (lam_over ha he) (lam_within S m ha he)
  one_of_two L p (pi a b) w s n =
      star_part (one_of_two L (first_part p) a w s.0 n.0) (λ _ _. pi_domain) (λ _. pi_domain_not_star) λ ha.
      star_part (one_of_two L (second_part p a) b (env_var w ha.typed) s.1 n.1) (λ _ _. pi_codomain ha) (λ _. pi_codomain_not_star ha) λ hb.
      type_fits_limit star (pi_over ha hb) (pi_within ha hb)
  one_of_two L p (castup a e) w s n =
      star_part (one_of_two L (first_part p) a w s.0 n.0) (λ _ _. castup_annotation) (λ _. castup_not_star) λ ha.
      part (one_of_two L (second_part p a) e w s.1 n.1) (λ _ _. castup_body ha) λ τ he.
      steps a (castup_rests ha he) λ a' st.
      fits_limit a' (castup_step_over ha he st) λ h.
      equals (λ x. v ⊩ a ⟶ x) τ st (castup_mismatch ha he st h) λ st.
      type_fits_limit a (castup_over ha he st) (castup_within ha he st)
  one_of_two L p (castdown e) w s n =
      part (one_of_two L (first_part p) e w s n) (λ _ _. castdown_body) λ τ he.
      steps τ (castdown_rests he) λ τ' st.
      type_fits_limit τ' (castdown_over he st) (castdown_within S m he st)
  one_of_two L {Γ} p (mu a e) w s n =
      star_part (one_of_two L (first_part p) a w s.0 n.0) (λ _ _. mu_annotation) (λ _. mu_not_star) λ ha.
      part (one_of_two L (second_part p a) e (env_var w ha.typed) s.1 n.1) (λ _ _. mu_body ha) λ τ he.
      equals (λ x. B ∣ v ∣ (a ∷ Γ) ⊢⟨ L ⟩ e ⦂ x) (raise 1 0 a) he (mu_mismatch ha he) λ he.
      type_fits_limit a (mu_over ha he) (mu_within ha he)
  one_of_two L p (name i) w s n = let (τ, k) = type_of B i n in type_fits_limit τ (name_over k) (name_within w k)

  pub infer_sound : {L : ℕ} {Γ : Context} (p : ℕ) {e τ : Term}
      → WellFormed B v Γ
      → Scoped (length Γ) e
      → Named (length B) e
      → infer (types B) (step v) L Γ p e ≡ ok τ
      → B ∣ v ∣ Γ ⊢⟨ L ⟩ e ⦂ τ
  infer_sound {L} {Γ} p {e} {τ} w s n x = on (one_of_two L p e w s n)
    where
      on : Verdict B v L Γ p e → B ∣ v ∣ Γ ⊢⟨ L ⟩ e ⦂ τ
      on (inl (σ, h)) = subst (λ y. B ∣ v ∣ Γ ⊢⟨ L ⟩ e ⦂ y) (cc (x, infer_complete p h)) h
      on (inr (r, q, d)) = absurd (ok_not_refused (sym x ∙ refused_complete d))

  pub refused_sound : {L : ℕ} {Γ : Context} {p q : ℕ} {e : Term} {r : Reason}
      → WellFormed B v Γ
      → Scoped (length Γ) e
      → Named (length B) e
      → infer (types B) (step v) L Γ p e ≡ refused r q
      → Fails B v L Γ p e r q
  refused_sound {L} {Γ} {p} {q} {e} {r} w s n x = on (one_of_two L p e w s n)
    where
      on : Verdict B v L Γ p e → Fails B v L Γ p e r q
      on (inl (σ, h)) = absurd (ok_not_refused (sym (infer_complete p h) ∙ x))
      on (inr (r', q', d)) = subst₂ (λ y z. Fails B v L Γ p e y z) (cc (x, refused_complete d)) (cc (x, refused_complete d)) d
