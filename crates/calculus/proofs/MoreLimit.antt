-- More limit, same verdict. Past the three tests of the call, a check reads the words, which no limit changes, and infers, so it keeps
-- what inference keeps. By the rules nothing need be inferred: the same derivations hold, since what fits L fits a larger limit, and no
-- failing test but that of 16 asks for the limit.
use Prim.Native.Nat.{ℕ, ◌≤◌}
use mathlib.Core.List.{List, []}
use mathlib.Core.Logic.Dec
use mathlib.Core.Logic.{◌≢◌, ◌⊎◌, inl, inr}
use mathlib.Core.Path.{◌≡◌, refl, sym, ap, ap₂, ◌∙◌}
use native.Mathlib.Decide.{ℕ_discrete, dec_le}
use native.Mathlib.Nat.{le_refl, le_trans}
use native.Mathlib.Omega.{arith}
use lib.Dec.{lit≤}
use lib.ListN.{length, take}
use Rattle.calculus.specs.Term.{Term, size}
use Rattle.calculus.specs.Answer.{Answer, ok, refused, Reason, ◌>>=◌, number, over_limit}
use Rattle.calculus.specs.Book.{Book, View, types, seen}
use Rattle.calculus.specs.Rules.{Context}
use Rattle.calculus.specs.Limit.{◌∣◌∣◌⊢⟨◌⟩◌⦂◌}
use Rattle.calculus.specs.Failing.{Fails, star_over, var_over, app_function, app_not_product, app_argument, app_mismatch, app_over, lam_annotation, lam_not_star, lam_body, lam_over, pi_domain, pi_domain_not_star, pi_codomain, pi_codomain_not_star, pi_over, castup_annotation, castup_not_star, castup_body, castup_rests, castup_step_over, castup_mismatch, castup_over, castdown_body, castdown_rests, castdown_over, mu_annotation, mu_not_star, mu_body, mu_mismatch, mu_over, name_over}
use Rattle.calculus.specs.Scan.{read}
use Rattle.calculus.specs.Step.{step}
use Rattle.calculus.specs.Infer.{infer}
use Rattle.calculus.specs.Outcomes.{largest_limit, check_room, checked, check_by, check_over}
use Rattle.calculus.specs.Checks.{Allowed, limit_refused, work_refused, output_refused, SameType}
use Rattle.calculus.specs.MoreLimit.{Settled, told, Admitted, MoreLimit, Over, SettledOrOver, TellsAll, SameOrOver, LessLimit, MoreLimitByRules, Judged, OverLimitBecomes}
use Rattle.calculus.proofs.Says.{says_ok, says_refused, ok_not_refused}
use Rattle.calculus.proofs.Limits.{Numbered, Keeps, kept, sixteen, infer_keeps, infer_numbered}
use Rattle.calculus.proofs.ReadBack.{refused_misread, misread_numbers}
use Rattle.calculus.proofs.NumberInjective.{number_injective}
use Rattle.calculus.proofs.CheckDemand.{admitted, check_answer}
use Rattle.calculus.proofs.Acceptance.{front_of_begun}

-- A check is admitted, or refused by one of 1–3.
abbrev Admission : Book → ℕ → List ℕ → ℕ → List ℕ → List ℕ → Type 0
Admission B o ws L W O = Admitted L W O ⊎ ((r : Reason) × (p : ℕ) × ((check_over B o ws L W O).answer ≡ refused r p) × (number r ≤ 3))

admission : (B : Book) (o : ℕ) (ws : List ℕ) (L : ℕ) (W O : List ℕ) → Admission B o ws L W O
unfolding number
admission B o ws L W O = on (Dec.and (dec_le 1 L) (dec_le L largest_limit)) (dec_le (check_room L) (length W)) (dec_le L (length O))
  where
    on : Dec (Allowed L) → Dec (check_room L ≤ length W) → Dec (L ≤ length O) → Admission B o ws L W O
    on (yes a) (yes w) (yes k) = inl (a, w, k)
    on (yes a) (yes w) (no k) = inr (_, _, ap (λ c. c.answer) (check_answer B o ws L W O (output_refused a w (omega arith))), lit≤ tt)
    on (yes a) (no w) k = inr (_, _, ap (λ c. c.answer) (check_answer B o ws L W O (work_refused a (omega arith))), lit≤ tt)
    on (no n) w k = inr (_, _, ap (λ c. c.answer) (check_answer B o ws L W O (limit_refused n)), lit≤ tt)

admits : (B : Book) (o : ℕ) (ws : List ℕ) (L : ℕ) (W O : List ℕ) → Settled (check_over B o ws L W O).answer → Admitted L W O
unfolding Settled
admits B o ws L W O s = on (admission B o ws L W O)
  where
    on : Admission B o ws L W O → Admitted L W O
    on (inl a) = a
    on (inr (r, p, e, u)) = absurd (omega (arith, (rw e at s).0, u))

-- What inference answers is settled or 16.
inferred_settled : {n : ℕ} {x : Answer Term} (L : ℕ) (W O : List ℕ)
    → Numbered n x
    → Settled (checked (check_room L) W O x).answer ⊎ Over (checked (check_room L) W O x)
unfolding checked Settled number
inferred_settled L W O (says_ok _) = inl tt
inferred_settled L W O (says_refused {r} {p} (l, u, _)) = on (ℕ_discrete (number r) 16)
  where
    on : Dec (number r ≡ 16) → Settled (checked (check_room L) W O (refused r p)).answer ⊎ Over (checked (check_room L) W O (refused r p))
    on (yes e) = inr (p, ap (λ s. refused s p) (number_injective r over_limit e))
    on (no n) = inl (omega arith, λ e. omega (arith, n, u, e))

pub settled_or_over : SettledOrOver
unfolding check_by checked Settled ◌>>=◌
settled_or_over B o ws L W O (a, w, k) = rw (admitted B o ws L W O a w k) (on (read ws) refl)
  where
    on : (x : Answer Term)
        → read ws ≡ x
        → Settled (checked (check_room L) W O (x >>= λ t. infer (types B) (step (seen o B)) L [] 0 t)).answer ⊎ Over (checked (check_room L) W O (x >>= λ t. infer (types B) (step (seen o B)) L [] 0 t))
    on (ok t) e = inferred_settled L W O (infer_numbered (types B) (step (seen o B)) L [] 0 t)
    on (refused r p) e =
        let (l, u, _) = misread_numbers (refused_misread ws r p e) in
        inl (omega (arith, l), λ f. omega (arith, u, f))

pub tells_all : TellsAll
unfolding told
tells_all c c' e = on c.answer c'.answer e
  where
    on : (a a' : Answer ℕ)
        → told (record { answer = a; work = c.work; output = c.output }) ≡ told (record { answer = a'; work = c'.work; output = c'.output })
        → (a ≡ a') × ((n : ℕ) → a ≡ ok n → take n c.output ≡ take n c'.output)
    on (ok m) (ok m') e =
        let pair : ◌≡◌ {A = ℕ × List ℕ} (m, take m c.output) (m', take m' c'.output) = cc e in
        (ap (λ x. ok x.0) pair, λ n f. cc (f, ap (λ x. x.0) pair, ap (λ x. x.1) pair))
    on (ok m) (refused r p) e = absurd (ok_not_refused e)
    on (refused r p) (ok m) e = absurd (ok_not_refused (sym e))
    on (refused r p) (refused s q) e = (ap₂ refused (cc e) (cc e), λ n f. absurd (ok_not_refused (sym f)))

pub less_limit : LessLimit
unfolding check_by checked told ◌>>=◌
less_limit B o ws L L' W W' O O' more (a, w, k) (a', w', k') = rw (admitted B o ws L W O a w k, admitted B o ws L' W' O' a' w' k') (on (read ws))
  where
    same : (x : Answer Term) → told (checked (check_room L) W O x) ≡ told (checked (check_room L') W' O' x)
    same (ok τ) = ap (λ ws. ok (size τ, ws)) (front_of_begun τ O ∙ sym (front_of_begun τ O'))
    same (refused r p) = refl

    inferred : {n : ℕ} {x y : Answer Term} → Keeps n x y → SameOrOver (checked (check_room L) W O x) (checked (check_room L') W' O' y)
    inferred (kept {x} h) = inl (same x)
    inferred (sixteen {p} h) = inr (p, refl)

    on : (x : Answer Term) → SameOrOver (checked (check_room L) W O (x >>= λ t. infer (types B) (step (seen o B)) L [] 0 t)) (checked (check_room L') W' O' (x >>= λ t. infer (types B) (step (seen o B)) L' [] 0 t))
    on (ok t) = inferred (infer_keeps (types B) (step (seen o B)) more [] 0 t (le_refl _))
    on (refused r p) = inl (same (refused r p))

pub more_limit : MoreLimit
unfolding Settled number
more_limit B o ws L L' W W' O O' s more a' = on (less_limit B o ws L L' W W' O O' more (admits B o ws L W O s) a')
  where
    on : SameOrOver (check_over B o ws L W O) (check_over B o ws L' W' O') → told (check_over B o ws L' W' O') ≡ told (check_over B o ws L W O)
    on (inl e) = sym e
    on (inr (p, e)) = absurd ((rw e at s).1 refl)

pub same_type : SameType
unfolding Settled
same_type B o ws L L' W W' O O' n n' e e' =
    let (f, g) = tells_all (check_over B o ws L W O) (check_over B o ws L' W' O') (on (dec_le L L')) in
    let same : n ≡ n' = cc (e, e', f) in
    (same, g n e ∙ ap (λ k. take k (check_over B o ws L' W' O').output) same)
  where
    settled : Settled (check_over B o ws L W O).answer
    settled = rw e tt

    settled' : Settled (check_over B o ws L' W' O').answer
    settled' = rw e' tt

    on : Dec (L ≤ L') → told (check_over B o ws L W O) ≡ told (check_over B o ws L' W' O')
    on (yes h) = sym (more_limit B o ws L L' W W' O O' settled h (admits B o ws L' W' O' settled'))
    on (no h) = more_limit B o ws L' L W' W O' O settled' (omega arith) (admits B o ws L W O settled)

module _ {B : Book} {v : View} {L L' : ℕ} (more : L ≤ L') where
  within : {Γ : Context} {e τ : Term} → B ∣ v ∣ Γ ⊢⟨ L ⟩ e ⦂ τ → B ∣ v ∣ Γ ⊢⟨ L' ⟩ e ⦂ τ
  within d = record { typed = d.typed; fits = λ σ m. le_trans (d.fits σ m) more }

  fails : {Γ : Context} {p q : ℕ} {e : Term} {r : Reason} → r ≢ over_limit → Fails B v L Γ p e r q → Fails B v L' Γ p e r q
  fails n (star_over h) = absurd (n refl)
  fails n (var_over x h) = absurd (n refl)
  fails n (app_function x) = app_function (fails n x)
  fails n (app_not_product hf m) = app_not_product (within hf) m
  fails n (app_argument hf x) = app_argument (within hf) (fails n x)
  fails n (app_mismatch hf hu m) = app_mismatch (within hf) (within hu) m
  fails n (app_over hf hu h) = absurd (n refl)
  fails n (lam_annotation x) = lam_annotation (fails n x)
  fails n (lam_not_star ha m) = lam_not_star (within ha) m
  fails n (lam_body ha x) = lam_body (within ha) (fails n x)
  fails n (lam_over ha he h) = absurd (n refl)
  fails n (pi_domain x) = pi_domain (fails n x)
  fails n (pi_domain_not_star ha m) = pi_domain_not_star (within ha) m
  fails n (pi_codomain ha x) = pi_codomain (within ha) (fails n x)
  fails n (pi_codomain_not_star ha hb m) = pi_codomain_not_star (within ha) (within hb) m
  fails n (pi_over ha hb h) = absurd (n refl)
  fails n (castup_annotation x) = castup_annotation (fails n x)
  fails n (castup_not_star ha m) = castup_not_star (within ha) m
  fails n (castup_body ha x) = castup_body (within ha) (fails n x)
  fails n (castup_rests ha he m) = castup_rests (within ha) (within he) m
  fails n (castup_step_over ha he s h) = absurd (n refl)
  fails n (castup_mismatch ha he s h m) = castup_mismatch (within ha) (within he) s (le_trans h more) m
  fails n (castup_over ha he s h) = absurd (n refl)
  fails n (castdown_body x) = castdown_body (fails n x)
  fails n (castdown_rests he m) = castdown_rests (within he) m
  fails n (castdown_over he s h) = absurd (n refl)
  fails n (mu_annotation x) = mu_annotation (fails n x)
  fails n (mu_not_star ha m) = mu_not_star (within ha) m
  fails n (mu_body ha x) = mu_body (within ha) (fails n x)
  fails n (mu_mismatch ha he m) = mu_mismatch (within ha) (within he) m
  fails n (mu_over ha he h) = absurd (n refl)
  fails n (name_over k h) = absurd (n refl)

pub more_limit_by_rules : MoreLimitByRules
more_limit_by_rules B v L L' Γ e more = (λ τ. within more, λ p q r n. fails more n)

-- A refusal by one of 1–9 is none by 16.
not_sixteen : {a : Answer ℕ} {r : Reason} {p q : ℕ} → a ≡ refused r q → number r ≤ 9 → a ≡ refused over_limit p → ⊥
unfolding number
not_sixteen {r} e h e' = let same : r ≡ over_limit = cc (e, e') in omega (arith, rw same at h)

-- What inference answers to a term, as an answer of the check.
judged : {n : ℕ} {x : Answer Term} (L : ℕ) (W O : List ℕ) → Numbered n x → Judged (checked (check_room L) W O x).answer
unfolding checked Judged
judged L W O (says_ok _) = tt
judged L W O (says_refused (l, u, _)) = (l, u)

pub over_limit_becomes : OverLimitBecomes
unfolding check_by checked number ◌>>=◌
over_limit_becomes B o ws L L' W W' O O' (p, e) (a', w', k') = by (admission B o ws L W O)
  where
    at : (x : Answer Term)
        → read ws ≡ x
        → (checked (check_room L) W O (x >>= λ t. infer (types B) (step (seen o B)) L [] 0 t)).answer ≡ refused over_limit p
        → Judged (checked (check_room L') W' O' (x >>= λ t. infer (types B) (step (seen o B)) L' [] 0 t)).answer
    at (ok t) m e = judged L' W' O' (infer_numbered (types B) (step (seen o B)) L' [] 0 t)
    at (refused r q) m e = absurd (not_sixteen refl (misread_numbers (refused_misread ws r q m)).1 e)

    by : Admission B o ws L W O → Judged (check_over B o ws L' W' O').answer
    by (inl (a, w, k)) = rw (admitted B o ws L' W' O' a' w' k') (at (read ws) refl (rw (admitted B o ws L W O a w k) at e))
    by (inr (r, q, e', u)) = absurd (not_sixteen e' (omega (arith, u)) e)
