-- Demand 2 for checks. Whatever `Checks` says is what `check` answers, by computing through the tests in their order; and `Checks`
-- says something of every call, since each of its tests is decided. So what `check` answers is what `Checks` says.
use Prim.Native.Nat.{ℕ, ◌≤◌, zero-le}
use mathlib.Core.List.{List, []}
use mathlib.Core.Logic.Dec
use mathlib.Core.Logic.{◌⊎◌, inl, inr}
use mathlib.Core.Path.{◌≡◌, refl, sym, subst}
use native.Mathlib.Decide.{dec_le}
use native.Mathlib.Omega.{arith}
use native.Mathlib.Nat.{le_trans}
use lib.Dec.{lit≤}
use lib.ListN.{length}
use Rattle.calculus.specs.Term.{Term, size}
use Rattle.calculus.specs.Answer.{Reason, Answer, ok, refused, ◌>>=◌, ◌>>◌, require, number}
use Rattle.calculus.specs.Words.{words, Codes, longest}
use Rattle.calculus.specs.Book.{Book, types, seen}
use Rattle.calculus.specs.Scan.{read}
use Rattle.calculus.specs.Rules.{env_empty}
use Rattle.calculus.specs.Limit.{◌∣◌∣◌⊢⟨◌⟩◌⦂◌}
use Rattle.calculus.specs.Failing.{Fails}
use Rattle.calculus.specs.Growing.{Grown}
use Rattle.calculus.specs.Step.{step}
use Rattle.calculus.specs.Infer.{infer}
use Rattle.calculus.specs.Outcomes.{largest_limit, check_room, begun, cleared, Checked, verdict, checked, check_by, check_over}
use Rattle.calculus.specs.Checks.{Allowed, Checks, limit_refused, work_refused, output_refused, unread, untyped, typed, Demand2Check, TypedOrFails, Untypable, CheckRefusals}
use Rattle.calculus.proofs.Comparisons.{le_leb, gt_leb, out_of_range}
use Rattle.calculus.proofs.Says.{By, Says, says_ok, says_refused, of_ok, of_refused}
use Rattle.calculus.proofs.ReadBack.{codes_read, misread_refused, read_sound, refused_misread, misread_numbers}
use Rattle.calculus.proofs.Completeness.{infer_complete, refused_complete, not_both}
use Rattle.calculus.proofs.Limits.{Numbered, Fitting, infer_numbered, infer_fits}
use Rattle.calculus.proofs.Refusals.{no_type, fails_refusal}
use Rattle.calculus.proofs.Scoping.{named_more}
use Rattle.calculus.proofs.Books.{seen_in_bodies}
use Rattle.calculus.proofs.Soundness.{sound}
use Rattle.calculus.proofs.Inference.{one_of_two}

module _ (B : Book) (o : ℕ) (ws : List ℕ) (L : ℕ) (W O : List ℕ) where
  -- Past the three tests of the call, the verdict is of the words alone.
  pub admitted : Allowed L
      → check_room L ≤ length W
      → L ≤ length O
      → verdict (check_room L) B o ws L W O ≡ (read ws >>= λ t. infer (types B) (step (seen o B)) L [] 0 t)
  unfolding verdict require ◌>>◌ ◌>>=◌
  admitted (h, k) w f = rw (le_leb 1 L h, le_leb L largest_limit k, le_leb (check_room L) (length W) w, le_leb L (length O) f) refl

  pub check_answer : {c : Checked} → Checks B o ws L W O c → check_over B o ws L W O ≡ c
  unfolding check_by checked verdict require ◌>>◌ ◌>>=◌ number
  check_answer (limit_refused n) = rw (out_of_range 1 L largest_limit n) refl
  check_answer (work_refused (h, k) w) = rw (le_leb 1 L h, le_leb L largest_limit k, gt_leb (check_room L) (length W) w) refl
  check_answer (output_refused (h, k) w f) =
      rw (le_leb 1 L h, le_leb L largest_limit k, le_leb (check_room L) (length W) w, gt_leb L (length O) f) refl
  check_answer (unread {r} a w f m) = rw (admitted a w f, misread_refused m, le_leb (number r) 9 (misread_numbers m).1) refl
  check_answer (untyped {r} {p} {t} a w k c f) =
      rw
      (admitted a w k, codes_read c, refused_complete f, gt_leb (number r) 9 (fails_refusal f).0)
      refl
  check_answer (typed {t} a w k c d) = rw (admitted a w k, codes_read c, infer_complete 0 d) refl

  -- What inference answers to a term that is read is the answer, over any book.
  module _ (a : Allowed L) (w : check_room L ≤ length W) (f : L ≤ length O) {t : Term} (c : Codes 0 ws t) where
    pub typed_answer : {τ : Term}
        → infer (types B) (step (seen o B)) L [] 0 t ≡ ok τ
        → check_over B o ws L W O ≡ record { answer = ok (size τ); work = cleared (check_room L) W; output = begun (words τ) O }
    unfolding check_by checked ◌>>=◌
    typed_answer e = rw (admitted a w f, codes_read c, e) refl

    pub refused_answer : {r : Reason} {p : ℕ}
        → infer (types B) (step (seen o B)) L [] 0 t ≡ refused r p
        → check_over B o ws L W O ≡ record { answer = refused r p; work = cleared (check_room L) W; output = O }
    unfolding check_by checked ◌>>=◌
    refused_answer {r} {p} e =
        let by = of_refused (rw e at (infer_numbered (types B) (step (seen o B)) L [] 0 t)) in
        rw (admitted a w f, codes_read c, e, gt_leb (number r) 9 by.0) refl

  -- One of the cases holds.
  abbrev Outcome : Type 0
  Outcome = (c : Checked) × Checks B o ws L W O c

  outcome : Grown B → Outcome
  outcome g = by_limit (Dec.and (dec_le 1 L) (dec_le L largest_limit))
    where
      by_rules : {t : Term}
          → Allowed L
          → check_room L ≤ length W
          → L ≤ length O
          → Codes 0 ws t
          → ((τ : Term) × (B ∣ seen o B ∣ [] ⊢⟨ L ⟩ t ⦂ τ)) ⊎ ((r : Reason) × (p : ℕ) × Fails B (seen o B) L [] 0 t r p)
          → Outcome
      by_rules a w k c (inl (τ, d)) = (_, typed a w k c d)
      by_rules a w k c (inr (r, p, f)) = (_, untyped a w k c f)

      by_reading : Allowed L → check_room L ≤ length W → L ≤ length O → (x : Answer Term) → read ws ≡ x → Outcome
      by_reading a w k (ok t) e =
          let c = read_sound ws t e in
          by_rules a w k c (one_of_two (sound g) (seen_in_bodies o B) L 0 t env_empty c.1.closed (named_more t zero-le c.1.named))
      by_reading a w k (refused r p) e = (_, unread a w k (refused_misread ws r p e))

      by_output : Allowed L → check_room L ≤ length W → Dec (L ≤ length O) → Outcome
      by_output a w (yes k) = by_reading a w k (read ws) refl
      by_output a w (no k) = (_, output_refused a w (omega arith))

      by_work : Allowed L → Dec (check_room L ≤ length W) → Outcome
      by_work a (yes w) = by_output a w (dec_le L (length O))
      by_work a (no w) = (_, work_refused a (omega arith))

      by_limit : Dec (Allowed L) → Outcome
      by_limit (yes a) = by_work a (dec_le (check_room L) (length W))
      by_limit (no n) = (_, limit_refused n)

  pub check_checks : Grown B → Checks B o ws L W O (check_over B o ws L W O)
  check_checks g = subst (Checks B o ws L W O) (sym (check_answer (outcome g).1)) (outcome g).1

pub demand2_check : Demand2Check
demand2_check B g o ws L W O c = (λ e. subst (Checks B o ws L W O) e (check_checks B o ws L W O g), check_answer B o ws L W O)

pub typed_or_fails : TypedOrFails
typed_or_fails B g o L t c =
    (one_of_two (sound g) (seen_in_bodies o B) L 0 t env_empty c.closed c.named, λ r p τ f d. not_both d f)

pub untypable : Untypable
untypable B v L t τ r p f n d = no_type f n d

-- How far the numbers of an answer reach, over any book: a type's length, and the reason and the place of a refusal.
module _ (B : Book) (o : ℕ) (ws : List ℕ) (L : ℕ) (W O : List ℕ) where
  abbrev Numbers : Answer ℕ → Type 0
  Numbers = Says (λ n. n ≤ largest_limit) (By 1 16 longest)

  inferred_numbers : {n : ℕ} {x : Answer Term} → L ≤ largest_limit → n ≤ longest → Fitting L x → Numbered n x → Numbers (checked (check_room L) W O x).answer
  unfolding checked
  inferred_numbers a h f (says_ok _) = says_ok (le_trans (of_ok f) a)
  inferred_numbers a h f (says_refused {r} {p} (l, u, q)) = says_refused {r = r} {p = p} (omega arith, u, omega (arith, q, h))

  pub check_numbers : Numbers (check_over B o ws L W O).answer
  unfolding check_by checked number ◌>>=◌
  check_numbers = by_limit (Dec.and (dec_le 1 L) (dec_le L largest_limit))
    where
      by_reading : Allowed L → (x : Answer Term) → read ws ≡ x → Numbers (checked (check_room L) W O (x >>= λ t. infer (types B) (step (seen o B)) L [] 0 t)).answer
      by_reading a (ok t) e =
          inferred_numbers a.1 (omega (arith, (read_sound ws t e).1.short)) (infer_fits (types B) (step (seen o B)) L [] 0 t) (infer_numbered (types B) (step (seen o B)) L [] 0 t)
      by_reading a (refused r p) e =
          let (l, u, q) = misread_numbers (refused_misread ws r p e) in
          says_refused {r = r} {p = p} (omega arith, omega arith, q)

      by_output : Allowed L → check_room L ≤ length W → Dec (L ≤ length O) → Numbers (check_over B o ws L W O).answer
      by_output a w (yes k) = rw (admitted B o ws L W O a w k) (by_reading a (read ws) refl)
      by_output a w (no k) = rw (check_answer B o ws L W O (output_refused a w (omega arith))) (says_refused (lit≤ tt, lit≤ tt, zero-le))

      by_work : Allowed L → Dec (check_room L ≤ length W) → Numbers (check_over B o ws L W O).answer
      by_work a (yes w) = by_output a w (dec_le L (length O))
      by_work a (no w) = rw (check_answer B o ws L W O (work_refused a (omega arith))) (says_refused (lit≤ tt, lit≤ tt, zero-le))

      by_limit : Dec (Allowed L) → Numbers (check_over B o ws L W O).answer
      by_limit (yes a) = by_work a (dec_le (check_room L) (length W))
      by_limit (no n) = rw (check_answer B o ws L W O (limit_refused n)) (says_refused (lit≤ tt, lit≤ tt, zero-le))

pub check_refusals : CheckRefusals
check_refusals B o ws L W O r p e = let (l, u, q) = of_refused (rw e at (check_numbers B o ws L W O)) in (l, u)
