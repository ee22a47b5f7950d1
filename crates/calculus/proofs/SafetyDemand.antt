-- Demand 3. A run of words that a check accepted begins at the term that they are, whose type is the one that the check answered, also
-- over a longer book with all bodies open. Every step keeps the type, so every state has it; hence each is a value or steps, and no run
-- ends stuck.
use Prim.Native.Nat.{ℕ, ◌≤◌}
use mathlib.Core.Bool.{true≢false}
use mathlib.Core.List.{List, []}
use mathlib.Core.Logic.{⊎_elim, ◌≢◌}
use mathlib.Core.Path.{◌≡◌, sym, ◌∙◌, subst}
use native.Mathlib.Decide.{dec_le}
use native.Mathlib.Omega.{arith}
use Rattle.calculus.specs.Term.{Term, size}
use Rattle.calculus.specs.Words.{Worded, Codes, longest}
use Rattle.calculus.specs.Book.{Book, bodies}
use Rattle.calculus.specs.Rules.{◌∣◌∣◌⊢◌⦂◌}
use Rattle.calculus.specs.Growing.{GrownFrom, Grown}
use Rattle.calculus.specs.Run.{State, state_zero, state_suc, End, at_stuck, Ends, ends_value, ends_stuck, ends_spent, ends_long}
use Rattle.calculus.specs.Outcomes.{Desk, grant, Ran, run_over}
use Rattle.calculus.specs.Runs.{Runs, caller_refused, work_refused, state_refused, unread, ended}
use Rattle.calculus.specs.Safety.{Only, Safe, Safely, caller_refused as caller-refused', work_refused as work-refused', state_refused as state-refused', ended as ended', SafeRun, Demand3}
use Rattle.calculus.proofs.Coding.{worded, words_injective, codes_one}
use Rattle.calculus.proofs.ReadBack.{coded_not_misread}
use Rattle.calculus.proofs.Types.{Sound, scoped, correctness, uniqueness}
use Rattle.calculus.proofs.Safety.{preservation, progress, typed_next, canonical}
use Rattle.calculus.proofs.Courses.{state_unique}
use Rattle.calculus.proofs.Books.{seen_in_bodies}
use Rattle.calculus.proofs.Within.{type_fits}
use Rattle.calculus.proofs.Soundness.{opened, sound, grown_sound, grown_more}
use Rattle.calculus.proofs.Acceptance.{accepted}
use Rattle.calculus.proofs.RunDemand.{run_runs}

module _ (C : Book) (S : Sound C) where
  state_typed : {t x τ : Term} {k : ℕ} → C ∣ bodies C ∣ [] ⊢ t ⦂ τ → State (bodies C) t k x → C ∣ bodies C ∣ [] ⊢ x ⦂ τ
  state_typed d state_zero = d
  state_typed d (state_suc h s) = preservation S (state_typed d h) s

  -- What a typed state is.
  safe : {τ x : Term} → C ∣ bodies C ∣ [] ⊢ x ⦂ τ → Safe C τ x
  safe {τ} {x} d =
      record {
        type = λ σ. (λ e. uniqueness e d, λ e. subst (λ y. C ∣ bodies C ∣ [] ⊢ x ⦂ y) (sym e) d);
        progress = typed_next C d;
      }

  not_stuck : {g n : ℕ} {x τ : Term} {E : End} → C ∣ bodies C ∣ [] ⊢ x ⦂ τ → Ends (bodies C) g n x E → E ≢ at_stuck
  not_stuck d (ends_value h v) e = absurd (true≢false (cc e))
  not_stuck {x = x} d (ends_stuck h v s) e = ⊎_elim v s (progress C x d)
  not_stuck d (ends_spent h s) e = absurd (true≢false (cc e))
  not_stuck d (ends_long h s l) e = absurd (true≢false (cc e))

  -- The states before a state.
  state_before : {t x : Term} {n : ℕ} (k : ℕ) → k ≤ n → State (bodies C) t n x → (y : Term) × State (bodies C) t k y
  state_before {t} k l state_zero = (t, subst (λ m. State (bodies C) t m t) (omega arith) state_zero)
  state_before {t} k l (state_suc {k = m} {y = y} h s) = on (λ l. state_before k l h) (dec_le k m)
    where
      on : (k ≤ m → (z : Term) × State (bodies C) t k z) → Dec (k ≤ m) → (z : Term) × State (bodies C) t k z
      on before (yes l) = before l
      on before (no n) = (y, subst (λ m. State (bodies C) t m y) (omega arith) (state_suc h s))

  safely : {ws : List ℕ} {budget caller : ℕ} {desk : Desk} {W T : List ℕ} {t τ : Term} {c : Ran}
      → Codes 0 ws t
      → C ∣ bodies C ∣ [] ⊢ t ⦂ τ
      → Runs (bodies C) (Ends (bodies C)) ws budget caller desk W T c
      → Safely C t τ caller (grant budget caller desk) W T c.answer
  safely c d (caller_refused i) = caller-refused' i
  safely c d (work_refused i w) = work-refused' i w
  safely c d (state_refused i w s) = state-refused' i w s
  safely c d (unread i w s m) = absurd (coded_not_misread c m)
  safely {t = t} {τ} c d (ended {E} {n} {t = t'} {x} i w s c' k q a b l f) =
      ended' i w s last f (not_stuck (state_typed d last) f) states
    where
      one : t' ≡ t
      one = codes_one c' c

      last : State (bodies C) t n x
      last = subst (λ z. State (bodies C) z n x) one k

      states : (k : ℕ) → k ≤ n → (y : Term) × Only (State (bodies C) t k) y × (size y ≤ longest) × Safe C τ y
      states k l =
          let (y, q) = state_before k l last in
          (y, (q, λ z p. state_unique p q), b k y l (subst (λ z. State (bodies C) z k y) (sym one) q), safe (state_typed d q))

pub demand3 : Demand3
demand3 = (runs_safely, λ B v Γ e τ. canonical)
  where
    runs_safely : (B C : Book) → Grown B → GrownFrom B C → (ws : List ℕ) (budget caller : ℕ) (desk : Desk) (W S : List ℕ)
        → SafeRun B C ws budget caller desk W S (run_over C ws budget caller desk W S)
    runs_safely B C g h ws budget caller desk W S o L W₁ O₁ n e =
        let (t, τ, a) = accepted B g o ws L W₁ O₁ n e in
        let (mt, mb) = grown_more h in
        let d = opened B C mt mb (seen_in_bodies o B) a.typing.typed in
        let T = grown_sound (sound g) h in
        let spelt : Worded τ = worded 0 τ (scoped (correctness T d)) (omega (arith, type_fits a.typing, a.allowed.1)) in (
          t,
          τ,
          (a.coded, λ t' p. codes_one p a.coded),
          ((spelt, sym a.front), λ τ' (s, p). words_injective τ' τ s spelt (p ∙ a.front)),
          safely C T a.coded d (run_runs C ws budget caller desk W S),
        )
