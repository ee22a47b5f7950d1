-- From what `check` and `run` answer to the numbers of the exported structs. An answer is the calculus' own, so its variant fixes the
-- numbers; and the calculus bounds a refused place and a type's length by 1,024, so each of them fits its field.
use Prim.Native.Nat.{ℕ, ◌≤◌}
use mathlib.Core.List.{List, []}
use Rattle.std.specs.Prelude.{Result, Ok, Err}
use mathlib.Core.Path.{◌≡◌, sym, ap, ◌∙◌}
use Rattle.calculus.specs.Words.{longest}
use Rattle.calculus.specs.Run.{end_number}
use Rattle.calculus.specs.Outcomes as calculus
use Rattle.calculus.proofs.Says.{of_ok, of_refused}
use Rattle.calculus.proofs.CheckDemand.{check_numbers}
use Rattle.calculus.proofs.RunDemand.{run_numbers}
use Rattle.term.specs.Reasons.{number_of}
use Rattle.term.specs.declared.refusal.Refusal.{Refusal}
use Rattle.term.specs.Reasons as term
use Rattle.typing.specs.Outcomes.{checked_of}
use Rattle.evaluation.specs.declared.Ended.{Ended}
use Rattle.evaluation.specs.declared.Outcome.{Outcome}
use Rattle.evaluation.specs.Outcomes.{end_of, ran_of}
use Rattle.evaluation.specs.Outcomes as run
use Rattle.feguavy.specs.Numbers.{checked_numbers, NumberedCheck, ran_numbers, NumberedRun}

-- A check.
module _ {c : calculus.Checked} (r : Result ℕ Refusal) {W O : List ℕ} (e : checked_of r W O ≡ c) where
  numbered_check : NumberedCheck c (checked_numbers (term.answer_of r)) W O
  numbered_check =
      record { numbers = ap (λ x. checked_numbers x.answer) e; work = ap (λ x. x.work) e; output = ap (λ x. x.output) e }

  pub typed_numbers : (n : ℕ) → r ≡ Ok n → NumberedCheck c (record { answer = 0; place = 0; length = n }) W O
  unfolding checked_numbers
  typed_numbers n h = rw h at numbered_check

  pub untyped_numbers : (f : Refusal) (m : ℕ)
      → r ≡ Err f
      → m ≡ number_of f.reason
      → NumberedCheck c (record { answer = m; place = f.place; length = 0 }) W O
  unfolding checked_numbers
  untyped_numbers f m h k = rw k (rw h at numbered_check)

module _ (ws : List ℕ) (L : ℕ) (W₀ O₀ : List ℕ) (r : Result ℕ Refusal) {W O : List ℕ} (e : checked_of r W O ≡ calculus.check ws L W₀ O₀) where
  pub length_within : (n : ℕ) → r ≡ Ok n → n ≤ calculus.largest_limit
  length_within n h = of_ok (rw (sym (ap (λ x. x.answer) e) ∙ ap term.answer_of h) at (check_numbers [] 0 ws L W₀ O₀))

  pub untyped_place : (f : Refusal) → r ≡ Err f → f.place ≤ longest
  untyped_place f h = (of_refused (rw (sym (ap (λ x. x.answer) e) ∙ ap term.answer_of h) at (check_numbers [] 0 ws L W₀ O₀))).2

-- A run.
module _ {c : calculus.Ran} (r : Outcome) {W S : List ℕ} (e : ran_of r W S ≡ c) where
  numbered_run : NumberedRun c (ran_numbers (run.answer_of r.answer) r.desk.allowances) W S
  numbered_run =
      record { numbers = ap (λ x. ran_numbers x.answer x.desk) e; work = ap (λ x. x.work) e; state = ap (λ x. x.state) e }

  pub ended_numbers : (g : Ended) (m : ℕ)
      → r.answer ≡ Ok g
      → m ≡ end_number (end_of g.end)
      → NumberedRun c
      (record {
        answer = 0;
        place = 0;
        end = m;
        steps = g.steps.total;
        substitutions = g.steps.substitutions;
        unfoldings = g.steps.unfoldings;
        cancellations = g.steps.cancellations;
        desk = r.desk;
      })
      W S
  unfolding ran_numbers
  ended_numbers g m h k = rw k (rw h at numbered_run)

  pub unrun_numbers : (f : Refusal) (m : ℕ)
      → r.answer ≡ Err f
      → m ≡ number_of f.reason
      → NumberedRun c
      (record {
        answer = m;
        place = f.place;
        end = 0;
        steps = 0;
        substitutions = 0;
        unfoldings = 0;
        cancellations = 0;
        desk = r.desk;
      })
      W S
  unfolding ran_numbers
  unrun_numbers f m h k = rw k (rw h at numbered_run)

pub unrun_place : (ws : List ℕ) (budget caller : ℕ) (desk : calculus.Desk) (W₀ S₀ : List ℕ) (r : Outcome) {W S : List ℕ}
    → ran_of r W S ≡ calculus.run ws budget caller desk W₀ S₀
    → (f : Refusal) → r.answer ≡ Err f → f.place ≤ longest
unrun_place ws budget caller desk W₀ S₀ r e f h =
    (of_refused (rw (sym (ap (λ x. x.answer) e) ∙ ap run.answer_of h) at (run_numbers [] ws budget caller desk W₀ S₀))).1
