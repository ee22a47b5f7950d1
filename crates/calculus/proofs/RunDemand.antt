-- Demand 2 for runs. Whatever `Runs` says is what `run` answers, by computing through the tests and, past them, since a run has one
-- course; and `Runs` says something of every call, since each test is decided and every run has a course.
use Prim.Native.Nat.{ℕ, ◌≤◌, zero-le}
use mathlib.Core.Bool.{true≢false}
use mathlib.Core.List.{List}
use mathlib.Core.Logic.{◌↔◌, ◌⊎◌, inl, inr, ⊎_elim}
use mathlib.Core.Path.{◌≡◌, refl, sym, subst}
use native.Mathlib.Decide.{dec_le}
use native.Mathlib.Omega.{arith}
use lib.Dec.{lit≤}
use lib.ListN.{length}
use Rattle.calculus.specs.Term.{Term}
use Rattle.calculus.specs.Answer.{Answer, Reason, ok, refused, ◌>>=◌, ◌>>◌, require, number}
use Rattle.calculus.specs.Words.{longest}
use Rattle.calculus.specs.Scan.{read}
use Rattle.calculus.specs.Kinds.{total}
use Rattle.calculus.specs.Book.{Book, View, bodies}
use Rattle.calculus.specs.Step.{Next, step}
use Rattle.calculus.specs.Run.{End, Ends, ends_value, ends_stuck, ends_spent, ends_long, run_until}
use Rattle.calculus.specs.Outcomes.{run_room, Desk, last_caller, grant, Ran, course, ran, run_by, run_over}
use Rattle.calculus.specs.Runs.{Runs, caller_refused, work_refused, state_refused, unread, ended, Demand2Run, CountsAddUp, Rests, SameAgain, EnoughSteps, RunRefusals}
use Rattle.calculus.proofs.Comparisons.{le_leb, gt_leb}
use Rattle.calculus.proofs.Says.{Says, says_ok, says_refused, of_ok, of_refused}
use Rattle.calculus.proofs.ReadBack.{codes_read, misread_refused, read_sound, refused_misread, misread_numbers}
use Rattle.calculus.proofs.Courses.{Tested, tested, until_course, until_answer}

-- A run by any order of ends.
module _ {v : View} {Order : ℕ → ℕ → Term → End → Type 0} {last : Next → End} (T : Tested v Order last) (ws : List ℕ) (budget caller : ℕ)
    (desk : Desk) (W S : List ℕ) where
  run_by_answer : {c : Ran} → Runs v Order ws budget caller desk W S c → run_by run_room (run_until (step v) last) ws budget caller desk W S ≡ c
  unfolding run_by ran course require ◌>>◌ ◌>>=◌
  run_by_answer (caller_refused k) = rw (gt_leb caller last_caller k) refl
  run_by_answer (work_refused k w) = rw (le_leb caller last_caller k, gt_leb run_room (length W) w) refl
  run_by_answer (state_refused k w s) =
      rw (le_leb caller last_caller k, le_leb run_room (length W) w, gt_leb longest (length S) s) refl
  run_by_answer (unread k w s m) =
      rw (le_leb caller last_caller k, le_leb run_room (length W) w, le_leb longest (length S) s, misread_refused m) refl
  run_by_answer (ended {n = n} k w s c h q a b l f) =
      rw (
        le_leb caller last_caller k,
        le_leb run_room (length W) w,
        le_leb longest (length S) s,
        codes_read c,
        until_answer T (grant budget caller desk) n (record { last = h; counted = q; adds = a; bounded = b; within = l; ends = f }),
      )
      refl

  -- One of the cases holds.
  abbrev Outcome : Type 0
  Outcome = (c : Ran) × Runs v Order ws budget caller desk W S c

  outcome : Outcome
  outcome = by_caller (dec_le caller last_caller)
    where
      by_reading : caller ≤ last_caller → run_room ≤ length W → longest ≤ length S → (x : Answer Term) → read ws ≡ x → Outcome
      by_reading k w s (ok t) e =
          let c = read_sound ws t e in
          let h = until_course T (grant budget caller desk) t c.1.short in
          (_, ended k w s c h.last h.counted h.adds h.bounded h.within h.ends)
      by_reading k w s (refused r p) e = (_, unread k w s (refused_misread ws r p e))

      by_state : caller ≤ last_caller → run_room ≤ length W → Dec (longest ≤ length S) → Outcome
      by_state k w (yes s) = by_reading k w s (read ws) refl
      by_state k w (no s) = (_, state_refused k w (omega arith))

      by_work : caller ≤ last_caller → Dec (run_room ≤ length W) → Outcome
      by_work k (yes w) = by_state k w (dec_le longest (length S))
      by_work k (no w) = (_, work_refused k (omega arith))

      by_caller : Dec (caller ≤ last_caller) → Outcome
      by_caller (yes k) = by_work k (dec_le run_room (length W))
      by_caller (no k) = (_, caller_refused (omega arith))

  run_by_runs : Runs v Order ws budget caller desk W S (run_by run_room (run_until (step v) last) ws budget caller desk W S)
  run_by_runs = subst (Runs v Order ws budget caller desk W S) (sym (run_by_answer outcome.1)) outcome.1

  pub run_by_demand : (c : Ran) → (run_by run_room (run_until (step v) last) ws budget caller desk W S ≡ c) ↔ Runs v Order ws budget caller desk W S c
  run_by_demand c = (λ e. subst (Runs v Order ws budget caller desk W S) e run_by_runs, run_by_answer)

pub demand2_run : Demand2Run
demand2_run B = run_by_demand (tested (bodies B))

pub run_answer : (B : Book) (ws : List ℕ) (budget caller : ℕ) (desk : Desk) (W S : List ℕ) {c : Ran}
    → Runs (bodies B) (Ends (bodies B)) ws budget caller desk W S c
    → run_over B ws budget caller desk W S ≡ c
run_answer B ws budget caller desk W S {c} = (demand2_run B ws budget caller desk W S c).1

pub run_runs : (B : Book) (ws : List ℕ) (budget caller : ℕ) (desk : Desk) (W S : List ℕ)
    → Runs (bodies B) (Ends (bodies B)) ws budget caller desk W S (run_over B ws budget caller desk W S)
run_runs B ws budget caller desk W S = (demand2_run B ws budget caller desk W S _).0 refl

-- A run at rest has the same end with every grant of its steps or more, and so the same outcome.
rests_within : {v : View} {g g' n : ℕ} {x : Term} {E : End} → Ends v g n x E → Rests E → n ≤ g' → Ends v g' n x E
rests_within (ends_value h v) r l = ends_value l v
rests_within (ends_stuck h v s) r l = ends_stuck l v s
rests_within (ends_spent e s) r l = absurd (⊎_elim (λ e. true≢false (cc e)) (λ e. true≢false (cc e)) r)
rests_within (ends_long h s l') r l = absurd (⊎_elim (λ e. true≢false (cc e)) (λ e. true≢false (cc e)) r)

pub enough_steps : EnoughSteps
enough_steps B ws budget caller desk W S s e = of_ok (rw e at (again (run_runs B ws budget caller desk W S)))
  where
    again : {c : Ran} → Runs (bodies B) (Ends (bodies B)) ws budget caller desk W S c → Says (SameAgain B ws W S c) (λ r p. Unit {0}) c.answer
    again (caller_refused i) = says_refused tt
    again (work_refused i w) = says_refused tt
    again (state_refused i w s) = says_refused tt
    again (unread i w s m) = says_refused tt
    again (ended i w s c k q a b l f) =
        says_ok λ budget' caller' desk' i' r m.
        run_answer B ws budget' caller' desk' W S (ended i' w s c k q a b (omega arith) (rests_within f r (omega arith)))

-- The counts of a run that ended add up.
pub counts_add_up : CountsAddUp
counts_add_up B ws budget caller desk W S s e = of_ok (rw e at (adding (run_runs B ws budget caller desk W S)))
  where
    adding : {c : Ran} → Runs (bodies B) (Ends (bodies B)) ws budget caller desk W S c → Says (λ s. total s.counts ≡ s.steps) (λ r p. Unit {0}) c.answer
    adding (caller_refused i) = says_refused tt
    adding (work_refused i w) = says_refused tt
    adding (state_refused i w s) = says_refused tt
    adding (unread i w s m) = says_refused tt
    adding (ended i w s c k q a b l f) = says_ok a

-- How far the numbers and the places of a refusal reach.
abbrev Turned : Reason → ℕ → Type 0
Turned r p = (((2 ≤ number r) × (number r ≤ 9)) ⊎ (number r ≡ 21)) × (p ≤ longest)

numbers : {v : View} {ws : List ℕ} {budget caller : ℕ} {desk : Desk} {W S : List ℕ} {c : Ran}
    → Runs v (Ends v) ws budget caller desk W S c
    → Says (λ _. Unit {0}) Turned c.answer
unfolding number
numbers (caller_refused i) = says_refused (inr refl, zero-le)
numbers (work_refused i w) = says_refused (inl (lit≤ tt, lit≤ tt), zero-le)
numbers (state_refused i w s) = says_refused (inl (lit≤ tt, lit≤ tt), zero-le)
numbers (unread {r} i w s m) = let (l, u, q) = misread_numbers m in says_refused {r = r} (inl (omega arith, u), q)
numbers (ended i w s c k q a b l f) = says_ok tt

pub run_numbers : (B : Book) (ws : List ℕ) (budget caller : ℕ) (desk : Desk) (W S : List ℕ)
    → Says (λ _. Unit {0}) Turned (run_over B ws budget caller desk W S).answer
run_numbers B ws budget caller desk W S = numbers (run_runs B ws budget caller desk W S)

pub run_refusals : RunRefusals
run_refusals B ws budget caller desk W S r p e = (of_refused (rw e at (run_numbers B ws budget caller desk W S))).0
