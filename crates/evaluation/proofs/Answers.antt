-- What a run answers, and so that it is safe. A refusal by the caller, by a short slice or by reading is the calculus' own. Otherwise
-- reading gave a term; its course is the calculus' course, so the end, the steps, the desk and both slices are those of the outcome.
-- Whatever equals the outcome has demand 3, which the outcome has.
use Prim.Native.Nat.{ℕ, ◌*◌, ◌≤◌}
use mathlib.Core.List.{List, []}
use mathlib.Core.Path.{◌≡◌, refl, sym, ◌∙◌, subst}
use native.Mathlib.Omega.{arith}
use lib.Dec.{lit≤}
use lib.ListN.{length}
use Rattle.calculus.specs.Term.{Term}
use Rattle.calculus.specs.Words.{words, Readable, longest}
use Rattle.calculus.specs.Answer.{refused, Reason}
use Rattle.calculus.specs.Book.{Book, bodies}
use Rattle.calculus.specs.Growing.{nothing_added}
use Rattle.calculus.specs.Step.{step}
use Rattle.calculus.specs.Run.{Ends, run_from}
use Rattle.calculus.specs.Outcomes.{Ran, Desk, last_caller, grant, run, run_room}
use Rattle.calculus.specs.Runs.{Runs, ended}
use Rattle.calculus.specs.Safety.{SafeRun}
use Rattle.calculus.proofs.Courses.{run_course}
use Rattle.calculus.proofs.RunDemand.{run_answer}
use Rattle.calculus.proofs.SafetyDemand.{demand3}
use Rattle.evaluation.specs.declared.Course.{Course}
use Rattle.evaluation.specs.Courses.{Performs, ended as left}
use Rattle.evaluation.specs.declared.Outcome.{Outcome}
use Rattle.evaluation.specs.Outcomes.{answer_of, end_of, ran_of}
use Rattle.kept.proofs.Begun.{cleared_same}

-- A course takes no more steps than are granted.
pub steps_within : (B : Book) (g : ℕ) {t : Term} {W S : List ℕ} {c : Course} {W' S' : List ℕ}
    → Readable (length B) t
    → Performs (run_from (step (bodies B)) g t) W S c W' S'
    → c.steps.total ≤ g
steps_within B g {t} r p = omega (arith, p.steps, (run_course (bodies B) g t r.short).within)

module _ (ws : List ℕ) (budget caller : ℕ) (desk : Desk) (W S : List ℕ) where
  -- What `run` ensures of its outcome.
  abbrev pub Meets : Ran → Type 0
  Meets c = (c ≡ run ws budget caller desk W S) × SafeRun [] [] ws budget caller desk W S c

  meets : {c : Ran} → run ws budget caller desk W S ≡ c → Meets c
  meets e =
      let safe = demand3.0 [] [] nothing_added nothing_added ws budget caller desk W S in
      (sym e, subst (SafeRun [] [] ws budget caller desk W S) e safe)

  -- A refusal leaves the desk that was given.
  pub meets_refusal : {r : Reason} {p : ℕ} (o : Outcome)
      → Runs (bodies []) (Ends (bodies [])) ws budget caller desk W S (record { answer = refused r p; desk = desk; work = W; state = S })
      → answer_of o.answer ≡ refused r p
      → o.desk.allowances ≡ desk
      → Meets (ran_of o W S)
  meets_refusal o h a d = meets (run_answer [] ws budget caller desk W S h ∙ rw (a, d) refl)

  -- The course of a run, and the outcome that it leaves.
  pub meets_course : {t : Term} {c : Course} {W' S' : List ℕ} {x : Ran}
      → ws ≡ words t
      → Readable 0 t
      → Performs (run_from (step (bodies [])) (grant budget caller desk) t) W S c W' S'
      → caller ≤ last_caller
      → run_room ≤ length W
      → longest ≤ length S
      → x ≡ left (end_of c.end) c.steps caller desk W' S'
      → Meets x
  meets_course {t} {W'} h r p i w s e =
      let k = run_course (bodies []) (grant budget caller desk) t r.short in
      let same = cleared_same run_room (2 * longest) W' W (lit≤ tt) p.behind in
      meets
      (run_answer [] ws budget caller desk W S
      (ended i w s (h, r) k.last k.counted k.adds k.bounded k.within k.ends)
      ∙ rw (← p.end, ← p.steps, ← p.counts, ← same, ← p.handed) refl
      ∙ sym e)
