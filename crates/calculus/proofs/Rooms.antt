-- Lengths kept beside nodes. A call asks for its room only to test the length of the working slice and to clear so much of it: with a
-- slice long enough for two rooms both tests pass, so that the verdict and the course are the same, and only what is cleared differs.
use Prim.Native.Nat.{ℕ, ◌≤◌}
use mathlib.Core.List.{List}
use mathlib.Core.Path.{◌≡◌, refl}
use native.Mathlib.Omega.{arith}
use lib.ListN.{length}
use Rattle.calculus.specs.Term.{Term}
use Rattle.calculus.specs.Answer.{Reason, Answer, ok, refused, ◌>>=◌, ◌>>◌, require}
use Rattle.calculus.specs.Book.{Book, bodies}
use Rattle.calculus.specs.Step.{step}
use Rattle.calculus.specs.Run.{Ended, run_from}
use Rattle.calculus.specs.Outcomes.{check_room, run_room, verdict, checked, check_by, grant, course, ran, run_by}
use Rattle.calculus.specs.Checks.{work_refused}
use Rattle.calculus.specs.Runs.{work_refused as work-refused'}
use Rattle.calculus.specs.Earlier as earlier
use Rattle.calculus.specs.Changes.{SameCheck, SameRun, SameAsBefore, ShorterRefused}
use Rattle.calculus.proofs.Comparisons.{le_leb}
use Rattle.calculus.proofs.CheckDemand.{check_answer}
use Rattle.calculus.proofs.RunDemand.{run_answer}

module _ (room room' : ℕ) (W : List ℕ) (h : room ≤ length W) (h' : room' ≤ length W) where
  same_verdict : (B : Book) (o : ℕ) (ws : List ℕ) (L : ℕ) (O : List ℕ) → verdict room B o ws L W O ≡ verdict room' B o ws L W O
  unfolding verdict require ◌>>◌ ◌>>=◌
  same_verdict B o ws L O = rw (le_leb room (length W) h, le_leb room' (length W) h') refl

  same_course : (go : ℕ → Term → Ended) (ws : List ℕ) (g caller : ℕ) (S : List ℕ)
      → course room go ws g caller W S ≡ course room' go ws g caller W S
  unfolding course require ◌>>◌ ◌>>=◌
  same_course go ws g caller S = rw (le_leb room (length W) h, le_leb room' (length W) h') refl

-- What holds of an answer of either kind holds.
either : {A P : Type 0} (a : Answer A) → ((x : A) → a ≡ ok x → P) → ((r : Reason) (p : ℕ) → a ≡ refused r p → P) → P
either (ok x) f g = f x refl
either (refused r p) f g = g r p refl

same_check : SameCheck
unfolding check_by checked
same_check B o ws L W O h =
    rw (same_verdict (check_room L) (earlier.check_room L) W (omega arith) (omega arith) B o ws L O)
    (either (verdict (earlier.check_room L) B o ws L W O) (λ τ e. rw e refl) (λ r p e. rw e refl))

same_run : SameRun
unfolding run_by ran
same_run B ws budget caller desk W S h =
    let g = grant budget caller desk in
    rw (same_course run_room earlier.run_room W (omega arith) (omega arith) (run_from (step (bodies B))) ws g caller S)
    (either (course earlier.run_room (run_from (step (bodies B))) ws g caller W S) (λ x e. rw e refl) (λ r p e. rw e refl))

pub same_as_before : SameAsBefore
same_as_before = (same_check, same_run)

pub shorter_refused : ShorterRefused
shorter_refused = (
  λ B o ws L W O a w. check_answer B o ws L W O (work_refused a w),
  λ B ws budget caller desk W S k w. run_answer B ws budget caller desk W S (work-refused' k w),
)
