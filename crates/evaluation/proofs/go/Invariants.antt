-- `go` meets its contract. The loop's invariant: with the steps taken so far, the run has reached the state at the front of the
-- buffer that `lent` tells, and the working slice is as it was behind the room for a state. The measure is what is left of the
-- grant.
use Rattle.std.proofs.Common.{◌-◌, ◌*◌, ◌≤◌, ◌≡◌, length, drop}
use Rattle.calculus.specs.Term.{Term}
use Rattle.calculus.specs.Words.{longest}
use Rattle.calculus.specs.Book.{Book}
use Rattle.book.specs.Layout as layout
use Rattle.evaluation.specs.Courses.{AddUp, Holds, buffer}
use Rattle.evaluation.proofs.Turns.{Reaches}
use Rattle.evaluation.proofs.go.Given as goal

abbrev pub invariant-loop-steps : goal.invariant-loop-steps
invariant-loop-steps l =
    (l.steps.total ≤ l.grant)
    × AddUp l.steps
    × (drop (2 * longest) l.work ≡ drop (2 * longest) l.initial.work)
    × ((B : Book) (t : Term)
    → layout.Holds B l.book
    → Holds (length B) l.initial.work l.size t
    → Reaches B l.grant l.steps t (buffer l.lent l.work l.other) l.count)

abbrev pub decreases-loop-steps : goal.decreases-loop-steps
decreases-loop-steps l = l.grant - l.steps.total
