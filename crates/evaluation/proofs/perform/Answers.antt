-- `perform` meets its contract: the term is noted at the front of the working slice, the run goes from there, and the state that
-- it came to is spelled into the state slice.
use Prim.Native.Nat.{◌*◌, ◌≤◌}
use mathlib.Core.Path.{◌≡◌, refl, ap, ◌∙◌}
use native.Mathlib.Omega.{arith}
use lib.ListN.{length}
use Rattle.calculus.specs.Term.{Term}
use Rattle.calculus.specs.Words.{Readable, words, longest}
use Rattle.calculus.specs.Book.{Book, bodies}
use Rattle.calculus.specs.Step.{step}
use Rattle.calculus.specs.Run.{run_from}
use Rattle.calculus.proofs.Coding.{words_length}
use Rattle.book.specs.Layout as layout
use Rattle.evaluation.specs.Courses.{Goes, buffer}
use Rattle.evaluation.proofs.States.{buffer_room, noted_held, stored_behind}
use Rattle.evaluation.proofs.perform.Goals as goal
use Rattle.evaluation.proofs.perform.Goals.{After-go-course}

pub note-requires : goal.note-requires
note-requires c =
    let (B, t, held, e, r) = c.requires.2 in
    let many : length c.args.term.now ≤ longest = omega (arith, ap length e, words_length t, r.short) in
    (omega (arith, many, c.requires.0), many, (t, e))

pub go-course-requires : goal.go-course-requires
go-course-requires c =
    let (B, t, held, e, r) = c.requires.2 in (
      omega (arith, c.note.auto.out, c.requires.0),
      refl,
      (B, t, held, noted_held c.args.term.now c.args.work.now e r c.requires.0 (c.note.ensures t e)),
    )

-- The course, and the buffer that has the last state.
went : (c : goal.After-go-course) (B : Book) (t : Term)
    → layout.Holds B c.args.book.now
    → c.args.term.now ≡ words t
    → Readable (length B) t
    → Goes (length B) (run_from (step (bodies B)) c.args.grant t) c.go-course.result
    (buffer c.go-course.result.lent c.go-course.new.work c.go-course.new.other)
went c B t held e r =
    c.go-course.ensures.goes B t held
    (noted_held c.args.term.now c.args.work.now e r c.requires.0 (c.note.ensures t e))

pub current-requires : goal.current-requires
current-requires c =
    let go = (goal.at.current-requires c).After-go-course in
    let (B, t, held, e, r) = c.requires.2 in
    let work = c.go-course.new.work in
    let l : 2 * longest ≤ length work = omega (arith, c.go-course.auto.work, c.note.auto.out, c.requires.0) in
    let room = buffer_room c.go-course.result.lent work c.go-course.new.other l c.go-course.auto.other in
    let h = (went go B t held e r).holds in
    omega (arith, room, h.extent, h.short)

pub spell-requires : goal.spell-requires
spell-requires c =
    let go = (goal.at.spell-requires c).After-go-course in
    let (B, t, held, e, r) = c.requires.2 in
    let h = (went go B t held e r).holds in
    (_, c.current.ensures ∙ h.front, omega (arith, h.short, c.requires.1))

pub returns : goal.returns
returns c B t held e r =
    let go = (goal.at.returns c).After-go-course in
    let g = went go B t held e r in
    record {
      end = g.end;
      steps = g.steps;
      counts = g.counts;
      handed = c.spell.ensures _ (c.current.ensures ∙ g.holds.front);
      behind =
          c.go-course.ensures.work_unchanged
          ∙ stored_behind c.args.work.now t r.short c.requires.0 (c.note.ensures t e);
    }
