-- `run` meets its contract. Each return is the outcome of the calculus: the refusals by the test that led there, and an ended
-- run since what is read is a readable term, the smaller of budget and the caller's allowance is the grant, and the course is the
-- calculus' course.
use Prim.Native.Nat.{◌*◌, ◌≤◌}
use mathlib.Core.List.{[]}
use mathlib.Core.Path.{◌≡◌, refl, sym, ap, subst}
use native.Mathlib.Omega.{arith}
use lib.ListN.{length}
use Rattle.calculus.specs.Term.{Term}
use Rattle.calculus.specs.Words.{Readable, words, longest}
use Rattle.calculus.specs.Book.{bodies}
use Rattle.calculus.specs.Step.{step}
use Rattle.calculus.specs.Run.{run_from}
use Rattle.calculus.specs.Outcomes.{grant}
use Rattle.calculus.specs.Runs.{caller_refused, work_refused, state_refused, unread}
use Rattle.calculus.proofs.ReadBack.{refused_misread}
use Rattle.std.specs.Prelude.{Err}
use Rattle.term.proofs.Walking.{reads_term, reads_refusal}
use Rattle.book.proofs.Entries.{holds_nothing}
use Rattle.evaluation.specs.Courses.{Performs}
use Rattle.evaluation.proofs.Answers.{meets_refusal, steps_within, meets_course}
use Rattle.evaluation.proofs.run.Goals as goal
use Rattle.evaluation.proofs.run.Goals.{After-granted-grant, After-perform-course, In_default}

-- What is read.
term_read : (c : goal.In_default)
    → let a = c.args in
    (t : Term) × (a.term.now ≡ words t) × Readable 0 t
term_read c =
    let a = c.args in
    reads_term a.term.now (sym c.in_default.ensures)

-- The grant.
granted : (c : goal.After-granted-grant)
    → let a = c.args in
    c.granted-grant.result ≡ grant a.budget a.caller a.desk.allowances
granted c = c.granted-grant.ensures

-- The course, over the empty book.
performed : (c : goal.After-perform-course) {t : Term}
    → let a = c.args in
    c.granted-grant.result ≡ grant a.budget a.caller a.desk.allowances
    → a.term.now ≡ words t
    → Readable 0 t
    → Performs (run_from (step (bodies [])) (grant a.budget a.caller a.desk.allowances) t) a.work.now a.state.now
    c.perform-course.result c.perform-course.new.work c.perform-course.new.state
performed c {t} g e r =
    let a = c.args in
    subst
    (λ g.
    Performs (run_from (step (bodies [])) g t) a.work.now a.state.now c.perform-course.result c.perform-course.new.work
    c.perform-course.new.state)
    g (c.perform-course.ensures [] t (holds_nothing _) e r)

pub returns-then-caller-gt7 : goal.returns-then-caller-gt7
returns-then-caller-gt7 c =
    let a = c.args in
    let met =
    meets_refusal a.term.now a.budget a.caller a.desk.allowances a.work.now a.state.now
    c.refused.result (caller_refused c.if-caller-gt7.true) c.refused.ensures.0 (ap (λ d. d.allowances) c.refused.ensures.1) in
    record { outcome = met.0; safety = met.1 }

pub returns-then-work-lt8192 : goal.returns-then-work-lt8192
returns-then-work-lt8192 c =
    let a = c.args in
    let met =
    meets_refusal a.term.now a.budget a.caller a.desk.allowances a.work.now a.state.now
    c.refused-then-work-lt8192.result (work_refused c.if-caller-gt7.false c.if-work-lt8192.true) c.refused-then-work-lt8192.ensures.0
    (ap (λ d. d.allowances) c.refused-then-work-lt8192.ensures.1) in
    record { outcome = met.0; safety = met.1 }

pub returns-then-state-lt1024 : goal.returns-then-state-lt1024
returns-then-state-lt1024 c =
    let a = c.args in
    let met =
    meets_refusal a.term.now a.budget a.caller a.desk.allowances a.work.now a.state.now
    c.refused-then-state-lt1024.result (state_refused c.if-caller-gt7.false c.if-work-lt8192.false c.if-state-lt1024.true)
    c.refused-then-state-lt1024.ensures.0 (ap (λ d. d.allowances) c.refused-then-state-lt1024.ensures.1) in
    record { outcome = met.0; safety = met.1 }

pub returns-in-Err : goal.returns-in-Err
returns-in-Err c =
    let a = c.args in
    let told = sym c.in-Err.ensures in
    let misread = refused_misread a.term.now _ _ (reads_refusal a.term.now told) in
    let met =
    meets_refusal a.term.now a.budget a.caller a.desk.allowances a.work.now a.state.now
    (record { answer = Err c.in-Err.refusal; desk = a.desk })
    (unread c.if-caller-gt7.false c.if-work-lt8192.false c.if-state-lt1024.false misread) refl refl in
    record { outcome = met.0; safety = met.1 }

pub perform-course-requires : goal.perform-course-requires
perform-course-requires c =
    let a = c.args in
    let l : 2 * longest ≤ length a.work.now = omega (arith, c.if-work-lt8192.false) in
    let (t, e, r) = term_read (goal.at.perform-course-requires c).In_default in
    (l, c.if-state-lt1024.false, ([], t, holds_nothing _, e, r))

pub settle-requires : goal.settle-requires
settle-requires c =
    let (t, e, r) = term_read (goal.at.settle-requires c).In_default in
    let course = c.perform-course.ensures [] t (holds_nothing _) e r in
    let within = steps_within [] c.granted-grant.result r course in
    record {
      run_room_in_bounds = omega (arith, c.if-work-lt8192.false, c.perform-course.auto.work);
      caller_le_last_caller =
          (c.if-caller-gt7.false, omega (arith, within, granted (goal.at.settle-requires c).After-granted-grant));
    }

pub returns : goal.returns
returns c =
    let a = c.args in
    let (t, e, r) = term_read (goal.at.returns c).In_default in
    let g = granted (goal.at.returns c).After-granted-grant in
    let met =
    meets_course a.term.now a.budget a.caller a.desk.allowances a.work.now a.state.now e r
    (performed (goal.at.returns c).After-perform-course g e r) c.if-caller-gt7.false c.if-work-lt8192.false c.if-state-lt1024.false
    (c.settle.ensures c.perform-course.new.state) in
    record { outcome = met.0; safety = met.1 }
