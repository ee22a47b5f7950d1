-- `judge` meets its contract: the calls have the room that they ask for, a refused term is not run, and the run is that of a caller
-- alone at the desk.
use Prim.Native.Nat.{ℕ, ◌≤◌}
use mathlib.Core.Path.{◌∙◌}
use native.Mathlib.Omega.{arith}
use lib.ListN.{length, replicate, length-replicate}
use Rattle.calculus.specs.Words.{longest}
use Rattle.calculus.specs.Outcomes.{check_room}
use Rattle.report.specs.Report.{limit}
use Rattle.report.proofs.Judging.{refused_tells, accepted_tells}
use Rattle.report.proofs.judge.Goals as goal

room : check_room limit ≤ length (replicate {A = ℕ} 32768 0)
room = omega (arith, length-replicate {A = ℕ} 32768 0)

space : limit ≤ length (replicate {A = ℕ} 32 0)
space = omega (arith, length-replicate {A = ℕ} 32 0)

state : longest ≤ length (replicate {A = ℕ} 1024 0)
state = omega (arith, length-replicate {A = ℕ} 1024 0)

pub returns-then-answer-ne0 : goal.returns-then-answer-ne0
returns-then-answer-ne0 c =
    c.refused.ensures
    ∙ refused_tells c.args.term.now (replicate 32768 0) (replicate 32 0) room space
    c.feguavy_check-checked.result c.feguavy_check-checked.ensures c.if-answer-ne0.true

pub returns : goal.returns
returns c =
    rw (c.first.ensures, c.first-2.ensures)
    (accepted_tells c.args.term.now (replicate 32768 0) (replicate 32 0) room space
    c.feguavy_check-checked.result c.feguavy_run-ran.result c.span-count.result (replicate 1024 0) state
    c.feguavy_check-checked.ensures c.if-answer-ne0.false
    (rw c.alone.ensures at c.feguavy_run-ran.ensures.outcome) c.span-count.ensures.0)
