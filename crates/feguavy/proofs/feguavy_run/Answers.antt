-- `feguavy_run` meets its contract: its numbers are those of what `run` answers, and the cast keeps a refused place, which is
-- at most 1,024. That it is safe is demand 3 of the calculus.
use mathlib.Core.List.{[]}
use native.Mathlib.Omega.{arith}
use Rattle.calculus.specs.Growing.{nothing_added}
use Rattle.calculus.proofs.SafetyDemand.{demand3}
use Rattle.feguavy.proofs.Answered.{ended_numbers, unrun_numbers, unrun_place}
use Rattle.feguavy.proofs.feguavy_run.Goals as goal
use Rattle.feguavy.proofs.feguavy_run.Goals.{After-run-outcome}

pub overflow_cast-result : goal.overflow_cast-result
overflow_cast-result c =
    let a = c.args in
    let h = unrun_place a.term.now a.budget a.caller a.desk.allowances a.work.now a.state.now c.run-outcome.result c.run-outcome.ensures.outcome _ c.in-Err.is in
    omega arith

pub returns-in-Ok : goal.returns-in-Ok
returns-in-Ok c =
    let k = c.run-outcome in
    let numbered = ended_numbers k.result k.ensures.outcome _ _ c.in-Ok.is c.number_of_end.ensures in
    record { outcome = numbered; safety = (_, numbered, demand3.0 [] [] nothing_added nothing_added _ _ _ _ _ _) }

pub returns-in-Err : goal.returns-in-Err
returns-in-Err c =
    let k = c.run-outcome in
    let numbered = unrun_numbers k.result k.ensures.outcome _ _ c.in-Err.is c.number.ensures in
    record { outcome = numbered; safety = (_, numbered, demand3.0 [] [] nothing_added nothing_added _ _ _ _ _ _) }
