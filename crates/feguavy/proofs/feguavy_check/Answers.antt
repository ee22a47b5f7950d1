-- `feguavy_check` meets its contract: its numbers are those of what `check` answers, and the casts keep them, since a place and
-- a type's length are at most 1,024.
use native.Mathlib.Omega.{arith}
use Rattle.feguavy.proofs.Answered.{typed_numbers, untyped_numbers, length_within, untyped_place}
use Rattle.feguavy.proofs.feguavy_check.Goals as goal
use Rattle.feguavy.proofs.feguavy_check.Goals.{After-check}

pub overflow_cast-result : goal.overflow_cast-result
overflow_cast-result c =
    let a = c.args in
    let h = length_within a.term.now a.limit a.work.now a.output.now c.check.result c.check.ensures _ c.in-Ok.is in
    omega arith

pub overflow_cast-result-in-Err : goal.overflow_cast-result-in-Err
overflow_cast-result-in-Err c =
    let a = c.args in
    let h = untyped_place a.term.now a.limit a.work.now a.output.now c.check.result c.check.ensures _ c.in-Err.is in
    omega arith

pub returns-in-Ok : goal.returns-in-Ok
returns-in-Ok c =
    let k = c.check in
    typed_numbers k.result k.ensures _ c.in-Ok.is

pub returns-in-Err : goal.returns-in-Err
returns-in-Err c =
    let k = c.check in
    untyped_numbers k.result k.ensures _ _ c.in-Err.is c.number.ensures
