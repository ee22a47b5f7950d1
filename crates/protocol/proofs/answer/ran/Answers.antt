-- `ran` meets its contract: the line is that of the run's numbers, and the desk that of the run.
use Rattle.protocol.proofs.Replying.{run_serves}
use Rattle.protocol.proofs.answer.ran.Goals as goal

pub returns : goal.returns
returns g c =
    let a = c.args in
    run_serves a.kinds a.caller c.feguavy_run-answer.result c.feguavy_run-answer.ensures.outcome c.run_line.ensures
