-- `ready_for` meets its contract: the test is the one of the definition, and where it holds the output is flushed.
use Rattle.protocol.specs.Outputs.{at_once, after_all}
use Rattle.protocol.proofs.output.Output.ready_for.Goals as goal

pub returns-then-grant-ge-LONG : goal.returns-then-grant-ge-LONG
returns-then-grant-ge-LONG g c = after_all c.if-grant-ge-LONG.true c.flushed.ensures

pub returns : goal.returns
returns g c = at_once c.if-grant-ge-LONG.false
