-- `flushed` meets its contract: an output that failed once stays, and of any other it is told what became of its page.
use Rattle.std.proofs.Common.{rules}
use Rattle.protocol.specs.Outputs.{stays}
use Rattle.protocol.proofs.Flushing.{flushes}
use Rattle.protocol.proofs.output.Output.flushed.Goals as goal

pub returns-then-is_some : goal.returns-then-is_some
returns-then-is_some g c = stays (search rules)

pub returns : goal.returns
returns g c = rw c.clear.ensures (flushes c.write_all-put.result (search rules) (search rules) (rw c.bytes-bytes.ensures at c.told-after.ensures))
