-- `take_chunk` meets its contract: all is taken, and what was answered is written out.
use Rattle.session.specs.Sessions.{chunk, flushes}
use Rattle.session.proofs.Session.take_chunk.Goals as goal

pub returns : goal.returns
returns g c = chunk c.take_all-after.ensures (flushes c.flushed.ensures)
