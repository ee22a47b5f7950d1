-- `finished` meets its contract: where a line was begun, it is answered, and what was answered is written out.
use Rattle.std.proofs.Common.{rules}
use Rattle.session.specs.Sessions.{all_read, last_line, flushes}
use Rattle.session.proofs.Session.finished.Goals as goal

pub returns-then-not-begun : goal.returns-then-not-begun
returns-then-not-begun g c = all_read (search rules)

pub returns : goal.returns
returns g c = last_line (search rules) c.line_ended-after.ensures (flushes c.flushed.ensures)
