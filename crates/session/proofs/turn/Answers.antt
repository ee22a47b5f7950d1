-- `turn` meets its contract: what is read is not known, and what is then done with it is.
use Rattle.std.proofs.Common.{rules}
use Rattle.session.specs.Sessions.{unreadable, finished, failed, going_on}
use Rattle.session.proofs.turn.Goals as goal

pub returns-in-Ok-eq0 : goal.returns-in-Ok-eq0
returns-in-Ok-eq0 g c = finished c.finished-last.ensures

pub returns-then-is_some : goal.returns-then-is_some
returns-then-is_some g c = failed _ c.take_chunk-after.ensures (search rules)

pub returns-in-Ok : goal.returns-in-Ok
returns-in-Ok g c = going_on _ c.take_chunk-after.ensures (search rules)

pub returns : goal.returns
returns g c = unreadable
