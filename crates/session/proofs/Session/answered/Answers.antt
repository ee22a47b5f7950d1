-- `answered` meets its contract: the answers before are written out, or the answer is given.
use Rattle.std.proofs.Common.{rules}
use Rattle.session.specs.Sessions.{withheld, answered}
use Rattle.session.proofs.Session.answered.Goals as goal

pub returns-then-is_some : goal.returns-then-is_some
returns-then-is_some g c = withheld (rw c.granted.ensures at c.ready_for-ready.ensures) (search rules)

pub returns : goal.returns
returns g c =
    rw c.new.ensures
    (answered (rw c.granted.ensures at c.ready_for-ready.ensures) (search rules) c.replied-after.ensures
    (rw c.answered.ensures at c.with_room.ensures))
