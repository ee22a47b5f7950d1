-- `with_room` meets its contract: there is room, or the output is flushed.
use Rattle.protocol.specs.Outputs.{room, flushed}
use Rattle.protocol.proofs.output.Output.with_room.Goals as goal

pub returns-then-room-ge-LONGEST : goal.returns-then-room-ge-LONGEST
returns-then-room-ge-LONGEST g c = room (rw (← c.room.ensures) c.if-room-ge-LONGEST.true)

pub returns : goal.returns
returns g c = flushed c.flushed.ensures
