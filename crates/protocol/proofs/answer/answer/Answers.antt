-- `answer` meets its contract: the line, and a line feed behind it.
use Rattle.text.proofs.Appended.{appends}
use Rattle.protocol.proofs.answer.answer.Goals as goal

pub returns : goal.returns
returns g c =
    record { text = rw (c.byte.ensures, c.line.ensures.text) (simp appends); work = c.line.ensures.work }
