-- `answer` meets its contract: the line, and a line feed behind it.
use Rattle.text.proofs.Appended.{appends}
use Rattle.protocol.proofs.desk.answer.Goals as goal

pub returns : goal.returns
returns g c =
    let line = c.line-after.ensures in
    record {
      replies = record { text = rw (c.byte.ensures, line.replies.text) (simp appends); work = line.replies.work };
      desk = line.desk;
    }
