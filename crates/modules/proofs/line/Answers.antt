-- `line` meets its contract: the pieces one behind the other.
use Rattle.modules.proofs.Filing.{with_path}
use Rattle.modules.proofs.line.Goals as goal

pub returns : goal.returns
returns g c = with_path c.answered.ensures c.byte.ensures c.text.ensures c.byte-2.ensures
