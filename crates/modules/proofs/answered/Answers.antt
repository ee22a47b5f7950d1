-- `answered` meets its contract: what is told is the error, or the reply to the bytes that were read.
use mathlib.Core.Path.{refl}
use Rattle.modules.specs.Files.{unreadable, held, tells}
use Rattle.modules.proofs.answered.Goals as goal

pub returns-in-Ok : goal.returns-in-Ok
returns-in-Ok g c = tells (held c.front.result.now) c.judged.ensures

pub returns-in-Err : goal.returns-in-Err
returns-in-Err g c = tells (unreadable c.in-Err.error.number) (record { text = c.unreadable.ensures; work = refl })
