-- `settle` meets its contract: sixteen blocks are the room of a run.
use mathlib.Core.Path.{refl}
use Rattle.evaluation.proofs.settle.Goals as goal

pub returns : goal.returns
returns c state = rw (c.lowered.ensures, c.clear.ensures) refl
