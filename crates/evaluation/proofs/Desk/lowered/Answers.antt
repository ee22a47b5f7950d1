-- `lowered` meets its contract: the store of the difference is the definition's.
use mathlib.Core.Path.{refl}
use Rattle.calculus.specs.Outcomes.{lowered}
use Rattle.evaluation.proofs.Desk.lowered.Goals as goal

pub returns : goal.returns
unfolding lowered
returns c = refl
