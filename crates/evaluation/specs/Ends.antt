-- How a run ends in a state from which no step was taken.
use Rattle.reduction.specs.declared.stepping.Halt.{Halt}
use Rattle.reduction.specs.declared.stepping.Halt.TheVariants as halt
use Rattle.evaluation.specs.declared.End.{End}
use Rattle.evaluation.specs.declared.End.TheVariants as end

abbrev pub end_of_halt : Halt → End
end_of_halt halt.Value = end.Value
end_of_halt halt.Stuck = end.Stuck
end_of_halt halt.Full = end.Long
