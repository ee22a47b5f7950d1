-- The outcome of the calculus that the structs and enums of a run stand for.
use Rattle.std.specs.Prelude.{ℕ, List, Result, Ok, Err}
use Rattle.calculus.specs.Answer.{Answer, ok, refused}
use Rattle.calculus.specs.Kinds.{Counts, counts}
use Rattle.calculus.specs.Run as calculus
use Rattle.calculus.specs.Outcomes.{Stop}
use Rattle.calculus.specs.Outcomes as outcomes
use Rattle.term.specs.declared.refusal.Refusal.{Refusal}
use Rattle.term.specs.Reasons.{reason_of}
use Rattle.evaluation.specs.declared.End.{End}
use Rattle.evaluation.specs.declared.End.TheVariants as end
use Rattle.evaluation.specs.declared.Steps.{Steps}
use Rattle.evaluation.specs.declared.Ended.{Ended}
use Rattle.evaluation.specs.declared.Outcome.{Outcome}

abbrev pub end_of : End → calculus.End
end_of end.Value = calculus.at_value
end_of end.Spent = calculus.spent
end_of end.Stuck = calculus.at_stuck
end_of end.Long = calculus.too_long

abbrev pub counts_of : Steps → Counts
counts_of s = counts s.substitutions s.unfoldings s.cancellations

abbrev pub answer_of : Result Ended Refusal → Answer Stop
answer_of (Ok e) = ok (record { end = end_of e.end; steps = e.steps.total; counts = counts_of e.steps })
answer_of (Err r) = refused (reason_of r.reason) r.place

abbrev pub ran_of : Outcome → List ℕ → List ℕ → outcomes.Ran
ran_of r work state = record { answer = answer_of r.answer; desk = r.desk.allowances; work = work; state = state }
