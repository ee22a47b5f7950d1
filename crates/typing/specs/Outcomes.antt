-- The outcome of the calculus that what a check answers and leaves stands for.
use Rattle.std.specs.Prelude.{ℕ, List, Result}
use Rattle.calculus.specs.Outcomes as calculus
use Rattle.term.specs.Reasons.{answer_of}
use Rattle.term.specs.declared.refusal.Refusal.{Refusal}

abbrev pub checked_of : Result ℕ Refusal → List ℕ → List ℕ → calculus.Checked
checked_of r work output = record { answer = answer_of r; work = work; output = output }
