-- `bound` meets its contract: the variants of its first arm bind one variable in their second part, and no other binds.
use mathlib.Core.Path.{ap, ◌∙◌}
use Rattle.calculus.specs.Meaning.{binds}
use Rattle.term.specs.Word.{second}
use Rattle.term.proofs.Visits.{one_bound, none_bound}
use Rattle.term.proofs.word.bound.Goals as goal

pub returns-in-Abstraction : goal.returns-in-Abstraction
returns-in-Abstraction c = one_bound _ c.in-Abstraction.is ∙ ap (λ x. second (binds x)) c.classify.ensures

pub returns-in_default : goal.returns-in_default
returns-in_default c =
    let arm = c.in_default in
    none_bound _ arm.not-Abstraction arm.not-Product arm.not-Recursion ∙ ap (λ x. second (binds x)) c.classify.ensures
