-- `stays` meets its contract: a leaf below the free variables and a part without variables and names are what substitution makes
-- of them.
use mathlib.Core.Path.{◌≡◌, sym, subst, ◌∙◌}
use native.Mathlib.Omega.{arith}
use borrow.Author.Tests.{leb-true, ltb-true}
use Rattle.calculus.specs.Term.{size}
use Rattle.calculus.proofs.Coding.{size_positive}
use Rattle.term.proofs.Nodes.{view}
use Rattle.term.proofs.Keeping.{lies_one, lies_within}
use Rattle.kept.specs.Rewriting.{Surveyed}
use Rattle.kept.proofs.Clear.{substitute_clear, surveyed_clear}
use Rattle.kept.proofs.InPlace.{subject_worded}
use Rattle.kept.proofs.Putting.{leaf_stays}
use Rattle.kept.proofs.rewriting.stays.Goals as goal

pub length_at-length-requires : goal.length_at-length-requires
length_at-length-requires c =
    let (e, subject, surveyed) = c.requires in
    omega (arith, lies_within subject.lies, size_positive e)

pub returns-then-length-eq1 : goal.returns-then-length-eq1
returns-then-length-eq1 c below e u l has =
    let single : size e ≡ 1 = sym (c.length_at-length.ensures.value_2 e l) ∙ c.if-length-eq1.true in
    leaf_stays (view e) c.args.depth u l has single (λ free. omega (arith, free, ltb-true))

pub bounds-survey-node-2 : goal.bounds-survey-node-2
bounds-survey-node-2 c =
    let (e, subject, surveyed) = c.requires in
    omega (arith, surveyed.reach, surveyed.within, size_positive e)

pub returns : goal.returns
returns c clear e u l has =
    let a = c.args in
    let (e₀, subject, surveyed) = c.requires in
    let long = c.length_at-length.ensures.value_2 in
    let is : e₀ ≡ e = lies_one (subject_worded subject) has subject.lies l in
    let survey = subst (λ t. Surveyed t a.survey.now.source.now a.node a.survey.now.first.now) is surveyed in
    substitute_clear a.depth u (surveyed_clear l survey (omega (arith, long e l, leb-true, c.from.ensures)))
