-- `raise` meets its contract: a leaf is raised without a survey.
use mathlib.Core.Path.{sym, ap, ◌∙◌}
use native.Mathlib.Omega.{arith}
use lib.ListN.{length}
use Rattle.calculus.proofs.Coding.{size_positive}
use Rattle.term.proofs.Keeping.{kept_length, lies_whole}
use Rattle.kept.proofs.InPlace.{subject_whole, raised_whole}
use Rattle.kept.proofs.rewriting.raise.Goals as goal
use Rattle.kept.proofs.rewriting.raise.Goals.{After-length_at-count}

pub length_at-count-requires : goal.length_at-count-requires
length_at-count-requires c =
    let (e, coded, fits) = c.requires.0 in
    omega (arith, ap length coded, kept_length e, size_positive e)

pub raise_leaf-requires : goal.raise_leaf-requires
raise_leaf-requires c =
    let at = (goal.at.raise_leaf-requires c).After-length_at-count in
    let (e, coded, fits) = at.requires.0 in
    let long = at.length_at-count.ensures.value_2 e (lies_whole coded) in
    ((e, subject_whole coded fits, sym long ∙ c.if-count-eq1.true), at.requires.1)

pub raise_long-requires : goal.raise_long-requires
raise_long-requires c =
    let at = (goal.at.raise_long-requires c).After-length_at-count in
    let (e, coded, fits) = at.requires.0 in
    let long = at.length_at-count.ensures.value_2 e (lies_whole coded) in
    ((e, coded, fits, long, omega (arith, long, c.if-count-eq1.false, size_positive e)), at.requires.1)

pub returns-then-count-eq1 : goal.returns-then-count-eq1
returns-then-count-eq1 c e h has =
    let one = sym (c.length_at-count.ensures.value_2 e (lies_whole h)) ∙ c.if-count-eq1.true in
    c.raise_leaf.ensures e (lies_whole h) has one ∙ raised_whole e h c.args.by 0
