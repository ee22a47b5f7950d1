-- `raise_long` meets its contract: a term without variables is the same raised, any other is raised at its node.
use mathlib.Core.Path.{refl, sym, ap, ◌∙◌}
use native.Mathlib.Omega.{arith}
use lib.ListN.{length}
use Rattle.calculus.specs.Term.{raise}
use Rattle.term.specs.Kept.{kept}
use Rattle.term.proofs.Keeping.{kept_length, kept_injective, lies_whole}
use Rattle.kept.proofs.InPlace.{fits_worded, subject_whole, surveyed_whole, raised_whole, clear_raised}
use Rattle.kept.proofs.rewriting.raise_long.Goals as goal
use Rattle.kept.proofs.rewriting.raise_long.Goals.{After-find_variables, After-raise_parts}

pub find_variables-requires : goal.find_variables-requires
find_variables-requires c =
    let (e, coded, fits, count, long) = c.requires.0 in
    (omega arith, omega (arith, count, fits.short), omega (arith, count, ap length coded, kept_length e), refl)

pub raise_parts-requires : goal.raise_parts-requires
raise_parts-requires c =
    let found = (goal.at.raise_parts-requires c).After-find_variables in
    let (e, coded, fits, count, long) = found.requires.0 in
    ((e, subject_whole coded fits, surveyed_whole coded count fits found.find_variables.ensures, long), found.requires.1)

pub returns-then-from-count : goal.returns-then-from-count
returns-then-from-count c e h has =
    let call = (goal.at.returns-then-from-count c).After-raise_parts in
    call.raise_parts.ensures e (lies_whole h) has ∙ raised_whole e h call.args.by 0

pub returns-else-from-count : goal.returns-else-from-count
returns-else-from-count c e h has =
    let found = (goal.at.returns-else-from-count c).After-find_variables in
    let (e₀, coded, fits, count, long) = found.requires.0 in
    let by = found.args.by in
    clear_raised
    by
    0
    (lies_whole coded)
    (surveyed_whole coded count fits found.find_variables.ensures)
    (omega (arith, c.if-from-count.false, c.from.ensures, count))
    ∙ raised_whole e₀ coded by 0
    ∙ ap (λ x. kept (raise by 0 x)) (kept_injective e₀ e (fits_worded fits) has (sym coded ∙ h))
