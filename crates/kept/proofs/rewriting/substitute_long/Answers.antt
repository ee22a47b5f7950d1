-- `substitute_long` meets its contract: the survey is of the nodes of the term, and so one for its rewriting.
use mathlib.Core.Path.{refl}
use native.Mathlib.Omega.{arith}
use Rattle.term.proofs.Keeping.{lies_within}
use Rattle.kept.proofs.rewriting.substitute_long.Goals as goal

pub find_variables-requires : goal.find_variables-requires
find_variables-requires c =
    let (e, subject, count, many, short) = c.requires.2 in
    (omega arith, omega (arith, count, short), omega (arith, count, lies_within subject.lies), refl)
