-- `classify` meets its contract: each arm's number or range has the meaning that the arm answers.
use mathlib.Core.Path.{sym, ap}
use native.Mathlib.Omega.{arith}
use Rattle.calculus.specs.Meaning.{meaning}
use Rattle.term.proofs.Words.{gap, variable, named, beyond}
use Rattle.term.proofs.word.classify.Goals as goal

pub returns-in-7-to-15 : goal.returns-in-7-to-15
returns-in-7-to-15 c = grind (arith, gap)

pub returns-in-16-to-2047 : goal.returns-in-16-to-2047
returns-in-16-to-2047 c = grind (arith, variable)

pub returns-in-2048-to-2079 : goal.returns-in-2048-to-2079
returns-in-2048-to-2079 c = grind (arith, named)

pub returns-in_default : goal.returns-in_default
returns-in_default c = grind (arith, beyond)

pub returns-in-0 : goal.returns-in-0
unfolding meaning
returns-in-0 c = ap meaning (sym c.in-0.is)

pub returns-in-1 : goal.returns-in-1
unfolding meaning
returns-in-1 c = ap meaning (sym c.in-1.is)

pub returns-in-2 : goal.returns-in-2
unfolding meaning
returns-in-2 c = ap meaning (sym c.in-2.is)

pub returns-in-3 : goal.returns-in-3
unfolding meaning
returns-in-3 c = ap meaning (sym c.in-3.is)

pub returns-in-4 : goal.returns-in-4
unfolding meaning
returns-in-4 c = ap meaning (sym c.in-4.is)

pub returns-in-5 : goal.returns-in-5
unfolding meaning
returns-in-5 c = ap meaning (sym c.in-5.is)

pub returns-in-6 : goal.returns-in-6
unfolding meaning
returns-in-6 c = ap meaning (sym c.in-6.is)
