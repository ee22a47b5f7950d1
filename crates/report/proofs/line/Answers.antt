-- `line` meets its contract: a 32-bit number is below 10 ^ 10.
use native.Mathlib.Omega.{arith}
use Rattle.text.proofs.Lengths.{decimal_length}
use Rattle.report.proofs.line.Goals as goal

pub returns-clause-short : goal.returns-clause-short
returns-clause-short g c = decimal_length 9 c.args.value (omega (arith, c.ranges.value))
