-- `list_line` meets its contract: each element of the slice has 16 bits.
use native.Mathlib.Omega.{arith}
use Rattle.text.proofs.Lengths.{list_length}
use Rattle.report.proofs.list_line.Goals as goal

pub returns-clause-short : goal.returns-clause-short
returns-clause-short g c = list_length c.args.words.now (λ i. omega (arith, c.type_inv.words i))
