-- `length_at` meets its contract. The length read there is the size of the term that lies there.
use mathlib.Core.Path.{◌∙◌}
use Rattle.term.proofs.Keeping.{lies_length}
use Rattle.kept.proofs.keeping.length_at.Goals as goal

pub returns : goal.returns
returns c = record { value = c.from.ensures; value_2 = λ t l. c.from.ensures ∙ lies_length l }
