-- `list` meets its contract: with no number nothing is written, and otherwise the first stands in front of the others.
use mathlib.Core.List.{map}
use mathlib.Core.Path.{sym, ap}
use native.Mathlib.Omega.{arith}
use Rattle.std.proofs.lemmas.List.{nil_from_length}
use Rattle.std.proofs.lemmas.Slice.{first_rest}
use Rattle.text.specs.Appending.{appended}
use Rattle.text.specs.Texts.{list}
use Rattle.text.proofs.Appended.{none, both}
use Rattle.text.proofs.page.Page.list.Goals as goal

pub returns-in_default : goal.returns-in_default
unfolding list
returns-in_default g c = rw (nil_from_length c.args.numbers.now (omega arith)) (sym (none g.row.N c.args.self.now))

pub returns-in-len1-up : goal.returns-in-len1-up
unfolding list
returns-in-len1-up g c =
    let numbers = c.args.numbers.now in
    rw (c.numbers.ensures, c.decimal.ensures, c.value.ensures, both, c.first-item.is)
    (ap (λ l. appended g.row.N c.args.self.now (list (map g.T.Number.value l))) (sym (first_rest numbers c.first-item.result (omega arith))))
