use mathlib.Core.List.{[], ◌∷◌, ◌++◌, map}
use mathlib.Core.Path.{sym, ap, ◌∙◌}
use native.Mathlib.Omega.{arith}
use lib.ListN.{take}
use Rattle.std.proofs.lemmas.List.{map_more}
use Rattle.text.specs.Appending.{appended}
use Rattle.text.specs.Texts.{spaced}
use Rattle.text.proofs.Appended.{none}
use Rattle.text.proofs.Lists.{spaced_next}
use Rattle.text.proofs.page.Page.numbers.Goals as goal

pub loop-number-init : goal.loop-number-init
unfolding spaced
loop-number-init g c = sym (none g.row.N c.args.self.now)

pub loop-number-preserved : goal.loop-number-preserved
loop-number-preserved g c =
    let value = g.T.Number.value in
    let numbers = c.args.numbers.now in
    let i = c.loop-number.number-index in
    let w = c.number-item.result in
    rw (c.number.ensures, c.loop-number.invariant, c.value.ensures)
    (spaced_next g.row.N c.args.self.now (map value (take i numbers)) (value w)
    ∙ ap (λ x. appended g.row.N c.args.self.now (spaced (map value (take i numbers) ++ value x ∷ []))) c.number-item.is
    ∙ ap (λ l. appended g.row.N c.args.self.now (spaced l)) (sym (map_more value numbers i w (omega arith))))
