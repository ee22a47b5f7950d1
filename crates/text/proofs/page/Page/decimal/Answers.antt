-- The digits that `io` makes are the fewest, and so the number's decimal text.
use mathlib.Core.List.{[], ◌∷◌}
use mathlib.Core.Path.{sym, ap, ◌∙◌}
use native.Mathlib.Omega.{arith}
use lib.ListN.{take}
use lib.Seq.{take_all}
use Rattle.std.proofs.lemmas.List.{take_more}
use Rattle.text.specs.Appending.{appended}
use Rattle.text.proofs.Appended.{none, both}
use Rattle.text.proofs.Decimals.{fewest_decimal}
use Rattle.text.proofs.page.Page.decimal.Goals as goal

pub loop-digit-init : goal.loop-digit-init
loop-digit-init g c = sym (none g.row.N c.args.self.now)

pub loop-digit-preserved : goal.loop-digit-preserved
loop-digit-preserved g c =
    let made = take c.decimal-count.result c.decimal-count.new.out in
    let page = c.args.self.now in
    let i = c.loop-digit.digit-index in
    rw (c.byte.ensures, c.loop-digit.invariant) (both g.row.N page (take i made) (_ ∷ []) ∙ ap (λ l. appended g.row.N page l) (sym (take_more made i 0 (omega arith))))

pub returns : goal.returns
returns g c =
    let made = c.decimal-count in
    let digits = take made.result made.new.out in
    let value = c.args.value in
    c.loop-digit.invariant
    ∙ ap (λ l. appended g.row.N c.args.self.now l)
    (take_all c.loop-digit.digit-index digits (omega arith) ∙ made.ensures.digits ∙ fewest_decimal made.result value made.ensures.len)
