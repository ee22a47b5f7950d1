-- `byte` meets its contract: where there is room the byte stands behind what is written, and else nothing changes.
use Prim.Native.Nat.{◌+◌, ◌≤◌}
use mathlib.Core.List.{[], ◌∷◌, ◌++◌}
use mathlib.Core.Path.{sym, ap, ◌∙◌}
use native.Mathlib.Omega.{arith}
use lib.ListN.{length, length-take}
use Rattle.std.proofs.lemmas.List.{take_more_set}
use Rattle.text.proofs.Appended.{whole, full}
use Rattle.text.proofs.page.Page.byte.Goals as goal

pub returns-then-self : goal.returns-then-self
returns-then-self g c =
    let p = c.self.inside in
    let value = c.args.value in
    let short : length c.args.self.now + 1 ≤ g.row.N = omega (arith, ap length c.self.view_is, length-take p.length p.bytes) in
    take_more_set p.bytes p.length value (omega arith)
    ∙ ap (λ l. l ++ value ∷ []) c.self.view_is
    ∙ sym (whole g.row.N c.args.self.now (value ∷ []) short)

pub returns-else-self : goal.returns-else-self
returns-else-self g c =
    let p = c.self.inside in
    sym (full g.row.N c.args.self.now (c.args.value ∷ []) (omega (arith, ap length c.self.view_is, length-take p.length p.bytes)))
