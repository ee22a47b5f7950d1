-- `text` meets its contract: behind what was written stands now what fits.
use mathlib.Core.List.{◌++◌}
use mathlib.Core.Path.{ap, ap₂, ◌∙◌}
use native.Mathlib.Omega.{arith}
use lib.ListN.{length, take}
use Rattle.std.proofs.lemmas.Slice.{take-put_mid}
use Rattle.text.specs.Appending.{appended}
use Rattle.text.proofs.page.Page.text.Goals as goal

pub returns : goal.returns
unfolding appended
returns g c =
    let p = c.self.inside in
    let text = c.args.text.now in
    let copied = c.copy_from_slice.ensures.after in
    let fits = c.front-fits.ensures ∙ ap (λ n. take n text) c.room.ensures in
    take-put_mid p.length _ p.bytes _ _ (omega (arith, ap length copied)) (omega arith)
    ∙ ap₂ (λ l m. l ++ m) c.self.view_is (copied ∙ fits)
