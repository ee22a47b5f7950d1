use mathlib.Core.Path.{refl, ap, ◌∙◌}
use native.Mathlib.Omega.{arith}
use lib.Seq.{sets, take_all}
use Rattle.kept.proofs.Stores.{sets_next}
use Rattle.kept.proofs.copying.copy.Goals as goal

pub loop-i-preserved : goal.loop-i-preserved
loop-i-preserved c =
    let a = c.args in
    let i = c.loop-i.i in
    rw c.loop-i.invariant (sets_next a.out.now a.at a.source.now i (omega arith))

pub returns : goal.returns
returns c =
    let a = c.args in
    record {
      fits = λ _. (refl, c.loop-i.invariant ∙ ap (sets a.out.now a.at) (take_all c.loop-i.i a.source.now (omega arith)));
      full = λ s. absurd (omega arith);
    }
