-- `write_all` meets its contract: what a write takes is the next of the bytes.
use Rattle.std.proofs.Common.{arith, subst, sym}
use Rattle.std.proofs.Math.Seq.{take-add}
use Rattle.std.proofs.lemmas.List.{take_rest}
use Rattle.std.specs.Io.KnownBytes.{Appends}
use Rattle.std.proofs.KnownBytes.{Appends-trans}
use Rattle.streams.proofs.write_all.Goals as goal

pub loop-count-preserved : goal.loop-count-preserved
loop-count-preserved g c =
    let bytes = c.args.bytes.now in
    let count = c.loop-count.count in
    let whole = rw (take_rest bytes count) at c.in-Ok.ensures.bytes in (
      omega (arith, c.in-Ok.ensures.within),
      subst (Appends _ _) (sym (take-add count c.in-Ok.taken bytes)) (Appends-trans _ _ _ _ _ c.loop-count.invariant.1 whole),
    )
