use Prim.Native.Nat.{◌+◌, ◌*◌, ◌-◌}
use mathlib.Core.Path.{◌∙◌, ap}
use native.Mathlib.Omega.{arith}
use borrow.Author.Rules.{rules}
use borrow.Rule.Slice.PartMut.{put_mid}
use Rattle.kept.proofs.Zeros.{cleared_none, cleared_more}
use Rattle.kept.proofs.clearing.clear.Goals as goal
use Rattle.kept.proofs.clearing.clear.Goals.{then-not-is_clear, else-not-is_clear}

pub loop-block-init : goal.loop-block-init
loop-block-init c = cleared_none c.args.work.now

pub loop-block-preserved : goal.loop-block-preserved
loop-block-preserved c =
    let l = c.loop-block in
    let from = 512 * l.block in
    let to = 512 * (l.block + 1) in
    cleared_more from to c.args.work.now (omega arith) (omega arith) l.invariant
    (elim c.if-not-is_clear.branch [
      | then-not-is_clear w ↦ w.work-is ∙ ap (put_mid from (to - from) l.work) (w.fill.ensures.after (search rules))
      | else-not-is_clear w ↦ w.work-is ∙ ap (put_mid from (to - from) l.work) (c.is_clear.ensures.0 w.if-not-is_clear.false)
    ])
