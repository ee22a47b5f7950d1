-- `step_held` meets its contract: what the step writes into a part of the working slice, said of the whole slice.
use Prim.Native.Nat.{◌+◌, ◌-◌, ◌*◌}
use native.Mathlib.Omega.{arith}
use Rattle.book.specs.Layout.{decode}
use Rattle.inference.specs.Moving.{next_of}
use Rattle.inference.proofs.Holding.{held_over}
use Rattle.inference.proofs.Lent.{moves}
use Rattle.inference.proofs.moving.step_held.Goals as goal

pub step-requires : goal.step-requires
step-requires c =
    (held_over c.requires.2 c.requires.3, omega arith)

pub returns : goal.returns
unfolding next_of
returns c =
    let a = c.args in
    let s = c.step in
    let n = 2 * (a.top + a.check.now.limit) - 2 * a.top in
    λ b h has none.
    let over = s.ensures (decode a.check.now.book.now) b c.requires.2 (record { coded = h; has_words = has; named = none }) in
    moves (next_of a.check.now.reader a.check.now.book.now b) a.work.now a.top a.check.now.limit n s.result s.new.out (omega arith) (omega arith) over
