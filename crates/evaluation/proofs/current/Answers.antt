-- `current` meets its contract: it hands back the front of the buffer that it is asked for.
use Rattle.std.proofs.Common.{◌≡◌, ◌*◌, ◌≤◌, sym, ap, refl, length, take, rules}
use lib.Seq.{length-take-le}
use Rattle.evaluation.specs.Courses.{buffer}
use Rattle.evaluation.proofs.current.Goals as goal
use Rattle.evaluation.proofs.current.Goals.{Joined-lent, then-lent, else-lent}

chosen : (c : goal.Joined-lent)
    → let a = c.args in
    c.if-lent.buffer.now ≡ buffer a.lent a.work.now a.other.now
unfolding buffer
chosen c =
    elim c.if-lent.branch [
      | then-lent w ↦ rw (w.buffer-is, w.if-lent.true) refl
      | else-lent w ↦ rw (w.buffer-is, w.if-lent.false) refl
    ]

fits : (c : goal.Joined-lent) → 2 * c.args.count ≤ length c.if-lent.buffer.now
fits c = rw (chosen c) c.requires

pub overflow_mul-result : goal.overflow_mul-result
overflow_mul-result c = let h = fits c in search rules

pub slice_bounds-result-end : goal.slice_bounds-result-end
slice_bounds-result-end c = sym (length-take-le _ _ (fits c))

pub returns : goal.returns
returns c = ap (take (2 * c.args.count)) (chosen c)
