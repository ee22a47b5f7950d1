-- `read` meets its contract: by the length of the list, and otherwise by what skimming it for one closed term of 64 levels
-- answers.
use native.Mathlib.Nat.{pos_of_ne-zero}
use Rattle.std.proofs.lemmas.Result.{err_from_is_err_and}
use Rattle.term.proofs.Whole.{read_empty, read_long, read_refused, read_over, read_whole}
use Rattle.term.proofs.reading.read.Goals as goal
use Rattle.term.proofs.reading.read.Goals.{then-length-eq0-via-then-length-eq0, then-length-eq0-via-else-length-eq0+then-length-gt1024}

pub returns-then-length-eq0 : goal.returns-then-length-eq0
returns-then-length-eq0 c =
    elim c.then-length-eq0.branch [
      | then-length-eq0-via-then-length-eq0 w ↦ read_empty _ w.if-length-eq0.true
      | then-length-eq0-via-else-length-eq0+then-length-gt1024 w ↦ read_long _ w.if-length-gt1024.true
    ]

pub returns-in_err-end : goal.returns-in_err-end
returns-in_err-end c =
    let p = err_from_is_err_and c.from_residual.result c.from_residual.ensures.1 in
    rw (p.1, p.2) (read_refused _ (pos_of_ne-zero c.if-length-eq0.false) c.if-length-gt1024.false c.in_err-end.ensures)

pub returns-then-end-length : goal.returns-then-end-length
returns-then-end-length c =
    read_over _ (pos_of_ne-zero c.if-length-eq0.false) c.if-length-gt1024.false c.in_ok-end.ensures c.if-end-length.true

pub returns : goal.returns
returns c =
    read_whole _ (pos_of_ne-zero c.if-length-eq0.false) c.if-length-gt1024.false c.in_ok-end.ensures c.if-end-length.false
