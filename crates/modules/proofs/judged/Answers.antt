-- `judged` meets its contract: the bytes that it refuses are those that are not allowed, and otherwise the words are theirs.
use Prim.Native.Nat.{ℕ}
use mathlib.Core.List.{List}
use mathlib.Core.Path.{sym, ◌∙◌}
use lib.ListN.{replicate, length-replicate}
use Rattle.protocol.specs.Answers.{refusal_line}
use Rattle.modules.proofs.Filing.{not_allowed, are_words}
use Rattle.modules.proofs.judged.Goals as goal

pub returns-then-not-allowed : goal.returns-then-not-allowed
unfolding refusal_line
returns-then-not-allowed g c =
    let args = c.args in
    not_allowed args.request args.bytes.now args.work.now (sym c.allowed.ensures ∙ c.if-not-allowed.true) c.refusal.ensures

pub returns : goal.returns
returns g c =
    let args = c.args in
    let zeros : List ℕ = replicate 1024 0 in
    are_words args.request args.bytes.now args.work.now zeros (length-replicate {A = ℕ} 1024 0)
    (sym c.allowed.ensures ∙ c.if-not-allowed.false) c.of_bytes.ensures
    (rw c.with_count.ensures at c.line.ensures)
