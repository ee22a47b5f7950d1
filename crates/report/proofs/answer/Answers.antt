-- `answer` meets its contract: the bytes that it refuses are those that `outcome` refuses, and the words that it judges are theirs.
use Prim.Native.Nat.{ℕ, ◌/◌}
use mathlib.Core.List.{List}
use mathlib.Core.Path.{sym, ap, ◌∙◌}
use lib.ListN.{length, take, replicate, length-replicate}
use Rattle.text.proofs.Pairs.{all_stored}
use Rattle.report.specs.Report.{judged, told}
use Rattle.report.proofs.Admitting.{not_allowed, admitted}
use Rattle.report.proofs.answer.Goals as goal

pub returns-then-allowed : goal.returns-then-allowed
returns-then-allowed c =
    let bytes = c.args.bytes.now in
    let words = sym c.allowed.ensures ∙ c.if-allowed.true in
    let zeros : List ℕ = replicate 1024 0 in
    let term = c.front.ensures ∙ ap (take (length bytes / 2)) c.of_bytes.ensures
    ∙ all_stored bytes zeros words (length-replicate {A = ℕ} 1024 0) in
    c.judge.ensures ∙ ap (λ ws. told (judged ws)) term ∙ ap told (sym (admitted bytes words))

pub returns : goal.returns
returns c =
    c.refused.ensures ∙ not_allowed c.args.bytes.now (sym c.allowed.ensures ∙ c.if-allowed.false)
