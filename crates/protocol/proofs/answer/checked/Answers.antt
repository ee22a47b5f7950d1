-- `checked` meets its contract: the answer 0 tells a type from a refusal, and the type is the first words of the array lent.
use Rattle.text.specs.Texts.{ascii}
use Rattle.text.proofs.Appended.{appends}
use Rattle.protocol.specs.Answers.{refusal_line}
use Rattle.protocol.proofs.Replying.{refused_check, typed_check}
use Rattle.protocol.proofs.answer.checked.Goals as goal

pub returns-then-answer-ne0 : goal.returns-then-answer-ne0
unfolding refusal_line
returns-then-answer-ne0 g c =
    refused_check c.feguavy_check-answer.result c.feguavy_check-answer.ensures c.if-answer-ne0.true c.refusal.ensures

pub returns : goal.returns
unfolding ascii
returns g c =
    typed_check c.feguavy_check-answer.result c.feguavy_check-answer.ensures c.if-answer-ne0.false
    (rw (c.numbers.ensures, c.text.ensures, c.front.ensures) (simp appends))
