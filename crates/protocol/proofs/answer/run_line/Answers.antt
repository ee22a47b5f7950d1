-- `run_line` meets its contract: the answer 0 tells an end from a refusal, and a walk finds how long the state is.
use mathlib.Core.Path.{◌≡◌, ◌∙◌, sym, ap}
use Rattle.calculus.specs.Kinds.{counts}
use Rattle.text.specs.Appending.{appended}
use Rattle.text.specs.Texts.{ascii, spaced}
use Rattle.text.proofs.Appended.{none, appends}
use Rattle.protocol.specs.Answers.{by_kind, refusal_line}
use Rattle.protocol.proofs.Replying.{refused_text, ended_text}
use Rattle.protocol.proofs.answer.run_line.Goals as goal
use Rattle.protocol.proofs.answer.run_line.Goals.{then-kinds, else-kinds}

pub returns-then-ran-ne0 : goal.returns-then-ran-ne0
unfolding refusal_line
returns-then-ran-ne0 g c =
    let a = c.args in
    c.refusal.ensures ∙ ap (appended g.row.N a.page.now) (refused_text a.kinds a.caller a.ran a.state.now c.if-ran-ne0.true)

pub returns : goal.returns
unfolding ascii spaced
returns g c =
    let a = c.args in
    let kind = by_kind a.kinds (counts a.ran.substitutions a.ran.unfoldings a.ran.cancellations) in
    let kinds : c.if-kinds.page ≡ appended g.row.N c.numbers.new.self (spaced kind) =
    elim c.if-kinds.branch [
      | then-kinds w ↦ rw w.if-kinds.true (w.page-is ∙ w.numbers-then-kinds.ensures)
      | else-kinds w ↦ rw w.if-kinds.false (w.page-is ∙ sym (none g.row.N c.numbers.new.self))
    ] in
    rw (
      ← ended_text a.kinds a.caller a.ran a.state.now c.if-ran-ne0.false,
      c.numbers-3.ensures,
      c.text-2.ensures,
      c.numbers-2.ensures,
      kinds,
      c.numbers.ensures,
      c.text.ensures,
      c.front.ensures,
      c.span.ensures.0,
      c.allowance_of.ensures,
    )
    (simp appends)
