-- `line` meets its contract: each call answers its own reply.
use mathlib.Core.Path.{refl, ◌≡◌}
use Rattle.std.proofs.Common.{arith}
use Rattle.std.proofs.lemmas.Grind.{common_steps}
use Rattle.text.specs.Texts.{ascii}
use Rattle.protocol.specs.Answers.{reply}
use Rattle.protocol.proofs.Requesting.{replies}
use Rattle.protocol.proofs.answer.line.Goals as goal

pub returns-in-Some-Check : goal.returns-in-Some-Check
returns-in-Some-Check g c =
    let a = c.args in
    let asked = c.in-Some-Check in
    replies a.request a.words.now a.work.now asked.ensures asked.field-0-is c.front-term.ensures c.checked.ensures

pub returns-in-Some-Run : goal.returns-in-Some-Run
returns-in-Some-Run g c =
    let a = c.args in
    let asked = c.in-Some-Run in
    let ran = rw c.alone.ensures at c.ran.ensures in
    replies a.request a.words.now a.work.now asked.ensures asked.field-0-is c.front-term.ensures ran.replies

pub returns-in-Some-Kinds : goal.returns-in-Some-Kinds
returns-in-Some-Kinds g c =
    let a = c.args in
    let asked = c.in-Some-Kinds in
    let ran = rw c.alone-in-Some-Kinds.ensures at c.ran-in-Some-Kinds.ensures in
    replies a.request a.words.now a.work.now asked.ensures asked.field-0-is c.front-term.ensures ran.replies

pub returns-in-Some-Part : goal.returns-in-Some-Part
returns-in-Some-Part g c =
    let a = c.args in
    let asked = c.in-Some-Part in
    replies a.request a.words.now a.work.now asked.ensures asked.field-0-is c.front-term.ensures
    (record { text = c.parted.ensures; work = refl })

pub returns-in_default : goal.returns-in_default
unfolding reply ascii
returns-in_default g c =
    let a = c.args in
    let e : reply a.request a.words.now a.work.now ≡ record { text = ascii "error"; work = a.work.now } = grind (arith, common_steps) in
    rw e (record { text = c.text.ensures; work = refl })
