-- `line` meets its contract: each call answers its own reply.
use mathlib.Core.Path.{refl, ◌≡◌}
use Rattle.std.proofs.Common.{arith}
use Rattle.std.proofs.lemmas.Grind.{common_steps}
use Rattle.text.specs.Texts.{ascii}
use Rattle.protocol.specs.Answers.{reply}
use Rattle.protocol.specs.Desks.{Serving, served}
use Rattle.protocol.proofs.Requesting.{serves}
use Rattle.protocol.proofs.desk.line.Goals as goal

pub returns-in-Some-DeskNew : goal.returns-in-Some-DeskNew
unfolding ascii
returns-in-Some-DeskNew g c =
    let a = c.args in
    let asked = c.in-Some-DeskNew in
    serves a.request a.words.now a.work.now asked.ensures asked.field-0-is a.desk
    (record { replies = record { text = c.text.ensures; work = refl }; desk = refl })

pub returns-in-Some-DeskRun : goal.returns-in-Some-DeskRun
returns-in-Some-DeskRun g c =
    let a = c.args in
    let asked = c.in-Some-DeskRun in
    serves a.request a.words.now a.work.now asked.ensures asked.field-0-is a.desk (rw c.front-term.ensures at c.ran.ensures)

pub returns-in-Some-DeskShow : goal.returns-in-Some-DeskShow
returns-in-Some-DeskShow g c =
    let a = c.args in
    let asked = c.in-Some-DeskShow in
    serves a.request a.words.now a.work.now asked.ensures asked.field-0-is a.desk
    (record { replies = record { text = c.shown.ensures; work = refl }; desk = refl })

pub returns-in_default : goal.returns-in_default
unfolding served
returns-in_default g c =
    let a = c.args in
    let ws = a.words.now in
    let W = a.work.now in
    let alone : Serving = record { reply = reply a.request ws W; desk = a.desk.allowances } in
    let e : served a.request a.desk.allowances ws W ≡ alone = grind (arith, common_steps) in
    rw e (record { replies = c.line.ensures; desk = refl })
