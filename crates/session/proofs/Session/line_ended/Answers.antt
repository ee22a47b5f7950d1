-- `line_ended` meets its contract: the field is at its end, and the request is answered.
use Rattle.session.proofs.Taking.{answers_line}
use Rattle.session.proofs.Session.line_ended.Goals as goal

pub returns : goal.returns
returns g c =
    let a = c.args in
    answers_line a.self a.words.now a.work.now a.page.now c.field_ended-request.ensures c.answered.ensures
