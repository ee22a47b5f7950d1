-- `take_all` meets its contract: a line is read, and is the last or one more; the end of its answers may be the end of all.
use Rattle.std.proofs.Common.{◌+◌, rules, arith}
use Rattle.std.proofs.lemmas.List.{take_rest}
use Rattle.session.proofs.Taking.{reads_line, taken_none, taken_all, taken_unended, taken_stopped, taken_further}
use Rattle.session.proofs.Session.take_all.Goals as goal

pub loop-rest-init : goal.loop-rest-init
loop-rest-init g c = taken_none _ _

pub returns-then-rest-fed : goal.returns-then-rest-fed
returns-then-rest-fed g c =
    let loop = c.loop-rest in
    let fed = c.fed_line-fed.ensures in
    taken_unended loop.invariant (reads_line loop.now loop.words loop.work loop.page _ fed.words_after) (search rules) c.if-rest-fed.true

pub overflow_add-rest : goal.overflow_add-rest
overflow_add-rest g c = omega (arith, c.if-rest-fed.false, c.loop-rest.invariant.within)

pub returns-then-is_some : goal.returns-then-is_some
returns-then-is_some g c =
    let loop = c.loop-rest in
    let fed = c.fed_line-fed.ensures in
    taken_stopped loop.invariant (reads_line loop.now loop.words loop.work loop.page _ fed.words_after) (search rules) c.if-rest-fed.false
    c.line_ended-now.ensures (search rules)

pub loop-rest-preserved : goal.loop-rest-preserved
loop-rest-preserved g c =
    let loop = c.loop-rest in
    let fed = c.fed_line-fed.ensures in
    rw (take_rest loop.rest.now (c.fed_line-fed.result.at + 1))
    (taken_further loop.invariant (reads_line loop.now loop.words loop.work loop.page _ fed.words_after) (search rules) c.if-rest-fed.false
    c.line_ended-now.ensures (search rules))

pub returns : goal.returns
returns g c = taken_all c.loop-rest.invariant (search rules)
