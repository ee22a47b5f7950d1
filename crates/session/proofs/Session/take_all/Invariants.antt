-- The loop's invariant: all but the rest of the input is taken. The measure is that rest.
use lib.ListN.{length}
use Rattle.session.specs.Sessions.{place}
use Rattle.session.proofs.Taking.{Taken}
use Rattle.session.proofs.Session.take_all.Given as goal

abbrev pub invariant-loop-rest : goal.invariant-loop-rest
invariant-loop-rest g l =
    Taken g.row.N l.fn.input (place l.initial.now l.initial.words l.initial.work l.initial.page) l.rest (place l.now l.words l.work l.page)

abbrev pub decreases-loop-rest : goal.decreases-loop-rest
decreases-loop-rest g l = length l.rest
