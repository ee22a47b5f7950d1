-- The loop's invariant: the turns made led here from a page with nothing on it.
use mathlib.Core.List.{[]}
use Rattle.session.specs.Sessions.{place}
use Rattle.session.proofs.Taking.{Lasted}
use Rattle.session.proofs.serve_on.Given as goal

abbrev pub invariant-loop : goal.invariant-loop
invariant-loop g l =
    Lasted g.row.N (place l.initial.now l.initial.words l.initial.work []) (place l.now l.words l.work l.page)
