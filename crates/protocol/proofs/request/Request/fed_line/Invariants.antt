-- `fed_line` meets its contract. The loop's invariant: the line so far and the bytes from here on are together the line from its
-- start.
use Rattle.protocol.specs.Requests.{line_of}
use Rattle.protocol.proofs.Lining.{Lined}
use Rattle.protocol.proofs.request.Request.fed_line.Given as goal

abbrev pub invariant-loop-read : goal.invariant-loop-read
invariant-loop-read l = Lined l.rest (line_of l.initial.line l.initial.words) l.read (line_of l.line l.words)
