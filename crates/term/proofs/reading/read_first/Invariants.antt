-- `read_first` meets its contract. The invariant: skimming from the start answers what skimming from `place` answers, with the
-- subterm at hand before those that the arrays hold. Wherever a word passes a second part would fit, so there is room for what is
-- stored, whatever the word is.
use Rattle.term.proofs.Turns.{Stands}
use Rattle.term.proofs.reading.read_first.Given as goal

abbrev pub invariant-loop-place : goal.invariant-loop-place
invariant-loop-place l = Stands l.words l.rooms l.scopes l.waiting l.place l.room l.binders
