-- `replied` meets its contract: by whether the desk is kept; where it is not, it stays.
use mathlib.Core.Path.{refl}
use Rattle.session.specs.Sessions.{answer_in}
use Rattle.session.proofs.Session.replied.Goals as goal

pub returns-then-self : goal.returns-then-self
unfolding answer_in
returns-then-self g c = rw c.if-self.true c.answer.ensures

pub returns : goal.returns
unfolding answer_in
returns g c = rw c.if-self.false (record { replies = c.answer-2.ensures; desk = refl })
