-- `serve_on` meets its contract: each turn is the last or leads on, and there is none behind the largest number of them.
use Rattle.session.proofs.Taking.{lasted_none, lasted_over, lasted_again, lasted_out}
use Rattle.session.proofs.serve_on.Goals as goal

pub loop-init : goal.loop-init
loop-init g c = rw c.clear.ensures (lasted_none _)

pub returns-in-Break : goal.returns-in-Break
returns-in-Break g c = rw (← c.new-now.ensures) (_, lasted_over c.loop.invariant c.in-Break.ensures)

pub loop-preserved : goal.loop-preserved
loop-preserved g c = lasted_again c.loop.invariant c.in-Continue.ensures

pub returns : goal.returns
returns g c = rw (← c.new-now.ensures) (_, lasted_out c.loop.invariant)
