-- `leading` meets its contract. The loop's invariant: the nodes passed are all down casts and applications, so the list begins
-- with as many as were passed and then with those that the rest begins with. A last word without a length is no node.
use Rattle.std.proofs.Common.{◌≡◌, ◌+◌, ◌*◌, drop}
use Rattle.reduction.specs.Stepping.{heads}
use Rattle.reduction.proofs.stepping.leading.Given as goal

abbrev pub invariant-loop-at : goal.invariant-loop-at
invariant-loop-at l = heads l.state ≡ l.at + heads (drop (2 * l.at) l.state)
