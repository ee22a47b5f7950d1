-- `lead` meets its contract. The loop's invariant: the output is as it was with the nodes passed, their lengths moved, stored
-- from its start on.
use Rattle.std.proofs.Common.{◌≡◌, ◌*◌, take}
use Rattle.std.proofs.lemmas.List.Edits.{sets}
use Rattle.reduction.specs.Stepping.{moved}
use Rattle.reduction.proofs.stepping.lead.Given as goal

abbrev pub invariant-loop-node : goal.invariant-loop-node
invariant-loop-node l = l.out ≡ sets l.initial.out 0 (moved l.old l.end (take (2 * l.node) l.state))
