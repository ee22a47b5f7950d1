-- `decimal` meets its contract. The loop's invariant: the digits so far are appended.
use mathlib.Core.Path.{◌≡◌}
use lib.ListN.{take}
use Rattle.text.specs.Appending.{appended}
use Rattle.text.proofs.page.Page.decimal.Given as goal

abbrev pub invariant-loop-digit : goal.invariant-loop-digit
invariant-loop-digit g l = l.self ≡ appended g.row.N l.initial.self (take l.digit-index l.digit-items)
