-- `numbers` meets its contract. The loop's invariant: the numbers so far are appended.
use mathlib.Core.List.{map}
use mathlib.Core.Path.{◌≡◌}
use lib.ListN.{take}
use Rattle.text.specs.Appending.{appended}
use Rattle.text.specs.Texts.{spaced}
use Rattle.text.proofs.page.Page.numbers.Given as goal

abbrev pub invariant-loop-number : goal.invariant-loop-number
invariant-loop-number g l =
    l.self ≡ appended g.row.N l.initial.self (spaced (map g.T.Number.value (take l.number-index l.numbers)))
