-- What is written into a slice with bounded room, and what the answer then is. Where the words do not fit, what the slice then holds
-- is left free.
use Rattle.std.specs.Prelude.{ℕ, ◌+◌, ◌*◌, ◌≤◌, ◌<◌, List, ◌≡◌, length, Option, None, Some}
use Rattle.std.proofs.lemmas.List.Edits.{sets}

-- `Writes e out at r after`: the words `e` are written at the place `at` into `out`, which leaves `after`. The answer is the place
-- behind them, or none, as they do not fit: then the slice is as it was.
pub record Writes (e out : List ℕ) (at : ℕ) (r : Option ℕ) (after : List ℕ) : Type 0 where
  pub fits : at + length e ≤ length out → (r ≡ Some (at + length e)) × (after ≡ sets out at e)
  pub full : length out < at + length e → (r ≡ None) × (after ≡ out)

-- `Puts e out at r after`: the kept words `e` are written from the node `at` on, two words a node. The answer is the node behind
-- them, or none, as they do not fit.
pub record Puts (e out : List ℕ) (at : ℕ) (r : Option ℕ) (after : List ℕ) : Type 0 where
  pub fits : 2 * at + length e ≤ length out → (end : ℕ) × (r ≡ Some end) × (2 * end ≡ 2 * at + length e) × (after ≡ sets out (2 * at) e)
  pub full : length out < 2 * at + length e → (r ≡ None) × (length after ≡ length out)
