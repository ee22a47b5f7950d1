-- What a check answers and leaves is told apart by the map to the outcomes of the calculus, through which its contract passes: answers
-- are told apart, and the rest is kept as it is.
use Prim.Native.Nat.{ℕ}
use mathlib.Core.List.{List}
use mathlib.Core.Path.{◌≡◌, ap}
use Rattle.std.specs.Prelude.{Result}
use Rattle.term.proofs.Maps.{answer_of_injective}
use Rattle.term.specs.declared.refusal.Refusal.{Refusal}
use Rattle.typing.specs.Outcomes.{checked_of}

pub checked_of_injective : (r s : Result ℕ Refusal) {W W' O O' : List ℕ}
    → checked_of r W O ≡ checked_of s W' O'
    → (r ≡ s) × (W ≡ W') × (O ≡ O')
checked_of_injective r s e = (answer_of_injective r s (ap (λ c. c.answer) e), ap (λ c. c.work) e, ap (λ c. c.output) e)
