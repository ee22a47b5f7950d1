-- Books grown by adding (document 02, 2.3): "claims about types are for books grown by adding from empty".
use Rattle.std.specs.Prelude.{ℕ, ◌≤◌, ◌<◌, Bool, [], ◌∷◌, ◌++◌, length}
use Rattle.calculus.specs.Term.{Term}
use Rattle.calculus.specs.Words.{Readable, longest}
use Rattle.calculus.specs.Book.{Book, most, last_owner, seen}
use Rattle.calculus.specs.Limit.{◌∣◌∣◌⊢⟨◌⟩◌⦂◌}

-- `GrownFrom B C`: the book C is B, or one definition more than such a book. "Adding is a check that, when it accepts, also stores, with
-- its owner and the mark given"; "a body or its type may name only those already in the book".
pub data GrownFrom (B : Book) : Book → Type 0 where
  nothing_added : GrownFrom B B
  one_added : {C : Book} {t τ : Term} {o L : ℕ} (is_open : Bool)
      → GrownFrom B C → length C < most → o ≤ last_owner → L ≤ longest
      → Readable (length C) t → C ∣ seen o C ∣ [] ⊢⟨ L ⟩ t ⦂ τ
      → GrownFrom B (C ++ record { body = t; type = τ; owner = o; is_open = is_open } ∷ [])

abbrev pub Grown : Book → Type 0
Grown = GrownFrom []
