-- Words as bytes (document 01, The report program).
use Rattle.std.specs.Prelude.{ℕ, ◌+◌, ◌*◌, ◌%◌, Bool, ◌&&◌, List, [], ◌∷◌, leb, eqb, length}

-- "Words of two bytes, low byte first." A byte over makes no word.
unfoldable pub pairs : List ℕ → List ℕ
pairs [] = []
pairs (low ∷ []) = []
pairs (low ∷ high ∷ bytes) = (low + 256 * high) ∷ pairs bytes

-- "An odd number of bytes, or over 2,048, is answer 4": whether it is neither.
unfoldable pub allowed : List ℕ → Bool
allowed bytes = leb (length bytes) 2048 && eqb (length bytes % 2) 0
