-- The walk over subterms, for any words.
use Rattle.std.specs.Prelude.{ℕ, zero, suc, ◌+◌, List, [], ◌∷◌}
use Rattle.term.specs.Word.{arity}

-- The number of words of the first `k` subterms of a list, or of all of it where they do not end in it.
unfoldable pub span : List ℕ → ℕ → ℕ
span [] k = 0
span (w ∷ ws) zero = 0
span (w ∷ ws) (suc k) = suc (span ws (arity w + k))
