-- The texts of chosen numbers and lists, computed from the definitions.
use mathlib.Core.List.{[], ◌∷◌}
use mathlib.Core.Path.{◌≡◌, refl}
use Rattle.text.specs.Texts.{ascii, decimal, digits_within, list, spaced}

pub edges : (decimal 0 ≡ ascii "0")
    × (decimal 10 ≡ ascii "10")
    × (spaced (7 ∷ 100 ∷ []) ≡ ascii " 7 100")
    × (list [] ≡ [])
    × (list (9 ∷ 0 ∷ 99 ∷ []) ≡ ascii "9 0 99")
unfolding ascii decimal digits_within list spaced
edges = (refl, refl, refl, refl, refl)
