-- Text as bytes, in ASCII: quoted text, numbers and lists of words.
use Rattle.std.specs.Prelude.{ℕ, zero, suc, ◌/◌, ◌%◌, cond, List, [], ◌∷◌, ◌++◌, ltb}
use Prim.Native.Char.{code}
use Prim.Native.String.{String, [] as empty, ◌∷◌ as ◌then◌}
use Rattle.io.specs.Digits.{hex_digit_ascii}

unfoldable pub ascii : String → List ℕ
ascii empty = []
ascii (c then s) = code c ∷ ascii s

-- The last `most` digits of `n` in decimal, with no zero in front: those of its tenth part, where it has one, and the last digit.
unfoldable pub digits_within : ℕ → ℕ → List ℕ
digits_within zero n = []
digits_within (suc most) n = cond (ltb n 10) [] (digits_within most (n / 10)) ++ (hex_digit_ascii (n % 10) ∷ [])

-- A number in decimal: `suc n` digits are enough for `n`.
unfoldable pub decimal : ℕ → List ℕ
decimal n = digits_within (suc n) n

-- Words in decimal, each behind one space.
unfoldable pub spaced : List ℕ → List ℕ
spaced [] = []
spaced (w ∷ ws) = (32 ∷ decimal w) ++ spaced ws

-- Words in decimal, parted by one space.
unfoldable pub list : List ℕ → List ℕ
list [] = []
list (w ∷ ws) = decimal w ++ spaced ws
