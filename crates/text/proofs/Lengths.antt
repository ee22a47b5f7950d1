-- How long texts are. A number below 10 ^ k has at most k digits, since its tenth part is below 10 ^ (k - 1); so a 16-bit word takes
-- at most five digits and the space in front of it.
use Prim.Native.Nat.{ℕ, zero, suc, ◌*◌, ◌/◌, ◌%◌, ◌^◌, ◌≤◌, ◌<◌}
use mathlib.Core.Bool.{Bool, true, false, cond}
use mathlib.Core.List.{List, [], ◌∷◌, ◌++◌}
use mathlib.Core.Path.{◌≡◌}
use native.Mathlib.Nat.{pow-suc}
use native.Mathlib.Omega.{arith}
use borrow.Author.Tests.{lt-ltb}
use lib.Dec.{ltb}
use lib.ListN.{length, get_or, length-append}
use Rattle.io.specs.Digits.{hex_digit_ascii}
use Rattle.text.specs.Texts.{digits_within, decimal, spaced, list}

one_more : (b : Bool) (front : List ℕ) (digit : ℕ) → length (cond b [] front ++ (digit ∷ [])) ≤ suc (length front)
one_more true front digit = omega arith
one_more false front digit = omega (arith, length-append front (digit ∷ []))

digits_length : (most k n : ℕ) → n < 10 ^ suc k → length (digits_within most n) ≤ suc k
unfolding digits_within
digits_length zero k n h = omega arith
digits_length (suc most) zero n h = rw (lt-ltb n 10 h) (omega arith)
digits_length (suc most) (suc k) n h =
    let tens : 10 ^ suc (suc k) ≡ 10 ^ suc k * 10 = pow-suc 10 (suc k) in
    omega
    (arith, one_more (ltb n 10) (digits_within most (n / 10)) (hex_digit_ascii (n % 10)), digits_length most k (n / 10) (omega arith))

pub decimal_length : (k n : ℕ) → n < 10 ^ suc k → length (decimal n) ≤ suc k
unfolding decimal
decimal_length k n h = digits_length (suc n) k n h

-- Every element is a 16-bit word.
abbrev pub Narrow : List ℕ → Type 0
Narrow ws = (i : ℕ) → get_or ws i 0 < 65536

spaced_length : (ws : List ℕ) → Narrow ws → length (spaced ws) ≤ 6 * length ws
unfolding spaced
spaced_length [] h = omega arith
spaced_length (w ∷ ws) h =
    let digits = decimal_length 4 w (omega (arith, h 0)) in
    omega (arith, length-append (32 ∷ decimal w) (spaced ws), digits, spaced_length ws (λ i. h (suc i)))

pub list_length : (ws : List ℕ) → Narrow ws → length (list ws) ≤ 6 * length ws
unfolding list
list_length [] h = omega arith
list_length (w ∷ ws) h =
    let digits = decimal_length 4 w (omega (arith, h 0)) in
    omega (arith, length-append (decimal w) (spaced ws), digits, spaced_length ws (λ i. h (suc i)))
