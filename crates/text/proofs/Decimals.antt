-- The fewest digits that hold a number are its decimal text: one digit holds a number below 10, and of any other number the
-- digits before the last are the fewest that hold its tenth part.
use Prim.Native.Nat.{ℕ, zero, suc, ◌-◌, ◌*◌, ◌/◌, ◌^◌, ◌≤◌, ◌<◌}
use mathlib.Core.Path.{◌≡◌}
use native.Mathlib.Nat.{pow-suc, one-le-pow}
use native.Mathlib.Omega.{arith}
use borrow.Author.Tests.{lt-ltb, le-ltb}
use Rattle.io.specs.Digits.{last_digits, IsDigitCount}
use Rattle.text.specs.Texts.{digits_within, decimal}

one_less : (j : ℕ) → suc j - 1 ≡ j
one_less j = omega arith

fewest_within : (most k n : ℕ) → n < most → IsDigitCount 10 1 n k → last_digits 10 k n ≡ digits_within most n
unfolding digits_within
fewest_within zero k n h f = absurd (omega arith)
fewest_within (suc most) zero n h f = absurd (omega arith)
fewest_within (suc most) (suc zero) n h f = rw (lt-ltb n 10 f.1)
fewest_within (suc most) (suc (suc j)) n h f =
    let least : 10 ^ suc j ≤ n = rw (one_less (suc j)) at (f.2 (omega arith)) in
    let tens : 10 ^ suc j ≡ 10 ^ j * 10 = pow-suc 10 j in
    let hundreds : 10 ^ suc (suc j) ≡ 10 ^ suc j * 10 = pow-suc 10 (suc j) in
    let some : 1 ≤ 10 ^ j = one-le-pow j 10 (omega arith) in
    let above : 10 ^ j ≤ n / 10 = omega arith in
    let tenth : IsDigitCount 10 1 (n / 10) (suc j) = (omega arith, omega (arith, f.1), λ l. rw (one_less j) above) in
    rw (le-ltb n 10 (omega arith), fewest_within most (suc j) (n / 10) (omega arith) tenth)

pub fewest_decimal : (k n : ℕ) → IsDigitCount 10 1 n k → last_digits 10 k n ≡ decimal n
unfolding decimal
fewest_decimal k n f = fewest_within (suc n) k n (omega arith) f
