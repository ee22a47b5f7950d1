-- Which of the cases of `fed` a digit and a letter are.
use Prim.Native.Nat.{ℕ, ◌-◌, ◌≤◌, ◌<◌}
use mathlib.Core.Bool.{false}
use mathlib.Core.List.{List}
use mathlib.Core.Path.{◌≡◌, refl}
use native.Mathlib.Omega.{arith}
use borrow.Author.Tests.{ne_eqb, lt-ltb, le-ltb, le-leb}
use Rattle.protocol.specs.Requests.{letter, digit, line_of, touched, parting, fed}
use Rattle.protocol.specs.declared.request.Request.{Request}

pub parts_not : (b : ℕ) → (b ≡ 9 → ⊥) → (b ≡ 13 → ⊥) → (b ≡ 32 → ⊥) → parting b ≡ false
unfolding parting
parts_not b t r s = rw (ne_eqb b 9 t, ne_eqb b 13 r, ne_eqb b 32 s) refl

module _ (q : Request) (b : ℕ) (ws : List ℕ) where
  pub fed_digit : 48 ≤ b → b < 58 → line_of (digit (touched q) (b - 48)) ws ≡ fed q b ws
  unfolding fed
  fed_digit l h =
      rw (parts_not b (omega arith) (omega arith) (omega arith), ne_eqb b 124 (omega arith), le-leb 48 b l, lt-ltb b 58 h)
      refl

  pub fed_letter : 97 ≤ b → b < 123 → line_of (letter (touched q) b) ws ≡ fed q b ws
  unfolding fed
  fed_letter l h =
      rw (parts_not b (omega arith) (omega arith) (omega arith), ne_eqb b 124 (omega arith))
      (rw (le-leb 48 b (omega arith), le-ltb b 58 (omega arith), le-leb 97 b l, lt-ltb b 123 h) refl)
