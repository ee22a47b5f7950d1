-- The library's tests `leb` and `ltb` as equations: a test is true where the order holds and false where the other order holds.
-- Stated so, a proof can rewrite a stuck test by its value.
use Prim.Native.Nat.{ℕ, ◌≤◌, ◌<◌}
use mathlib.Core.Bool.{Bool, true, false, not, ◌&&◌}
use mathlib.Core.Path.{◌≡◌, refl}
use native.Mathlib.Decide.{dec_le}
use native.Mathlib.Omega.{arith}
use lib.Dec.{T, leb, le→leb, leb→le, not_T}

pub passed : (b : Bool) → T b → b ≡ true
passed true t = refl
passed false t = elim t [ ]

-- Two tests in one.
pub both : (a b : Bool) → T (a && b) → T a × T b
both true b h = (tt, h)
both false b h = elim h [ ]

failed : (b : Bool) → T (not b) → b ≡ false
failed true t = elim t [ ]
failed false t = refl

pub le_leb : (m n : ℕ) → m ≤ n → leb m n ≡ true
le_leb m n h = passed (leb m n) (le→leb m n h)

pub gt_leb : (m n : ℕ) → n < m → leb m n ≡ false
gt_leb m n h = failed (leb m n) (not_T (leb m n) λ t. omega (arith, leb→le m n t))

-- A number that is not from `lo` to `hi` fails the two tests in one.
pub out_of_range : (lo n hi : ℕ) → ¬ ((lo ≤ n) × (n ≤ hi)) → (leb lo n && leb n hi) ≡ false
out_of_range lo n hi out = on (dec_le lo n) (dec_le n hi)
  where
    on : Dec (lo ≤ n) → Dec (n ≤ hi) → (leb lo n && leb n hi) ≡ false
    on (no f) d = rw (gt_leb lo n (omega arith)) refl
    on (yes h) (no f) = rw (le_leb lo n h, gt_leb n hi (omega arith)) refl
    on (yes h) (yes k) = absurd (out (h, k))
