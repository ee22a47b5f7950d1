-- A term is within the limit or over it.
use Prim.Native.Nat.{ℕ, ◌≤◌, ◌<◌}
use native.Mathlib.Decide.{dec_le}
use native.Mathlib.Omega.{arith}
use Rattle.calculus.specs.Term.{Term, size}

pub within_or_over : {A : Type 0} (x : Term) (limit : ℕ) → (size x ≤ limit → A) → (limit < size x → A) → A
within_or_over {A} x limit within over = on (dec_le (size x) limit)
  where
    on : Dec (size x ≤ limit) → A
    on (yes h) = within h
    on (no n) = over (omega arith)
