-- What is known of an answer, by its two cases.
use Prim.Native.Nat.{ℕ, ◌≤◌}
use mathlib.Core.Bool.{true≢false}
use mathlib.Core.Path.{◌≡◌}
use Rattle.calculus.specs.Answer.{Reason, Answer, ok, refused, number}

-- Something with `P`, or a refusal whose reason and place have `Q`.
pub data Says {A : Type 0} (P : A → Type 0) (Q : Reason → ℕ → Type 0) : Answer A → Type 0 where
  says_ok : {a : A} → P a → Says P Q (ok a)
  says_refused : {r : Reason} {p : ℕ} → Q r p → Says P Q (refused r p)

pub of_ok : {A : Type 0} {P : A → Type 0} {Q : Reason → ℕ → Type 0} {a : A} → Says P Q (ok a) → P a
of_ok (says_ok h) = h

pub of_refused : {A : Type 0} {P : A → Type 0} {Q : Reason → ℕ → Type 0} {r : Reason} {p : ℕ} → Says P Q (refused r p) → Q r p
of_refused (says_refused h) = h

pub ok_not_refused : {A : Type 0} {a : A} {r : Reason} {p : ℕ} → ok a ≡ refused r p → ⊥
ok_not_refused e = absurd (true≢false (cc e))

-- A refusal by one of the numbers from `lo` to `hi`, at a place up to `n`.
abbrev pub By : ℕ → ℕ → ℕ → Reason → ℕ → Type 0
By lo hi n r p = (lo ≤ number r) × (number r ≤ hi) × (p ≤ n)
