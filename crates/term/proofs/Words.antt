-- What the words of each range mean, and how many parts follow them: the words from 7 to 15 and above 2,079 mean nothing, those
-- between are variables and names; the number of parts is the calculus' formula, and with what is bound in the second it tells them.
use Prim.Native.Nat.{ℕ, ◌+◌, ◌-◌, ◌≤◌, ◌<◌, min}
use mathlib.Core.List.{List, [], ◌∷◌}
use mathlib.Core.Path.{◌≡◌, refl, sym, ap, ◌∙◌}
use native.Mathlib.Omega.{arith}
use borrow.Author.Tests.{lt-ltb, le-ltb}
use lib.Dec.{lit≤}
use lib.ListN.{length, take, get_or-eq_default}
use lib.Seq.{take_all}
use Rattle.calculus.specs.Meaning.{Meaning, a_star, a_castdown, an_app, a_castup, a_lam, a_pi, a_mu, a_variable, a_name, nothing, binds, meaning}
use Rattle.calculus.specs.Scan.{means}
use Rattle.calculus.proofs.Meanings.{nodes, parts_by_formula, word, word_meaning}
use Rattle.term.specs.declared.word.Shape.{Shape}
use Rattle.term.specs.Word.{arity, second, shape_of}

pub gap : (w : ℕ) → 7 ≤ w → w < 16 → meaning w ≡ nothing
unfolding meaning
gap w low high = rw (lt-ltb w 16 high) (get_or-eq_default nodes nothing low)

pub variable : (w : ℕ) → 16 ≤ w → w < 2048 → meaning w ≡ a_variable (w - 16)
unfolding meaning
variable w low high = rw (le-ltb w 16 low, lt-ltb w 2048 high)

-- The other way: a word that means a variable is 16 and its index.
pub variable_index : (w i : ℕ) → a_variable i ≡ meaning w → w ≡ 16 + i
unfolding word means
variable_index w i e = sym (word_meaning w (rw (← e) tt)) ∙ ap word (sym e)

pub named : (w : ℕ) → 2048 ≤ w → w < 2080 → meaning w ≡ a_name (w - 2048)
unfolding meaning
named w low high = rw (le-ltb w 16 (omega arith), le-ltb w 2048 low, lt-ltb w 2080 high)

pub beyond : (w : ℕ) → 2080 ≤ w → meaning w ≡ nothing
unfolding meaning
beyond w low = rw (le-ltb w 16 (omega arith), le-ltb w 2048 (omega arith), le-ltb w 2080 low)

pub few_parts : (w : ℕ) → w < 7 → arity w ≡ min w 2
unfolding arity
few_parts w low = parts_by_formula.0 w (omega arith)

pub no_parts : (w : ℕ) → 7 ≤ w → arity w ≡ 0
unfolding arity
no_parts = parts_by_formula.1

-- The parts that a word can have: none, one, or two, of which nothing is bound in the first and one variable at most in the second.
pub data Parted : List ℕ → Type 0 where
  no_part : Parted []
  one_part : Parted (0 ∷ [])
  two_parts : (k : ℕ) → k ≤ 1 → Parted (0 ∷ k ∷ [])

pub parted : (m : Meaning) → Parted (binds m)
unfolding binds
parted a_star = no_part
parted a_castdown = one_part
parted an_app = two_parts 0 (lit≤ tt)
parted a_castup = two_parts 0 (lit≤ tt)
parted a_lam = two_parts 1 (lit≤ tt)
parted a_pi = two_parts 1 (lit≤ tt)
parted a_mu = two_parts 1 (lit≤ tt)
parted (a_variable i) = no_part
parted (a_name i) = no_part
parted nothing = no_part

-- So they are told by how many there are and by what is bound in the second.
told : {ks : List ℕ} → Parted ks → take (length ks) (0 ∷ second ks ∷ []) ≡ ks
told no_part = refl
told one_part = refl
told (two_parts k h) = refl

pub by_number : (m : Meaning) → take (length (binds m)) (0 ∷ second (binds m) ∷ []) ≡ binds m
by_number m = told (parted m)

-- A shape with no parts, and with two.
module _ (s : Shape) where
  pub shape_none : s.parts ≡ 0 → shape_of s ≡ []
  shape_none none = ap (λ n. take n (0 ∷ s.bound ∷ [])) none

  pub shape_two : 1 < s.parts → shape_of s ≡ 0 ∷ s.bound ∷ []
  shape_two two = take_all s.parts (0 ∷ s.bound ∷ []) (omega arith)

-- A word has two parts at most, and binds one variable at most in the second.
few : {ks : List ℕ} → Parted ks → (length ks ≤ 2) × (second ks ≤ 1)
few no_part = (lit≤ tt, lit≤ tt)
few one_part = (lit≤ tt, lit≤ tt)
few (two_parts k h) = (lit≤ tt, h)

pub few_binds : (m : Meaning) → (length (binds m) ≤ 2) × (second (binds m) ≤ 1)
few_binds m = few (parted m)

pub two_at_most : (w : ℕ) → arity w ≤ 2
unfolding arity
two_at_most w = (few_binds (meaning w)).0
