-- What a call answers: something, or a refusal with its reason and its place (document 01, Calls).
use Rattle.std.specs.Prelude.{ℕ, Bool, true, false, ◌≡◌}

-- The reasons, in the order of their numbers in documents 01 and 02.
pub data Reason : Type 0 where
  limit_not_allowed work_short output_short length_not_allowed : Reason
  no_meaning list_ends words_after level_65 unbound : Reason
  not_star not_product wrong_argument no_step wrong_cast wrong_recursion over_limit : Reason
  caller_not_allowed : Reason

-- The number of each reason: document 01's, and 21 of document 02, 2.9.
unfoldable pub number : Reason → ℕ
number limit_not_allowed = 1
number work_short = 2
number output_short = 3
number length_not_allowed = 4
number no_meaning = 5
number list_ends = 6
number words_after = 7
number level_65 = 8
number unbound = 9
number not_star = 10
number not_product = 11
number wrong_argument = 12
number no_step = 13
number wrong_cast = 14
number wrong_recursion = 15
number over_limit = 16
number caller_not_allowed = 21

-- The numbers tell the reasons apart.
abbrev pub NumbersApart : Type 0
NumbersApart = (r s : Reason) → number r ≡ number s → r ≡ s

-- An answer is "typed with a length, or refused with a record of reason and place"; here anything may stand for the length.
pub data Answer (A : Type 0) : Type 0 where
  ok : A → Answer A
  refused : Reason → ℕ → Answer A

infixl 10 ◌>>=◌ ◌>>◌
-- One thing after another: the first refusal is the answer.
unfoldable pub ◌>>=◌ : {A B : Type 0} → Answer A → (A → Answer B) → Answer B
◌>>=◌ (ok a) f = f a
◌>>=◌ (refused r p) f = refused r p

-- The same where the first thing tells nothing but that it passed.
unfoldable pub ◌>>◌ : {A B : Type 0} → Answer A → Answer B → Answer B
◌>>◌ a b = a >>= λ _. b

-- A test that passes, or refuses by a reason at a place.
unfoldable pub require : Reason → ℕ → Bool → Answer (Unit {0})
require r p true = ok tt
require r p false = refused r p
