-- MORE LIMIT, SAME VERDICT (document 02, 2.6): the answers of a check that a larger limit keeps, and what becomes of the others.
use Rattle.std.specs.Prelude.{ℕ, ◌≤◌, ◌<◌, List, [], ◌∷◌, ◌≡◌, ◌≢◌, ◌⊎◌, length, take}
use Rattle.calculus.specs.Term.{Term}
use Rattle.calculus.specs.Answer.{Answer, ok, refused, Reason, number, no_step, over_limit}
use Rattle.calculus.specs.Book.{Book, View}
use Rattle.calculus.specs.Rules.{Context}
use Rattle.calculus.specs.Limit.{◌∣◌∣◌⊢⟨◌⟩◌⦂◌}
use Rattle.calculus.specs.Failing.{Fails}
use Rattle.calculus.specs.Outcomes.{check_room, Checked, check_over}
use Rattle.calculus.specs.Checks.{Allowed}
use Rattle.calculus.specs.Starred.{Row, types, refuses, Claims}

-- An "answer [that] is neither 16 nor one of 1–3".
unfoldable pub Settled : Answer ℕ → Type 0
Settled (ok n) = Unit
Settled (refused r p) = (3 < number r) × (number r ≢ 16)

-- "That answer, place and type": the length and the words of the type, or the refusal with its place.
unfoldable pub told : Checked → Answer (ℕ × List ℕ)
told c = tell c.answer
  where
    tell : Answer ℕ → Answer (ℕ × List ℕ)
    tell (ok n) = ok (n, take n c.output)
    tell (refused r p) = refused r p

-- An "allowed L with slices long enough": no refusal by 1–3.
abbrev pub Admitted : ℕ → List ℕ → List ℕ → Type 0
Admitted L W O = Allowed L × (check_room L ≤ length W) × (L ≤ length O)

-- "A check whose answer at L is neither 16 nor one of 1–3 gives that answer, place and type at every larger allowed L with slices
-- long enough."
abbrev pub MoreLimit : Type 0
MoreLimit = (B : Book) (o : ℕ) (ws : List ℕ) (L L' : ℕ) (W W' O O' : List ℕ)
    → Settled (check_over B o ws L W O).answer → L ≤ L' → Admitted L' W' O'
    → told (check_over B o ws L' W' O') ≡ told (check_over B o ws L W O)

-- A refusal by 16.
abbrev pub Over : Checked → Type 0
Over c = (p : ℕ) × (c.answer ≡ refused over_limit p)

-- No answer is left out but 16: a check that is admitted is settled or refused by 16.
abbrev pub SettledOrOver : Type 0
SettledOrOver = (B : Book) (o : ℕ) (ws : List ℕ) (L : ℕ) (W O : List ℕ) → Admitted L W O → Settled (check_over B o ws L W O).answer ⊎ Over (check_over B o ws L W O)

-- Nothing of an answer is left out: checks that tell the same have the same answer, place and type.
abbrev pub TellsAll : Type 0
TellsAll = (c c' : Checked) → told c ≡ told c'
    → (c.answer ≡ c'.answer) × ((n : ℕ) → c.answer ≡ ok n → take n c.output ≡ take n c'.output)

-- Two checks tell the same, or the first is refused by 16.
abbrev pub SameOrOver : Checked → Checked → Type 0
SameOrOver c c' = (told c ≡ told c') ⊎ Over c

-- Read the other way: a smaller limit tells what a larger one tells, or is refused by 16.
abbrev pub LessLimit : Type 0
LessLimit = (B : Book) (o : ℕ) (ws : List ℕ) (L L' : ℕ) (W W' O O' : List ℕ)
    → L ≤ L' → Admitted L W O → Admitted L' W' O'
    → SameOrOver (check_over B o ws L W O) (check_over B o ws L' W' O')

-- The same by the rules: what is typed within L is typed so within every larger limit, and typing that first fails by another
-- reason than 16 first fails there by that reason at every larger limit.
abbrev pub MoreLimitByRules : Type 0
MoreLimitByRules = (B : Book) (v : View) (L L' : ℕ) (Γ : Context) (e : Term) → L ≤ L'
    → ((τ : Term) → B ∣ v ∣ Γ ⊢⟨ L ⟩ e ⦂ τ → B ∣ v ∣ Γ ⊢⟨ L' ⟩ e ⦂ τ)
    × ((p q : ℕ) (r : Reason) → r ≢ over_limit → Fails B v L Γ p e r q → Fails B v L' Γ p e r q)

-- An answer about a term that could be read: a type, or a refusal by one of 10–16.
unfoldable pub Judged : Answer ℕ → Type 0
Judged (ok n) = Unit
Judged (refused r p) = (10 ≤ number r) × (number r ≤ 16)

-- What becomes of 16: such an answer, at any other limit.
abbrev pub OverLimitBecomes : Type 0
OverLimitBecomes = (B : Book) (o : ℕ) (ws : List ℕ) (L L' : ℕ) (W W' O O' : List ℕ)
    → Over (check_over B o ws L W O) → Admitted L' W' O'
    → Judged (check_over B o ws L' W' O').answer

-- Examples, at growing limits. 16 becomes another refusal: a down cast of λ x : ⋆. x is 16 at the abstraction, whose type has three
-- words, and then 13 at the cast. 16 becomes 16 elsewhere and then a type: λ x : ⋆. λ y : ⋆. y has a type of five words, its body one
-- of three.
abbrev pub examples : List Row
examples =
    refuses (1 ∷ 4 ∷ 0 ∷ 16 ∷ []) 2 over_limit 1
    ∷ refuses (1 ∷ 4 ∷ 0 ∷ 16 ∷ []) 3 no_step 0
    ∷ refuses (4 ∷ 0 ∷ 4 ∷ 0 ∷ 16 ∷ []) 2 over_limit 2
    ∷ refuses (4 ∷ 0 ∷ 4 ∷ 0 ∷ 16 ∷ []) 3 over_limit 0
    ∷ types (4 ∷ 0 ∷ 4 ∷ 0 ∷ 16 ∷ []) 5 (5 ∷ 0 ∷ 5 ∷ 0 ∷ 0 ∷ [])
    ∷ []

abbrev pub LimitExamples : Type 0
LimitExamples = Claims examples
