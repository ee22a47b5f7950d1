-- What is not claimed of books (document 02, 2.3), since it does not hold: of each stronger claim a small counterexample.
use Rattle.std.specs.Prelude.{ℕ, true, false, [], ◌∷◌, ◌≡◌}
use Rattle.calculus.specs.Term.{Term, var, star, app, lam, pi, castup, castdown, mu, name}
use Rattle.calculus.specs.Answer.{Reason, ok, no_step}
use Rattle.calculus.specs.Book.{Definition, Book, View, types, bodies, seen}
use Rattle.calculus.specs.Rules.{◌⊩◌⟶◌, ◌∣◌∣◌⊢◌⦂◌}
use Rattle.calculus.specs.Failing.{Fails}
use Rattle.calculus.specs.Growing.{Grown}
use Rattle.calculus.specs.Step.{step}
use Rattle.calculus.specs.Infer.{infer}
use Rattle.calculus.specs.Outcomes.{largest_limit}
use Rattle.calculus.specs.Opening.{defined, Alike}

-- "Whether a stored type is the body's isn't tested": a book whose stored type, the words `1 0`, is no type at all.
abbrev pub forged : Book
forged = defined true star (castdown star) 0 ∷ []

-- Against `TypedOrFails` and demand 2 over any book: `4 0 2048` is accepted, at every view, though it has no type by the rules and no test
-- fails by them. The star premise of T_LAM is never tested, and here it cannot be proved.
abbrev pub Forged : Type 0
Forged = (v : View)
    → (infer (types forged) (step v) largest_limit [] 0 (lam star (name 0)) ≡ ok (pi star (castdown star)))
    × ((τ : Term) → ¬ (forged ∣ v ∣ [] ⊢ lam star (name 0) ⦂ τ))
    × ((r : Reason) (p : ℕ) → ¬ Fails forged v largest_limit [] 0 (lam star (name 0)) r p)

-- The type `2 4 2048 0 3 2048 0`, which is one only where definition 0 steps to star.
abbrev pub needs_0 : Term
needs_0 = app (lam (name 0) star) (castup (name 0) star)

-- Two definitions of owner 0: one with the type star, closed, and `6 T 16` of that type T, open.
abbrev pub closed_0 : Term → Definition
closed_0 t = defined false t star 0

abbrev pub open_1 : Definition
open_1 = defined true (mu needs_0 (var 0)) needs_0 0

abbrev pub lent : Book
lent = closed_0 star ∷ open_1 ∷ []

-- Against correctness of types at a view that is not all-open: over a grown book, for owner 1, `2049` has a type that is not of type
-- star.
abbrev pub NotCorrect : Type 0
NotCorrect = Grown lent × (lent ∣ seen 1 lent ∣ [] ⊢ name 1 ⦂ needs_0) × ¬ (lent ∣ seen 1 lent ∣ [] ⊢ needs_0 ⦂ star)

-- Against preservation there: its next state has not its type.
abbrev pub NotPreserved : Type 0
NotPreserved = Grown lent × (lent ∣ seen 1 lent ∣ [] ⊢ name 1 ⦂ needs_0)
    × ((x : Term) × (seen 1 lent ⊩ name 1 ⟶ x) × ¬ (lent ∣ seen 1 lent ∣ [] ⊢ x ⦂ needs_0))

-- The book with another body of the same type for definition 0, `5 0 0`.
abbrev pub changed : Book
changed = closed_0 (pi star star) ∷ open_1 ∷ []

-- Against isolation of typing: that body may have been added in the place of the other, and for owner 1 the books are alike; but the
-- changed one is not grown, since the type of definition 1 is none there.
abbrev pub NotGrown : Type 0
NotGrown = Grown lent × Grown (closed_0 (pi star star) ∷ []) × Alike 1 lent changed × ¬ Grown changed

-- Against `Untypable` carried from a view to all bodies open: for owner 1 the type itself is 13 at place 4, and with all open it has the
-- type star.
abbrev pub TypedOpen : Type 0
TypedOpen = Grown lent × Fails lent (seen 1 lent) largest_limit [] 0 needs_0 no_step 4 × (lent ∣ bodies lent ∣ [] ⊢ needs_0 ⦂ star)
