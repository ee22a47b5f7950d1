-- DEMAND 3 as one type over words, limits, budgets, callers, desks and slices.
use Rattle.std.specs.Prelude.{ℕ, ◌≤◌, ◌<◌, List, [], ◌≡◌, ◌↔◌, ◌≢◌, ◌⊎◌, length, take}
use Rattle.calculus.specs.Term.{Term, star, lam, pi, castup, size}
use Rattle.calculus.specs.Answer.{Answer, ok, refused, work_short, output_short, caller_not_allowed}
use Rattle.calculus.specs.Words.{words, Worded, Codes, longest}
use Rattle.calculus.specs.Book.{Book, View, bodies}
use Rattle.calculus.specs.Rules.{Context, ◌⊩◌⟶◌, CanStep, Value, ◌∣◌∣◌⊢◌⦂◌}
use Rattle.calculus.specs.Growing.{GrownFrom, Grown}
use Rattle.calculus.specs.Kinds.{Counts}
use Rattle.calculus.specs.Run.{State, End, at_stuck, Ends}
use Rattle.calculus.specs.Outcomes.{run_room, check_over, Desk, last_caller, grant, Ran, Stop, run_over}

-- The one element that has a property.
abbrev pub Only : (Term → Type 0) → Term → Type 0
Only P x = P x × ((y : Term) → P y → y ≡ x)

-- "Each of its states [...] has under the rules exactly the type that the check answered [...]. Each of them is a value or has
-- exactly one next state, and never both." All bodies of the book C are open: "in the all_open reading" (document 02, 2.3).
pub record Safe (C : Book) (τ x : Term) : Type 0 where
  pub type : (σ : Term) → (C ∣ bodies C ∣ [] ⊢ x ⦂ σ) ↔ (σ ≡ τ)
  pub progress : (Value x × ¬ CanStep (bodies C) x) ⊎ (¬ Value x × ((y : Term) × Only (λ z. bodies C ⊩ x ⟶ z) y))

-- What a run over the book C answers that begins at `t`, whose type a check answered to be τ. "A refused run has no states and no end";
-- here it is refused only for its caller or a short slice. "So the run ends only at a value, with its grant used, or before a state over
-- 1,024 words": by `Ends`, with its grant used at a state that can step.
pub data Safely (C : Book) (t τ : Term) (caller g : ℕ) (W S : List ℕ) : Answer Stop → Type 0 where
  caller_refused : last_caller < caller → Safely C t τ caller g W S (refused caller_not_allowed 0)
  work_refused : caller ≤ last_caller → length W < run_room → Safely C t τ caller g W S (refused work_short 0)
  state_refused : caller ≤ last_caller → run_room ≤ length W → length S < longest → Safely C t τ caller g W S (refused output_short 0)
  ended : {E : End} {n : ℕ} {c : Counts} {x : Term} → caller ≤ last_caller → run_room ≤ length W → longest ≤ length S
      → State (bodies C) t n x → Ends (bodies C) g n x E → E ≢ at_stuck
      → ((k : ℕ) → k ≤ n → (y : Term) × Only (State (bodies C) t k) y × (size y ≤ longest) × Safe C τ y)
      → Safely C t τ caller g W S (ok (record { end = E; steps = n; counts = c }))

-- Demand 3 of one run `r` over the book C: for every check that accepts the words, at any allowed limit, over a book B for any owner.
abbrev pub SafeRun : Book → Book → List ℕ → ℕ → ℕ → Desk → List ℕ → List ℕ → Ran → Type 0
SafeRun B C ws budget caller desk W S r = (o L : ℕ) (W₁ O₁ : List ℕ) (n : ℕ)
    → (check_over B o ws L W₁ O₁).answer ≡ ok n
    → (t : Term) × (τ : Term) × Only (Codes 0 ws) t
    × Only (λ τ'. Worded τ' × (words τ' ≡ take n (check_over B o ws L W₁ O₁).output)) τ
    × Safely C t τ caller (grant budget caller desk) W S r.answer

-- `Is pi e`: the node of `e` is a product; likewise `Is lam e` and `Is castup e`.
abbrev pub Is : (Term → Term → Term) → Term → Type 0
Is c e = (a : Term) × (b : Term) × (e ≡ c a b)

-- "Of the values that the rules give a type, exactly star and the products have type star; exactly the abstractions have a product
-- as their type; exactly the up casts have a type that can step."
pub record Canonical (v : View) (e τ : Term) : Type 0 where
  pub stars : (τ ≡ star) ↔ ((e ≡ star) ⊎ Is pi e)
  pub products : Is pi τ ↔ Is lam e
  pub stepping : CanStep v τ ↔ Is castup e

-- "For every term that a check accepts at any allowed limit, and every run begun at it, whatever budget, desk and slices that run is
-- given": over a grown book, and "over that book, or over one grown from it by adding"; and the canonical forms, in every context, over
-- any book and at every view of it.
abbrev pub Demand3 : Type 0
Demand3 = ((B C : Book) → Grown B → GrownFrom B C → (ws : List ℕ) (budget caller : ℕ) (desk : Desk) (W S : List ℕ)
    → SafeRun B C ws budget caller desk W S (run_over C ws budget caller desk W S))
    × ((B : Book) (v : View) (Γ : Context) (e τ : Term) → Value e → B ∣ v ∣ Γ ⊢ e ⦂ τ → Canonical v e τ)
