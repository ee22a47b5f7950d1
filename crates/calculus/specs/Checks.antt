-- DEMAND 2 for checks: what a check answers and leaves in its slices, by the rules.
use Rattle.std.specs.Prelude.{ℕ, ◌≤◌, ◌<◌, List, [], ◌≡◌, ◌↔◌, ◌≢◌, ◌⊎◌, length, take}
use Rattle.calculus.specs.Term.{Term, size}
use Rattle.calculus.specs.Answer.{ok, refused, Reason, number, limit_not_allowed, work_short, output_short, over_limit}
use Rattle.calculus.specs.Words.{words, Readable, Codes}
use Rattle.calculus.specs.Book.{Book, View, seen}
use Rattle.calculus.specs.Reading.{Misread}
use Rattle.calculus.specs.Rules.{◌∣◌∣◌⊢◌⦂◌}
use Rattle.calculus.specs.Limit.{◌∣◌∣◌⊢⟨◌⟩◌⦂◌}
use Rattle.calculus.specs.Failing.{Fails}
use Rattle.calculus.specs.Growing.{Grown}
use Rattle.calculus.specs.Outcomes.{largest_limit, check_room, begun, cleared, Checked, check_over}

-- "Check: L is 0 or above 1,024" is refused.
abbrev pub Allowed : ℕ → Type 0
Allowed L = (1 ≤ L) × (L ≤ largest_limit)

-- `Checks B o ws L W O c`: a check over the book B for the owner `o` of the words `ws` at the limit L, with the working slice W and the
-- output slice O, leaves `c`: the first row of document 01's table that applies, and otherwise the type.
pub data Checks (B : Book) (o : ℕ) (ws : List ℕ) (L : ℕ) (W O : List ℕ) : Checked → Type 0 where
  limit_refused : ¬ Allowed L → Checks B o ws L W O (record { answer = refused limit_not_allowed 0; work = W; output = O })
  work_refused : Allowed L → length W < check_room L
      → Checks B o ws L W O (record { answer = refused work_short 0; work = W; output = O })
  output_refused : Allowed L → check_room L ≤ length W → length O < L
      → Checks B o ws L W O (record { answer = refused output_short 0; work = W; output = O })
  unread : {r : Reason} {p : ℕ} → Allowed L → check_room L ≤ length W → L ≤ length O → Misread ws r p
      → Checks B o ws L W O (record { answer = refused r p; work = W; output = O })
  untyped : {r : Reason} {p : ℕ} {t : Term} → Allowed L → check_room L ≤ length W → L ≤ length O
      → Codes 0 ws t → Fails B (seen o B) L [] 0 t r p
      → Checks B o ws L W O (record { answer = refused r p; work = cleared (check_room L) W; output = O })
  typed : {t τ : Term} → Allowed L → check_room L ≤ length W → L ≤ length O
      → Codes 0 ws t → B ∣ seen o B ∣ [] ⊢⟨ L ⟩ t ⦂ τ
      → Checks B o ws L W O (record { answer = ok (size τ); work = cleared (check_room L) W; output = begun (words τ) O })

-- "A type is answered exactly when the published rules give the term that type and every type measured on the way fits the caller's
-- limit [...]. Each refusal names the first rule that fails, in the fixed order." And every word of both slices. The empty book, which
-- the calls have that are lent none, is a grown one.
abbrev pub Demand2Check : Type 0
Demand2Check = (B : Book) → Grown B → (o : ℕ) (ws : List ℕ) (L : ℕ) (W O : List ℕ) (c : Checked)
    → (check_over B o ws L W O ≡ c) ↔ Checks B o ws L W O c

-- Exactly one of "typed within L" and "fails" holds of a readable term.
abbrev pub TypedOrFails : Type 0
TypedOrFails = (B : Book) → Grown B → (o L : ℕ) (t : Term) → Readable (length B) t
    → (((τ : Term) × (B ∣ seen o B ∣ [] ⊢⟨ L ⟩ t ⦂ τ)) ⊎ ((r : Reason) × (p : ℕ) × Fails B (seen o B) L [] 0 t r p))
    × ((r : Reason) (p : ℕ) (τ : Term) → Fails B (seen o B) L [] 0 t r p → B ∣ seen o B ∣ [] ⊢⟨ L ⟩ t ⦂ τ → ⊥)

-- A term refused by another reason than 16 has no type under the rules, at that view.
abbrev pub Untypable : Type 0
Untypable = (B : Book) (v : View) (L : ℕ) (t τ : Term) (r : Reason) (p : ℕ)
    → Fails B v L [] 0 t r p → r ≢ over_limit → B ∣ v ∣ [] ⊢ t ⦂ τ → ⊥

-- Two limits that accept the same words answer the same type, over any book.
abbrev pub SameType : Type 0
SameType = (B : Book) (o : ℕ) (ws : List ℕ) (L L' : ℕ) (W W' O O' : List ℕ) (n n' : ℕ)
    → (check_over B o ws L W O).answer ≡ ok n → (check_over B o ws L' W' O').answer ≡ ok n'
    → (n ≡ n') × (take n (check_over B o ws L W O).output ≡ take n' (check_over B o ws L' W' O').output)

-- "A check refuses by 1–16, a run by 2–9."
abbrev pub CheckRefusals : Type 0
CheckRefusals = (B : Book) (o : ℕ) (ws : List ℕ) (L : ℕ) (W O : List ℕ) (r : Reason) (p : ℕ)
    → (check_over B o ws L W O).answer ≡ refused r p → (1 ≤ number r) × (number r ≤ 16)
