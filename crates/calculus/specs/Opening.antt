-- What other bodies may be opened, added or changed without an answer changing (document 02, 2.3).
use Rattle.std.specs.Prelude.{ℕ, Bool, true, false, List, [], ◌∷◌, ◌≢◌, ◌≡◌}
use Rattle.calculus.specs.Term.{Term}
use Rattle.calculus.specs.Answer.{ok}
use Rattle.calculus.specs.Book.{Definition, Book, View, ◌⊆◌, bodies, seen}
use Rattle.calculus.specs.Rules.{Context}
use Rattle.calculus.specs.Limit.{◌∣◌∣◌⊢⟨◌⟩◌⦂◌}
use Rattle.calculus.specs.Growing.{GrownFrom, Grown}
use Rattle.calculus.specs.Outcomes.{check_over}

-- The definition with a mark, a body, its type and its owner.
abbrev pub defined : Bool → Term → Term → ℕ → Definition
defined m t τ o = record { body = t; type = τ; owner = o; is_open = m }

-- `Opened B B'`: the book B' is B with some marks opened. A mark that is open stays so.
pub data Opened : Book → Book → Type 0 where
  opened_none : Opened [] []
  opened_one : {B B' : Book} {t τ : Term} {o : ℕ} {m m' : Bool} → (m ≡ true → m' ≡ true) → Opened B B'
      → Opened (defined m t τ o ∷ B) (defined m' t τ o ∷ B')

-- "A term accepted with some bodies closed has the same type with more open."
pub record MoreOpen : Type 0 where
  -- By the rules, over a grown book, in every context, and with the same types measured.
  pub by_rules : (B : Book) → Grown B → (v w : View) → v ⊆ w → w ⊆ bodies B → (Γ : Context) (L : ℕ) (e τ : Term)
      → B ∣ v ∣ Γ ⊢⟨ L ⟩ e ⦂ τ → B ∣ w ∣ Γ ⊢⟨ L ⟩ e ⦂ τ
  -- Of a check, over any book, grown or not: an accepted one answers and writes the same over the book with marks opened,
  pub with_marks : (B B' : Book) → Opened B B' → (o : ℕ) (ws : List ℕ) (L : ℕ) (W O : List ℕ) (n : ℕ)
      → (check_over B o ws L W O).answer ≡ ok n → check_over B' o ws L W O ≡ check_over B o ws L W O
  -- and for an owner who sees as much.
  pub with_owner : (B : Book) (o o' : ℕ) → seen o B ⊆ seen o' B → (ws : List ℕ) (L : ℕ) (W O : List ℕ) (n : ℕ)
      → (check_over B o ws L W O).answer ≡ ok n → check_over B o' ws L W O ≡ check_over B o ws L W O
  -- So two owners whose checks are both accepted get the same answer and the same words, whatever each of them sees.
  pub two_owners : (B : Book) (o o' : ℕ) (ws : List ℕ) (L : ℕ) (W O : List ℕ) (n n' : ℕ)
      → (check_over B o ws L W O).answer ≡ ok n → (check_over B o' ws L W O).answer ≡ ok n'
      → check_over B o ws L W O ≡ check_over B o' ws L W O

-- What is typed within a limit over a grown book is typed within it, with the same type, "over one grown from it by adding", in every
-- context and at every view that shows as much.
abbrev pub StillTyped : Type 0
StillTyped = (B C : Book) → Grown B → GrownFrom B C → (v w : View) → v ⊆ w → w ⊆ bodies C → (Γ : Context) (L : ℕ) (e τ : Term)
    → B ∣ v ∣ Γ ⊢⟨ L ⟩ e ⦂ τ → C ∣ w ∣ Γ ⊢⟨ L ⟩ e ⦂ τ

-- `Alike o B B'`: the two books are the same but for bodies that are closed and of other owners than `o`, which may be any.
pub data Alike (o : ℕ) : Book → Book → Type 0 where
  alike_none : Alike o [] []
  alike_same : {B B' : Book} {d : Definition} → Alike o B B' → Alike o (d ∷ B) (d ∷ B')
  alike_closed : {B B' : Book} {t t' τ : Term} {u : ℕ} → u ≢ o → Alike o B B'
      → Alike o (defined false t τ u ∷ B) (defined false t' τ u ∷ B')

-- "For that check a change of another's closed body at the same stored type [...] alters nothing it answers or writes", over any book,
-- grown or not.
abbrev pub Isolation : Type 0
Isolation = (o : ℕ) (B B' : Book) → Alike o B B' → (ws : List ℕ) (L : ℕ) (W O : List ℕ)
    → check_over B o ws L W O ≡ check_over B' o ws L W O
