-- A book of definitions with owners (document 02, 2.3), and what is seen of it.
use Rattle.std.specs.Prelude.{ℕ, zero, suc, Bool, cond, ◌||◌, List, [], ◌∷◌, ◌≡◌, eqb}
use Rattle.std.proofs.Math.Option.{Option, none, some}
use Rattle.calculus.specs.Term.{Term}

-- "A book [...] holds up to 32 closed terms, each with its accepted type, an owner 0–7 and a mark open or closed."
pub record Definition : Type 0 where
  pub body : Term
  pub type : Term
  pub owner : ℕ
  pub is_open : Bool

abbrev pub Book : Type 0
Book = List Definition

-- "Up to 32" definitions, and owners "0–7".
abbrev pub most : ℕ
most = 32

abbrev pub last_owner : ℕ
last_owner = 7

-- What stands for a name, where something does.
abbrev pub View : Type 0
View = ℕ → Option Term

infix 20 ◌⊆◌
-- What `v` shows, `w` shows too.
abbrev pub ◌⊆◌ : View → View → Type 0
◌⊆◌ v w = (i : ℕ) (e : Term) → v i ≡ some e → w i ≡ some e

-- The definition that a name stands for, where it is in the book.
unfoldable pub entry : Book → ℕ → Option Definition
entry [] i = none
entry (d ∷ B) zero = some d
entry (d ∷ B) (suc i) = entry B i

-- What is seen of each definition of a book; nothing of a name that is not in it.
unfoldable pub view : (Definition → Option Term) → Book → View
view see [] i = none
view see (d ∷ B) zero = see d
view see (d ∷ B) (suc i) = view see B i

-- "Such a word has the stored type",
unfoldable pub types : Book → View
types B = view (λ d. some d.type) B

-- "and steps to the stored body". "Runs unfold all."
unfoldable pub bodies : Book → View
bodies B = view (λ d. some d.body) B

-- "A check is made for an owner: a closed body of another owner does not step there."
abbrev pub sees : ℕ → Definition → Bool
sees o d = d.is_open || eqb d.owner o

unfoldable pub seen : ℕ → Book → View
seen o B = view (λ d. cond (sees o d) (some d.body) none) B
