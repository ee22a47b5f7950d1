-- What inference is asked of a subterm and what it answers, by the `infer` of the calculus.
use Rattle.std.specs.Prelude.{ℕ, suc, ◌+◌, ◌-◌, ◌*◌, ◌≤◌, ◌<◌, List, [], ◌∷◌, ◌≡◌, length, take, drop, get_or, Result, Ok, Err}
use Rattle.std.proofs.lemmas.List.Edits.{sets}
use Rattle.calculus.specs.Term.{Term, star, size, raise}
use Rattle.calculus.specs.Answer.{Answer, ok, refused, ◌>>=◌, ◌>>◌, require, Reason, not_star, over_limit}
use Rattle.calculus.specs.Words.{emit, levels, Scoped, Named, longest, deepest}
use Rattle.calculus.specs.Book.{types}
use Rattle.calculus.specs.Rules.{Context}
use Rattle.calculus.specs.Infer.{FittedContext, infer, same}
use Rattle.term.specs.Kept.{kept}
use Rattle.term.specs.Reasons.{reason_of}
use Rattle.term.specs.declared.refusal.Refusal.{Refusal}
use Rattle.book.specs.declared.Reader.{Reader}
use Rattle.book.specs.Layout.{Holds, decode, entries}
use Rattle.inference.specs.Moving.{next_of}
use Rattle.inference.specs.declared.Typed.{Typed}

-- Inference over the book that a slice spells, as its reader sees it.
abbrev pub judge : Reader → List ℕ → ℕ → Context → ℕ → Term → Answer Term
judge who book = infer (types (decode book)) (next_of who book)

-- The annotations of Γ stand in the term at the places listed, outermost first.
unfoldable pub Placed : List ℕ → Context → List ℕ → Type 0
Placed term [] places = Unit
Placed term (a ∷ Γ) places =
    ((rest : List ℕ) × (drop (get_or places (length Γ) 0) term ≡ emit a rest))
    × (get_or places (length Γ) 0 ≤ length term)
    × Placed term Γ places

-- `sub`, the end of `term`, begins with `e`, which stands in the context Γ. The book is held by its slice, and no other name occurs.
pub record Subject (book : List ℕ) (Γ : Context) (e : Term) (term sub places : List ℕ) (depth : ℕ) : Type 0 where
  pub rest : List ℕ
  pub begins : sub ≡ emit e rest
  pub ends : sub ≡ drop (length term - length sub) term
  pub within : length sub ≤ length term
  pub short : length term ≤ longest
  pub around : depth ≡ length Γ
  pub wide : length places ≡ deepest
  pub placed : Placed term Γ places
  pub holds : Holds (decode book) book
  pub fitted : FittedContext (entries book) Γ
  pub scoped : Scoped depth e
  pub named : Named (entries book) e
  pub deep : depth + levels e ≤ deepest

-- A type for each level of `e`, and one more.
pub record Roomy (e : Term) (work : List ℕ) (top limit : ℕ) : Type 0 where
  pub some : 1 ≤ limit
  pub allowed : limit ≤ longest
  pub room : 2 * (top + suc (levels e) * limit) ≤ length work

abbrev pub inferred_of : Result Typed Refusal → Answer ℕ
inferred_of (Ok t) = ok t.length
inferred_of (Err r) = refused (reason_of r.reason) r.place

-- The type τ of a subterm of `n` words is kept at `top`; what lies before it, and the places of the context, are as they were.
pub record TypeFound (τ : Term) (n : ℕ) (places : List ℕ) (depth : ℕ) (work : List ℕ) (top : ℕ) (r : Result Typed Refusal) (after places' : List ℕ) : Type 0 where
  pub answer : r ≡ Ok (record { read = n; length = size τ })
  pub lies : take (2 * size τ) (drop (2 * top) after) ≡ kept τ
  pub front : take (2 * top) after ≡ take (2 * top) work
  pub context : take depth places' ≡ take depth places
  pub wide : length places' ≡ length places

-- By the answer of the calculus: the type lies in the slice, or the refusal is the same.
pub data Infers : Answer Term → Term → List ℕ → ℕ → List ℕ → ℕ → Result Typed Refusal → List ℕ → List ℕ → Type 0 where
  finds : {τ e : Term} {places : List ℕ} {depth : ℕ} {work : List ℕ} {top : ℕ} {r : Result Typed Refusal} {after places' : List ℕ}
      → TypeFound τ (size e) places depth work top r after places' → Infers (ok τ) e places depth work top r after places'
  refuses : {s : Reason} {p : ℕ} {e : Term} {places : List ℕ} {depth : ℕ} {work : List ℕ} {top : ℕ} {r : Result Typed Refusal} {after places' : List ℕ}
      → inferred_of r ≡ refused s p → Infers (refused s p) e places depth work top r after places'

-- The type of a part that has to be star, else 10.
unfoldable pub star_typed : Reader → List ℕ → ℕ → Context → ℕ → Term → Answer Term
star_typed who book L Γ p e = do
  σ ← judge who book L Γ p e
  require not_star p (same σ star)
  ok star

-- What is asked of the arguments of a function that types nodes `c`, with one part and with two: that they stand for such a node in
-- some context, and that there is room.
abbrev pub Asks : (Term → Term) → List ℕ → List ℕ → List ℕ → List ℕ → ℕ → List ℕ → ℕ → ℕ → Type 0
Asks c book term sub places depth work top limit = (Γ : Context) × (e : Term) × Subject book Γ (c e) term sub places depth × Roomy (c e) work top limit

abbrev pub Asks₂ : (Term → Term → Term) → List ℕ → List ℕ → List ℕ → List ℕ → ℕ → List ℕ → ℕ → ℕ → Type 0
Asks₂ c book term sub places depth work top limit =
    (Γ : Context) × (a : Term) × (e : Term) × Subject book Γ (c a e) term sub places depth × Roomy (c a e) work top limit

-- What it then tells: whatever node and context they stand for, the answer is that of `judge` at the node's place.
abbrev pub Tells : (ℕ → Context → ℕ → Term → Answer Term) → (Term → Term) → List ℕ → List ℕ → List ℕ → List ℕ → ℕ → List ℕ → ℕ → ℕ
    → Result Typed Refusal → List ℕ → List ℕ → Type 0
Tells judge c book term sub places depth work top limit r after places' = (Γ : Context) (e : Term) → Subject book Γ (c e) term sub places depth
    → Infers (judge limit Γ (length term - length sub) (c e)) (c e) places depth work top r after places'

abbrev pub Tells₂ : (Term → Term → Term) → Reader → List ℕ → List ℕ → List ℕ → List ℕ → ℕ → List ℕ → ℕ → ℕ → Result Typed Refusal → List ℕ → List ℕ → Type 0
Tells₂ c who book term sub places depth work top limit r after places' = (Γ : Context) (a e : Term) → Subject book Γ (c a e) term sub places depth
    → Infers (judge who book limit Γ (length term - length sub) (c a e)) (c a e) places depth work top r after places'

-- The annotation `a` stands at `from`; all but its first `index` + 1 binders are around it.
pub record Annotation (a : Term) (index : ℕ) (term : List ℕ) (from : ℕ) : Type 0 where
  pub rest : List ℕ
  pub begins : drop from term ≡ emit a rest
  pub within : from ≤ length term
  pub short : length term ≤ longest
  pub scoped : Scoped deepest a
  pub near : index < deepest

-- The raised annotation is written at `top`, if it fits the limit.
pub record Raises (a : Term) (index place limit : ℕ) (work : List ℕ) (top : ℕ) (r : Result Typed Refusal) (after : List ℕ) : Type 0 where
  pub fits : size a ≤ limit → (r ≡ Ok (record { read = 1; length = size a })) × (after ≡ sets work (2 * top) (kept (raise (suc index) 0 a)))
  pub over : limit < size a → inferred_of r ≡ refused over_limit place

-- The stored type τ is written at `top`, if it fits the limit.
pub record Stores (τ : Term) (place limit : ℕ) (work : List ℕ) (top : ℕ) (r : Result Typed Refusal) (after : List ℕ) : Type 0 where
  pub fits : size τ ≤ limit → (r ≡ Ok (record { read = 1; length = size τ })) × (after ≡ sets work (2 * top) (kept τ))
  pub over : limit < size τ → inferred_of r ≡ refused over_limit place
