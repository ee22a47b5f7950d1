-- What is written at a node of the working slice within the limit. Where it does not fit, nothing is said of the slice: the check
-- then ends, and clears it.
use Rattle.std.specs.Prelude.{ℕ, ◌+◌, ◌*◌, ◌≤◌, ◌<◌, Bool, true, List, ◌≢◌, ◌≡◌, length, take, drop, Result, Ok, Err}
use Rattle.std.proofs.lemmas.List.Edits.{sets}
use Rattle.calculus.specs.Term.{Term, pi, size, substitute}
use Rattle.calculus.specs.Words.{words, Scoped, Named, longest, deepest}
use Rattle.calculus.specs.Step as calculus
use Rattle.term.specs.Kept.{Lies, kept}
use Rattle.book.specs.declared.Reader.{Reader}
use Rattle.book.specs.Layout.{sight, decode, entries}
use Rattle.reduction.specs.declared.stepping.Kind.{Kind}
use Rattle.reduction.specs.declared.stepping.Stepped.{Stepped}
use Rattle.reduction.specs.declared.stepping.Halt.{Halt}
use Rattle.reduction.specs.declared.stepping.Halt.TheVariants as halt
use Rattle.reduction.specs.Stepping.{kind_of}
use Rattle.term.specs.declared.refusal.Reason.{Reason}
use Rattle.term.specs.declared.refusal.Reason.TheVariants.{WrongArgument, OverLimit}

-- The step of a term over the book that a slice spells, as its reader sees it.
unfoldable pub next_of : Reader → List ℕ → Term → calculus.Next
next_of who book = calculus.step (sight who (decode book))

-- The words are those of a term of at most 1,024 words, in a context of at most 64 annotations; of a closed term where `closed`.
pub record Coded (ws : List ℕ) (closed : Bool) : Type 0 where
  pub term : Term
  pub coded : ws ≡ words term
  pub short : size term ≤ longest
  pub scoped : Scoped deepest term
  pub shut : closed ≡ true → Scoped 0 term

-- They are, and the term names definitions of the book alone.
pub record CodesWithin (book ws : List ℕ) (closed : Bool) : Type 0 where
  pub codes : Coded ws closed
  pub named : Named (entries book) codes.term

-- The slice is such a term, kept.
pub record HeldWithin (book slice : List ℕ) (closed : Bool) : Type 0 where
  pub term : Term
  pub coded : slice ≡ kept term
  pub short : size term ≤ longest
  pub scoped : Scoped deepest term
  pub named : Named (entries book) term
  pub shut : closed ≡ true → Scoped 0 term

-- A codomain and the argument that is put in are held: the first at the front, the second from node 1,024 on, `count` nodes long.
pub record HeldPair (held : List ℕ) (count : ℕ) (closed : Bool) : Type 0 where
  pub codomain : Term
  pub argument : Term
  pub front : Lies codomain held 0
  pub back : Lies argument held longest
  pub extent : count ≡ size argument
  pub short : (size codomain ≤ longest) × (size argument ≤ longest)
  pub scoped : Scoped deepest codomain × Scoped deepest argument
  pub shut : closed ≡ true → Scoped 0 argument

-- A codomain is kept from the node `from` up to `to`: it has at most 1,024 nodes, and stands in a context of at most 64 annotations.
pub record Codomain (work : List ℕ) (from to : ℕ) : Type 0 where
  pub term : Term
  pub coded : take (2 * size term) (drop (2 * from) work) ≡ kept term
  pub extent : to ≡ from + size term
  pub within : 2 * to ≤ length work
  pub short : size term ≤ longest
  pub scoped : Scoped deepest term

-- `u` put in for the outermost variable of `b` is written at `top`.
pub record Puts (b u : Term) (work : List ℕ) (top limit : ℕ) (r : Result ℕ Reason) (after : List ℕ) : Type 0 where
  pub fits : size (substitute 0 u b) ≤ limit
      → (r ≡ Ok (size (substitute 0 u b))) × (after ≡ sets work (2 * top) (kept (substitute 0 u b)))
  pub full : limit < size (substitute 0 u b) → r ≡ Err OverLimit

-- The slice is a product of at most 1,024 nodes, whose codomain stands in a context of at most 64 annotations.
pub record Product (slice : List ℕ) : Type 0 where
  pub domain : Term
  pub codomain : Term
  pub coded : slice ≡ kept (pi domain codomain)
  pub short : size (pi domain codomain) ≤ longest
  pub scoped : Scoped deepest codomain

-- The product of `a` and `b` is applied to `u`, which has the type σ: "its type equals the domain, else 12; the codomain with the
-- argument put in", which is written at `top`.
pub record Applies (a b u σ : Term) (work : List ℕ) (top limit : ℕ) (r : Result ℕ Reason) (after : List ℕ) : Type 0 where
  pub wrong : σ ≢ a → (r ≡ Err WrongArgument) × (after ≡ work)
  pub fits : σ ≡ a
      → size (substitute 0 u b) ≤ limit
      → (r ≡ Ok (size (substitute 0 u b))) × (after ≡ sets work (2 * top) (kept (substitute 0 u b)))
  pub full : σ ≡ a → limit < size (substitute 0 u b) → r ≡ Err OverLimit

-- The next state is written at `top`.
unfoldable pub Moves : calculus.Next → List ℕ → ℕ → ℕ → Result Stepped Halt → List ℕ → Type 0
Moves calculus.value work top limit r after = r ≡ Err halt.Value
Moves calculus.stuck work top limit r after = r ≡ Err halt.Stuck
Moves (calculus.next k x) work top limit r after =
    (K : Kind)
    × (kind_of K ≡ k)
    × (size x ≤ limit → (r ≡ Ok (record { kind = K; length = size x })) × (after ≡ sets work (2 * top) (kept x)))
    × (limit < size x → r ≡ Err halt.Full)

-- "the annotation steps, else 13; the stepped annotation is measured".
abbrev pub StepsInto : Reader → List ℕ → Term → List ℕ → ℕ → ℕ → Result Stepped Halt → List ℕ → Type 0
StepsInto who book a = Moves (next_of who book a)

-- "its type steps, else 13; the stepped type".
abbrev pub StepsType : Reader → List ℕ → Term → List ℕ → ℕ → ℕ → Result Stepped Halt → List ℕ → Type 0
StepsType who book σ = Moves (next_of who book σ)
