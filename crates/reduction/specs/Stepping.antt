-- Where a term steps, and what a step answers and writes. States are kept terms.
use Rattle.std.specs.Prelude.{ℕ, suc, ◌+◌, ◌-◌, ◌*◌, ◌≤◌, ◌<◌, Bool, true, cond, ◌&&◌, List, [], ◌∷◌, ◌≡◌, leb, length, Result, Ok, Err}
use Rattle.std.proofs.Math.Option.{Option, none, some}
use Rattle.std.proofs.lemmas.List.Edits.{sets}
use Rattle.calculus.specs.Term.{Term, var, star, app, lam, pi, castup, castdown, mu, name, size, substitute}
use Rattle.calculus.specs.Words.{Scoped, Named, Worded, longest, deepest}
use Rattle.calculus.specs.Book.{Book, View}
use Rattle.calculus.specs.Kinds as kinds
use Rattle.calculus.specs.Step as calculus
use Rattle.term.specs.Kept.{Lies, kept}
use Rattle.book.specs.Layout.{Holds, sight}
use Rattle.book.specs.declared.Reader.{Reader}
use Rattle.reduction.specs.declared.stepping.Kind.{Kind}
use Rattle.reduction.specs.declared.stepping.Kind.TheVariants as kind
use Rattle.reduction.specs.declared.stepping.Redex.{Redex}
use Rattle.reduction.specs.declared.stepping.Redex.TheVariants as redex
use Rattle.reduction.specs.declared.stepping.Rest.{Rest}
use Rattle.reduction.specs.declared.stepping.Rest.TheVariants as rest
use Rattle.reduction.specs.declared.stepping.Stepped.{Stepped}
use Rattle.reduction.specs.declared.stepping.Halt.{Halt}
use Rattle.reduction.specs.declared.stepping.Halt.TheVariants as halt

-- The redex of the first part, one place further on; where there is none, what the node itself is.
unfoldable pub deeper : Result Redex Rest → Result Redex Rest → Result Redex Rest
deeper (Err r) otherwise = otherwise
deeper (Ok (redex.Beta n)) otherwise = Ok (redex.Beta (suc n))
deeper (Ok (redex.Cancel n)) otherwise = Ok (redex.Cancel (suc n))
deeper (Ok (redex.Unfold n)) otherwise = Ok (redex.Unfold (suc n))
deeper (Ok (redex.Name n)) otherwise = Ok (redex.Name (suc n))

unfoldable pub at_application : Term → Result Redex Rest
at_application (var i) = Err rest.Stuck
at_application star = Err rest.Stuck
at_application (app f u) = Err rest.Stuck
at_application (lam a e) = Ok (redex.Beta 0)
at_application (pi a b) = Err rest.Stuck
at_application (castup a e) = Err rest.Stuck
at_application (castdown e) = Err rest.Stuck
at_application (mu a e) = Err rest.Stuck
at_application (name i) = Err rest.Stuck

unfoldable pub at_castdown : Term → Result Redex Rest
at_castdown (var i) = Err rest.Stuck
at_castdown star = Err rest.Stuck
at_castdown (app f u) = Err rest.Stuck
at_castdown (lam a e) = Err rest.Stuck
at_castdown (pi a b) = Err rest.Stuck
at_castdown (castup a e) = Ok (redex.Cancel 0)
at_castdown (castdown e) = Err rest.Stuck
at_castdown (mu a e) = Err rest.Stuck
at_castdown (name i) = Err rest.Stuck

-- A name, by what stands for it.
unfoldable pub at_name : Option Term → Result Redex Rest
at_name none = Err rest.Stuck
at_name (some e) = Ok (redex.Name 0)

-- Where a term steps at a view and by which rule: its node.
unfoldable pub locate : View → Term → Result Redex Rest
locate v (var i) = Err rest.Stuck
locate v star = Err rest.Value
locate v (app f u) = deeper (locate v f) (at_application f)
locate v (lam a e) = Err rest.Value
locate v (pi a b) = Err rest.Value
locate v (castup a e) = Err rest.Value
locate v (castdown e) = deeper (locate v e) (at_castdown e)
locate v (mu a e) = Ok (redex.Unfold 0)
locate v (name i) = at_name (v i)

-- The slice is the kept term `t`, whose indices have words of their own, and which names definitions of the book alone.
pub record Keeps (B : Book) (t : Term) (slice : List ℕ) : Type 0 where
  pub coded : slice ≡ kept t
  pub has_words : Worded t
  pub named : Named (length B) t

-- It is some such term, over a book that a slice holds.
abbrev pub Held : List ℕ → List ℕ → Type 0
Held book slice = (B : Book) × (t : Term) × Holds B book × Keeps B t slice

-- The slice is a kept term of at most 1,024 nodes, in a context of at most 64 annotations; a closed one where `closed`.
pub record Within (slice : List ℕ) (closed : Bool) : Type 0 where
  pub term : Term
  pub coded : slice ≡ kept term
  pub short : size term ≤ longest
  pub scoped : Scoped deepest term
  pub shut : closed ≡ true → Scoped 0 term

-- It is such a term over a book that a slice holds.
pub record HeldWithin (book slice : List ℕ) (closed : Bool) : Type 0 where
  pub lent : Book
  pub holds : Holds lent book
  pub term : Term
  pub keeps : Keeps lent term slice
  pub short : size term ≤ longest
  pub scoped : Scoped deepest term
  pub shut : closed ≡ true → Scoped 0 term

-- It is a term of at most 1,024 nodes that steps, at some view, at that redex.
abbrev pub Located : List ℕ → Redex → Type 0
Located slice r = (v : View) × (t : Term) × (slice ≡ kept t) × Worded t × (size t ≤ longest) × (locate v t ≡ Ok r)

-- The down casts and applications that kept words begin with.
unfoldable pub heads : List ℕ → ℕ
heads [] = 0
heads (w ∷ []) = 0
heads (w ∷ l ∷ ws) = cond (leb 1 w && leb w 2) (suc (heads ws)) 0

-- `Around t n s x y`: the part `s` of `t` stands at its node `n` inside `n` applications, as their function, and down casts, as their
-- body; with `x` in its place the term is `y`.
pub data Around : Term → ℕ → Term → Term → Term → Type 0 where
  here : {s x : Term} → Around s 0 s x x
  in_function : {f u s x g : Term} {n : ℕ} → Around f n s x g → Around (app f u) (suc n) s x (app g u)
  in_body : {e s x g : Term} {n : ℕ} → Around e n s x g → Around (castdown e) (suc n) s x (castdown g)

-- A redex at the node `at` of a state, which steps by putting its part `outer`, from the node `argument` to its end, in for the outermost
-- variable of its part `inner`, at the node `body`. With that in its place the state's term is `y`.
pub record PutIn (slice : List ℕ) (at body argument : ℕ) (y : Term) : Type 0 where
  pub term : Term
  pub redex : Term
  pub inner : Term
  pub outer : Term
  pub coded : slice ≡ kept term
  pub has_words : Worded term
  pub short : size term ≤ longest
  pub around : Around term at redex (substitute 0 outer inner) y
  pub inner_lies : Lies inner slice body
  pub inner_scoped : (n : ℕ) → Scoped n redex → Scoped (suc n) inner
  pub inner_worded : Worded inner
  pub outer_lies : Lies outer slice argument
  pub outer_ends : at + size redex ≡ argument + size outer
  pub outer_scoped : (n : ℕ) → Scoped n redex → Scoped n outer
  pub outer_worded : Worded outer

-- The leading nodes with their lengths moved by one difference, from what ends at the node `old` to what ends at `new`.
unfoldable pub moved : ℕ → ℕ → List ℕ → List ℕ
moved old new [] = []
moved old new (w ∷ []) = w ∷ []
moved old new (w ∷ l ∷ ws) = w ∷ (l + new - old) ∷ moved old new ws

-- No length is too large or too small to be moved so.
unfoldable pub Movable : ℕ → ℕ → List ℕ → Type 0
Movable old new [] = Unit
Movable old new (w ∷ []) = Unit
Movable old new (w ∷ l ∷ ws) = (l ≤ longest) × (old ≤ l + new) × Movable old new ws

-- A state at rest has no next one.
abbrev pub halt_of : Rest → Halt
halt_of rest.Value = halt.Value
halt_of rest.Stuck = halt.Stuck

-- The kinds of the calculus that those of the code stand for.
abbrev pub kind_of : Kind → kinds.Kind
kind_of kind.Substitution = kinds.by_substitution
kind_of kind.Unfolding = kinds.by_unfolding
kind_of kind.Cancellation = kinds.by_cancellation

-- `Arrives K x out r after`: by a step of the kind K the term `x` is kept at the front of `out`, which leaves `after`, and the answer
-- is `r`.
pub record Arrives (K : Kind) (x : Term) (out : List ℕ) (r : Result Stepped Halt) (after : List ℕ) : Type 0 where
  pub fits : 2 * size x ≤ length out → (r ≡ Ok (record { kind = K; length = size x })) × (after ≡ sets out 0 (kept x))
  pub full : length out < 2 * size x → (r ≡ Err halt.Full) × (length after ≡ length out)

-- What a step answers and writes, by what the calculus says.
unfoldable pub Steps : calculus.Next → List ℕ → Result Stepped Halt → List ℕ → Type 0
Steps calculus.value out r after = (r ≡ Err halt.Value) × (after ≡ out)
Steps calculus.stuck out r after = (r ≡ Err halt.Stuck) × (after ≡ out)
Steps (calculus.next k x) out r after = (K : Kind) × (kind_of K ≡ k) × Arrives K x out r after

-- The same of a state by a rule that asks for no book: whatever term it keeps, at every view.
abbrev pub Tells : (state out : List ℕ) → Result Stepped Halt → (after : List ℕ) → Type 0
Tells state out r after = (v : View) (t : Term) → state ≡ kept t → Worded t → Steps (calculus.step v t) out r after

-- And over whatever book is held, as the reader sees it.
abbrev pub TellsOver : Reader → (book state out : List ℕ) → Result Stepped Halt → (after : List ℕ) → Type 0
TellsOver who book state out r after =
    (B : Book) (t : Term) → Holds B book → Keeps B t state → Steps (calculus.step (sight who B) t) out r after
