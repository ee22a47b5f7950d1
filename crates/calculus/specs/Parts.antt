-- The part lookup (document 01, Words): which part of a term has which number, where it stands, and what is handed back.
use Rattle.std.specs.Prelude.{ℕ, ◌+◌, ◌≤◌, List, [], ◌≡◌, ◌↔◌, length}
use Rattle.calculus.specs.Term.{Term, app, lam, pi, castup, castdown, mu, size}
use Rattle.calculus.specs.Words.{words, first_part, second_part, Codes}
use Rattle.calculus.specs.Outcomes.{Found, absent, found, part}

-- `PartAt t k e p`: part number `k` of the term `t` is `e`, and stands at place `p` of its words. One constructor for each part of
-- document 01's table, in its order; in each row "parts that follow" the node's word.
pub data PartAt : Term → ℕ → Term → ℕ → Type 0 where
  -- "cast down: body"
  castdown_1 : {e : Term} → PartAt (castdown e) 1 e (first_part 0)
  -- "application: function, argument"
  app_1 : {f u : Term} → PartAt (app f u) 1 f (first_part 0)
  app_2 : {f u : Term} → PartAt (app f u) 2 u (second_part 0 f)
  -- "cast up: annotation, body"
  castup_1 : {a e : Term} → PartAt (castup a e) 1 a (first_part 0)
  castup_2 : {a e : Term} → PartAt (castup a e) 2 e (second_part 0 a)
  -- "abstraction: annotation, body"
  lam_1 : {a e : Term} → PartAt (lam a e) 1 a (first_part 0)
  lam_2 : {a e : Term} → PartAt (lam a e) 2 e (second_part 0 a)
  -- "product: domain, codomain"
  pi_1 : {a b : Term} → PartAt (pi a b) 1 a (first_part 0)
  pi_2 : {a b : Term} → PartAt (pi a b) 2 b (second_part 0 a)
  -- "recursion (mu): annotation, body"
  mu_1 : {a e : Term} → PartAt (mu a e) 1 a (first_part 0)
  mu_2 : {a e : Term} → PartAt (mu a e) 2 e (second_part 0 a)

-- `Finds ws k f`: a lookup of part number `k` in the words `ws` finds `f`. "A part lookup takes a term and the number 1 or 2, and hands
-- back that part of the caller's own words, not a copy. For a list that is no closed term, and for a part that isn't there, it hands
-- back an empty part, its only refusal."
pub data Finds (ws : List ℕ) (k : ℕ) : Found → Type 0 where
  the_part : {t e : Term} {p : ℕ} → Codes 0 ws t → PartAt t k e p → Finds ws k (record { start = p; extent = size e })
  no_such_part : {t : Term} → Codes 0 ws t → ((e : Term) (p : ℕ) → ¬ PartAt t k e p) → Finds ws k absent
  no_closed_term : ((t : Term) → ¬ Codes 0 ws t) → Finds ws k absent

-- A lookup finds just that.
abbrev pub Lookup : Type 0
Lookup = (ws : List ℕ) (k : ℕ) (f : Found) → (found ws k ≡ f) ↔ Finds ws k f

-- The words handed back are the part's; where nothing is found there are none.
abbrev pub PartWords : Type 0
PartWords = (ws : List ℕ) (k : ℕ)
    → ((t e : Term) (p : ℕ) → Codes 0 ws t → PartAt t k e p → part ws k ≡ words e) × (found ws k ≡ absent → part ws k ≡ [])

-- They lie within the caller's own words.
abbrev pub FoundWithin : Type 0
FoundWithin = (ws : List ℕ) (k : ℕ) → (found ws k).start + (found ws k).extent ≤ length ws
