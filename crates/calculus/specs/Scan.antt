-- Reading a list of words as a function, left to right over the subterms still to come (document 01, Words and Calls). Believed only
-- through the theorems of `Reads`: it answers the term whose words the list is, and refuses where `Misread` says.
use Rattle.std.specs.Prelude.{ℕ, suc, ◌+◌, ◌-◌, Bool, true, false, ◌&&◌, List, [], ◌∷◌, ◌++◌, map, ltb, leb, length}
use Rattle.calculus.specs.Term.{Term, var, star, app, lam, pi, castup, castdown, mu, name}
use Rattle.calculus.specs.Words.{longest, deepest}
use Rattle.calculus.specs.Answer.{Answer, ok, refused, ◌>>=◌, ◌>>◌, require, length_not_allowed, no_meaning, list_ends, words_after, level_65, unbound}
use Rattle.calculus.specs.Meaning.{Meaning, a_star, a_castdown, an_app, a_castup, a_lam, a_pi, a_mu, a_variable, a_name, nothing, meaning, binds}

-- A subterm still to come: how many levels it may have, and how many binders are around it.
pub record Pending : Type 0 where
  pub room : ℕ
  pub binders : ℕ

-- A word has a meaning where it is read: no call is lent a book, so that no word names anything.
unfoldable pub means : Meaning → Bool
means a_star = true
means a_castdown = true
means an_app = true
means a_castup = true
means a_lam = true
means a_pi = true
means a_mu = true
means (a_variable i) = true
means (a_name i) = false
means nothing = false

-- A variable stands inside its binder.
unfoldable pub bound : Meaning → ℕ → Bool
bound a_star b = true
bound a_castdown b = true
bound an_app b = true
bound a_castup b = true
bound a_lam b = true
bound a_pi b = true
bound a_mu b = true
bound (a_variable i) b = ltb i b
bound (a_name i) b = true
bound nothing b = true

-- "Words are read left to right, each tested in the order 5, 8, 9."
unfoldable pub test : Meaning → Pending → ℕ → Answer (Unit {0})
test m s p = do
  require no_meaning p (means m)
  require level_65 p (ltb 0 s.room)
  require unbound p (bound m s.binders)

-- The node made of the terms read after its word, before those that are not its parts.
unfoldable pub node₁ : (Term → Term) → List Term → List Term
node₁ c [] = []
node₁ c (e ∷ ts) = c e ∷ ts

-- With two parts.
unfoldable pub node₂ : (Term → Term → Term) → List Term → List Term
node₂ c [] = []
node₂ c (a ∷ []) = []
node₂ c (a ∷ e ∷ ts) = c a e ∷ ts

-- With as many as the word has.
unfoldable pub node : Meaning → List Term → List Term
node a_star ts = star ∷ ts
node a_castdown ts = node₁ castdown ts
node an_app ts = node₂ app ts
node a_castup ts = node₂ castup ts
node a_lam ts = node₂ lam ts
node a_pi ts = node₂ pi ts
node a_mu ts = node₂ mu ts
node (a_variable i) ts = var i ∷ ts
node (a_name i) ts = name i ∷ ts
node nothing ts = ts

-- A part of a subterm: one level less, and the binders of its node besides.
unfoldable pub below : Pending → ℕ → Pending
below s k = record { room = s.room - 1; binders = s.binders + k }

-- One term for each subterm still to come, from the words at place `p` on. "List ends inside the term: length of the list. Words
-- after the term: first word over." "A word after a complete term is 7, untested."
unfoldable pub scan : List ℕ → List Pending → ℕ → Answer (List Term)
scan [] [] p = ok []
scan [] (s ∷ ss) p = refused list_ends p
scan (w ∷ ws) [] p = refused words_after p
scan (w ∷ ws) (s ∷ ss) p = do
  test (meaning w) s p
  ts ← scan ws (map (below s) (binds (meaning w)) ++ ss) (suc p)
  ok (node (meaning w) ts)

-- The one term that was asked for.
unfoldable pub the_first : List Term → Term
the_first [] = star
the_first (t ∷ ts) = t

-- The whole list: "term of 0 or over 1,024 words" is refused first.
unfoldable pub read : List ℕ → Answer Term
read ws = do
  require length_not_allowed 0 (leb 1 (length ws) && leb (length ws) longest)
  ts ← scan ws (record { room = deepest; binders = 0 } ∷ []) 0
  ok (the_first ts)
