-- The words of a term (document 01, Words; document 02, 2.3), and which terms can be read.
use Rattle.std.specs.Prelude.{ℕ, suc, ◌+◌, ◌≤◌, ◌<◌, max, List, [], ◌∷◌, ◌≡◌}
use Rattle.calculus.specs.Term.{Term, var, star, app, lam, pi, castup, castdown, mu, name, size}

-- The words of a term, before the words `k` that follow it: "a list of 16-bit words in prefix order", by document 01's table; "words
-- 2,048–2,079 name definitions 0–31".
unfoldable pub emit : Term → List ℕ → List ℕ
emit star k = 0 ∷ k
emit (castdown e) k = 1 ∷ emit e k
emit (app f u) k = 2 ∷ emit f (emit u k)
emit (castup a e) k = 3 ∷ emit a (emit e k)
emit (lam a e) k = 4 ∷ emit a (emit e k)
emit (pi a b) k = 5 ∷ emit a (emit b k)
emit (mu a e) k = 6 ∷ emit a (emit e k)
emit (var i) k = (16 + i) ∷ k
emit (name i) k = (2048 + i) ∷ k

-- The words of a term alone.
unfoldable pub words : Term → List ℕ
words t = emit t []

-- The places of the first and of the second part of a node at place `p`, whose first part is `a`. "Places count from 0."
abbrev pub first_part : ℕ → ℕ
first_part p = suc p

abbrev pub second_part : ℕ → Term → ℕ
second_part p a = suc p + size a

-- "Its outermost node is at level 1": the level of the deepest node.
unfoldable pub levels : Term → ℕ
levels (var i) = 1
levels star = 1
levels (app f u) = suc (max (levels f) (levels u))
levels (lam a e) = suc (max (levels a) (levels e))
levels (pi a b) = suc (max (levels a) (levels b))
levels (castup a e) = suc (max (levels a) (levels e))
levels (castdown e) = suc (levels e)
levels (mu a e) = suc (max (levels a) (levels e))
levels (name i) = 1

-- Every free index is below `n`; closed: `Scoped 0`.
unfoldable pub Scoped : ℕ → Term → Type 0
Scoped n (var i) = i < n
Scoped n star = Unit
Scoped n (app f u) = Scoped n f × Scoped n u
Scoped n (lam a e) = Scoped n a × Scoped (suc n) e
Scoped n (pi a b) = Scoped n a × Scoped (suc n) b
Scoped n (castup a e) = Scoped n a × Scoped n e
Scoped n (castdown e) = Scoped n e
Scoped n (mu a e) = Scoped n a × Scoped (suc n) e
Scoped n (name i) = Unit

-- Every name is below `n`: it names one of `n` definitions.
unfoldable pub Named : ℕ → Term → Type 0
Named n (var i) = Unit
Named n star = Unit
Named n (app f u) = Named n f × Named n u
Named n (lam a e) = Named n a × Named n e
Named n (pi a b) = Named n a × Named n b
Named n (castup a e) = Named n a × Named n e
Named n (castdown e) = Named n e
Named n (mu a e) = Named n a × Named n e
Named n (name i) = i < n

-- Every index has a word of its own: variables are the words 16–2,047.
unfoldable pub Worded : Term → Type 0
Worded (var i) = i < 2032
Worded star = Unit
Worded (app f u) = Worded f × Worded u
Worded (lam a e) = Worded a × Worded e
Worded (pi a b) = Worded a × Worded b
Worded (castup a e) = Worded a × Worded e
Worded (castdown e) = Worded e
Worded (mu a e) = Worded a × Worded e
Worded (name i) = Unit

-- "A term has 1–1,024 words. [...] no node is below level 64."
abbrev pub longest : ℕ
longest = 1024

abbrev pub deepest : ℕ
deepest = 64

-- A closed term of those sizes that names `n` definitions at most: "a term within the stated sizes".
pub record Readable (n : ℕ) (t : Term) : Type 0 where
  pub closed : Scoped 0 t
  pub named : Named n t
  pub short : size t ≤ longest
  pub shallow : levels t ≤ deepest

-- The list `ws` is the readable term `t`.
abbrev pub Codes : ℕ → List ℕ → Term → Type 0
Codes n ws t = (ws ≡ words t) × Readable n t
