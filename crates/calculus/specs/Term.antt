-- Terms of lambda-star-mu (document 002, A.1) with de Bruijn indices, and the names of definitions (document 02, 2.3): no bound on size,
-- level, index or name.
use Rattle.std.specs.Prelude.{ℕ, suc, ◌+◌, ◌-◌, cond, ltb, eqb}

-- A.1, Expressions. The second part of `lam`, `pi` and `mu` stands under one binder (document 01: "Nodes 4, 5 and 6 bind one
-- variable in their second part only. Index 0 is the innermost binder"). A name has no parts.
pub data Term : Type 0 where
  var : ℕ → Term
  star : Term
  app : Term → Term → Term
  lam : Term → Term → Term
  pi : Term → Term → Term
  castup : Term → Term → Term
  castdown : Term → Term
  mu : Term → Term → Term
  name : ℕ → Term
  deriving Discrete as Term-discrete

-- "One node is one word": the length of a term.
unfoldable pub size : Term → ℕ
size (var i) = 1
size star = 1
size (app f u) = suc (size f + size u)
size (lam a e) = suc (size a + size e)
size (pi a b) = suc (size a + size b)
size (castup a e) = suc (size a + size e)
size (castdown e) = suc (size e)
size (mu a e) = suc (size a + size e)
size (name i) = 1

-- `raise n c t`: the free indices of `t` from `c` on, raised by `n`.
unfoldable pub raise : ℕ → ℕ → Term → Term
raise n c (var i) = var (cond (ltb i c) i (i + n))
raise n c star = star
raise n c (app f u) = app (raise n c f) (raise n c u)
raise n c (lam a e) = lam (raise n c a) (raise n (suc c) e)
raise n c (pi a b) = pi (raise n c a) (raise n (suc c) b)
raise n c (castup a e) = castup (raise n c a) (raise n c e)
raise n c (castdown e) = castdown (raise n c e)
raise n c (mu a e) = mu (raise n c a) (raise n (suc c) e)
raise n c (name i) = name i

-- `substitute k s t`: `s` put in for index `k` of `t`. "Substitution under a binder raises the free indices of what it puts in by
-- one for each binder crossed, and lowers the variables above the removed binder by one."
unfoldable pub substitute : ℕ → Term → Term → Term
substitute k s (var i) = cond (ltb i k) (var i) (cond (eqb i k) (raise k 0 s) (var (i - 1)))
substitute k s star = star
substitute k s (app f u) = app (substitute k s f) (substitute k s u)
substitute k s (lam a e) = lam (substitute k s a) (substitute (suc k) s e)
substitute k s (pi a b) = pi (substitute k s a) (substitute (suc k) s b)
substitute k s (castup a e) = castup (substitute k s a) (substitute k s e)
substitute k s (castdown e) = castdown (substitute k s e)
substitute k s (mu a e) = mu (substitute k s a) (substitute (suc k) s e)
substitute k s (name i) = name i
