-- A node with two parts: its words are one word and those of its parts, it is one node longer and at least one level deeper than each,
-- and the scopes of its parts are its own, one variable wider under a binder. Each is the definition, node by node.
use Prim.Native.Nat.{ℕ, suc, ◌+◌, ◌<◌}
use mathlib.Core.List.{List}
use mathlib.Core.Path.{◌≡◌, refl}
use native.Mathlib.Omega.{arith}
use lib.ListN.{drop}
use Rattle.calculus.specs.Term.{Term, app, lam, pi, castup, mu, size}
use Rattle.calculus.specs.Words.{emit, levels, Scoped, Named}

-- `Two k e a b`: the node `e` has the parts `a` and `b`, and binds `k` variables in `b`.
pub data Two : ℕ → Term → Term → Term → Type 0 where
  of_app : {f u : Term} → Two 0 (app f u) f u
  of_castup : {a e : Term} → Two 0 (castup a e) a e
  of_lam : {a e : Term} → Two 1 (lam a e) a e
  of_pi : {a b : Term} → Two 1 (pi a b) a b
  of_mu : {a e : Term} → Two 1 (mu a e) a e

pub two_size : {k : ℕ} {e a b : Term} → Two k e a b → size e ≡ suc (size a + size b)
unfolding size
two_size of_app = refl
two_size of_castup = refl
two_size of_lam = refl
two_size of_pi = refl
two_size of_mu = refl

pub two_levels : {k : ℕ} {e a b : Term} → Two k e a b → (levels a < levels e) × (levels b < levels e)
unfolding levels
two_levels of_app = omega arith
two_levels of_castup = omega arith
two_levels of_lam = omega arith
two_levels of_pi = omega arith
two_levels of_mu = omega arith

pub two_emit : {k : ℕ} {e a b : Term} → Two k e a b → (r : List ℕ) → drop 1 (emit e r) ≡ emit a (emit b r)
unfolding emit
two_emit of_app r = refl
two_emit of_castup r = refl
two_emit of_lam r = refl
two_emit of_pi r = refl
two_emit of_mu r = refl

pub first_scoped : {k : ℕ} {e a b : Term} → Two k e a b → (n : ℕ) → Scoped n e → Scoped n a
unfolding Scoped
first_scoped of_app n s = s.0
first_scoped of_castup n s = s.0
first_scoped of_lam n s = s.0
first_scoped of_pi n s = s.0
first_scoped of_mu n s = s.0

pub second_scoped : {e a b : Term} → Two 0 e a b → (n : ℕ) → Scoped n e → Scoped n b
unfolding Scoped
second_scoped of_app n s = s.1
second_scoped of_castup n s = s.1

pub under_scoped : {e a b : Term} → Two 1 e a b → (n : ℕ) → Scoped n e → Scoped (suc n) b
unfolding Scoped
under_scoped of_lam n s = s.1
under_scoped of_pi n s = s.1
under_scoped of_mu n s = s.1

pub parts_named : {k : ℕ} {e a b : Term} → Two k e a b → (n : ℕ) → Named n e → Named n a × Named n b
unfolding Named
parts_named of_app n h = h
parts_named of_castup n h = h
parts_named of_lam n h = h
parts_named of_pi n h = h
parts_named of_mu n h = h
