-- The five nodes with two parts at once: every law about them is stated of the constructor, its word and the number of variables
-- that it binds in its second part.
use Prim.Native.Nat.{ℕ, suc, ◌+◌, ◌<◌}
use mathlib.Core.List.{List, [], ◌∷◌}
use mathlib.Core.Path.{◌≡◌, refl}
use native.Mathlib.Nat.{add-zero}
use native.Mathlib.Numerals.{add-one}
use native.Mathlib.Omega.{arith}
use Rattle.calculus.specs.Term.{Term, var, star, app, lam, pi, castup, castdown, mu, name, size, raise, substitute}
use Rattle.calculus.specs.Words.{Scoped, Worded}
use Rattle.calculus.specs.Meaning.{meaning, binds}
use Rattle.term.specs.Kept.{keep}

-- `Two c w k`: the node `c` has two parts and the word `w`, and binds `k` variables in its second part.
pub data Two : (Term → Term → Term) → ℕ → ℕ → Type 0 where
  two_app : Two app 2 0
  two_castup : Two castup 3 0
  two_lam : Two lam 4 1
  two_pi : Two pi 5 1
  two_mu : Two mu 6 1

-- A term by the number of its parts.
pub data View : Term → Type 0 where
  a_variable : (i : ℕ) → View (var i)
  a_star : View star
  a_name : (i : ℕ) → View (name i)
  one_part : (e : Term) → View (castdown e)
  two_parts : {c : Term → Term → Term} {w k : ℕ} → Two c w k → (a b : Term) → View (c a b)

pub view : (t : Term) → View t
view (var i) = a_variable i
view star = a_star
view (app f u) = two_parts two_app f u
view (lam a e) = two_parts two_lam a e
view (pi a b) = two_parts two_pi a b
view (castup a e) = two_parts two_castup a e
view (castdown e) = one_part e
view (mu a e) = two_parts two_mu a e
view (name i) = a_name i

pub keep_two : {c : Term → Term → Term} {w k : ℕ} → Two c w k → (a b : Term) (r : List ℕ) → keep (c a b) r ≡ w ∷ size (c a b) ∷ keep a (keep b r)
unfolding keep
keep_two two_app a b r = refl
keep_two two_castup a b r = refl
keep_two two_lam a b r = refl
keep_two two_pi a b r = refl
keep_two two_mu a b r = refl

pub size_two : {c : Term → Term → Term} {w k : ℕ} → Two c w k → (a b : Term) → size (c a b) ≡ suc (size a + size b)
unfolding size
size_two two_app a b = refl
size_two two_castup a b = refl
size_two two_lam a b = refl
size_two two_pi a b = refl
size_two two_mu a b = refl

pub raise_two : {c : Term → Term → Term} {w k : ℕ} → Two c w k → (n d : ℕ) (a b : Term) → raise n d (c a b) ≡ c (raise n d a) (raise n (d + k) b)
unfolding raise
raise_two two_app n d a b = rw (add-zero d) refl
raise_two two_castup n d a b = rw (add-zero d) refl
raise_two two_lam n d a b = rw (add-one d) refl
raise_two two_pi n d a b = rw (add-one d) refl
raise_two two_mu n d a b = rw (add-one d) refl

pub substitute_two : {c : Term → Term → Term} {w k : ℕ} → Two c w k → (d : ℕ) (u a b : Term) → substitute d u (c a b) ≡ c (substitute d u a) (substitute (d + k) u b)
unfolding substitute
substitute_two two_app d u a b = rw (add-zero d) refl
substitute_two two_castup d u a b = rw (add-zero d) refl
substitute_two two_lam d u a b = rw (add-one d) refl
substitute_two two_pi d u a b = rw (add-one d) refl
substitute_two two_mu d u a b = rw (add-one d) refl

pub scoped_two : {c : Term → Term → Term} {w k : ℕ} → Two c w k → (n : ℕ) (a b : Term) → Scoped n (c a b) → Scoped n a × Scoped (n + k) b
unfolding Scoped
scoped_two two_app n a b h = rw (add-zero n) h
scoped_two two_castup n a b h = rw (add-zero n) h
scoped_two two_lam n a b h = rw (add-one n) h
scoped_two two_pi n a b h = rw (add-one n) h
scoped_two two_mu n a b h = rw (add-one n) h

pub worded_two : {c : Term → Term → Term} {w k : ℕ} → Two c w k → (a b : Term) → Worded (c a b) → Worded a × Worded b
unfolding Worded
worded_two two_app a b h = h
worded_two two_castup a b h = h
worded_two two_lam a b h = h
worded_two two_pi a b h = h
worded_two two_mu a b h = h

pub binds_two : {c : Term → Term → Term} {w k : ℕ} → Two c w k → binds (meaning w) ≡ 0 ∷ k ∷ []
unfolding binds meaning
binds_two two_app = refl
binds_two two_castup = refl
binds_two two_lam = refl
binds_two two_pi = refl
binds_two two_mu = refl

pub word_two : {c : Term → Term → Term} {w k : ℕ} → Two c w k → (1 < w) × (w < 7)
word_two two_app = (omega arith, omega arith)
word_two two_castup = (omega arith, omega arith)
word_two two_lam = (omega arith, omega arith)
word_two two_pi = (omega arith, omega arith)
word_two two_mu = (omega arith, omega arith)
