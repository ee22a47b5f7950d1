-- Steps by kind (document 02, 2.1): "Each step shall tell its rule: substitution (S_BETA), unfolding (S_MU) or cancelled cast
-- (S_CASTDOWNUP), whatever S_APP and S_CASTDOWN surround it." A name that steps to its body is "counted as unfolding" (2.3).
use Rattle.std.specs.Prelude.{ℕ, suc, ◌+◌, ◌≡◌}
use Rattle.calculus.specs.Term.{Term}
use Rattle.calculus.specs.Book.{View}
use Rattle.calculus.specs.Rules.{◌⊩◌⟶◌, s_beta, s_castdownup, s_app, s_castdown, s_mu, s_name}

pub data Kind : Type 0 where
  by_substitution by_unfolding by_cancellation : Kind

-- The kind of a step, read off its derivation.
unfoldable pub kind : {v : View} {x y : Term} → v ⊩ x ⟶ y → Kind
kind s_beta = by_substitution
kind s_castdownup = by_cancellation
kind (s_app s) = kind s
kind (s_castdown s) = kind s
kind s_mu = by_unfolding
kind (s_name e) = by_unfolding

-- A step has one kind: any two steps from a term have the same.
abbrev pub OneKind : Type 0
OneKind = (v : View) (x y z : Term) (s : v ⊩ x ⟶ y) (r : v ⊩ x ⟶ z) → kind s ≡ kind r

-- "A run returns three counts beside the total."
pub record Counts : Type 0 where
  pub substitutions : ℕ
  pub unfoldings : ℕ
  pub cancellations : ℕ

-- So many steps of each kind.
abbrev pub counts : ℕ → ℕ → ℕ → Counts
counts s u c = record { substitutions = s; unfoldings = u; cancellations = c }

-- One step more, of a kind.
unfoldable pub counting : Kind → Counts → Counts
counting by_substitution c = counts (suc c.substitutions) c.unfoldings c.cancellations
counting by_unfolding c = counts c.substitutions (suc c.unfoldings) c.cancellations
counting by_cancellation c = counts c.substitutions c.unfoldings (suc c.cancellations)

-- "[...] and the three add up to the total."
unfoldable pub total : Counts → ℕ
total c = c.substitutions + c.unfoldings + c.cancellations

-- `Counted v t c x`: the steps from `t` to its state `x` are, kind by kind, so many. "Each count is the number of such steps in the
-- definition [...]."
pub data Counted (v : View) (t : Term) : Counts → Term → Type 0 where
  counted_none : Counted v t (counts 0 0 0) t
  counted_more : {c : Counts} {x y : Term} → Counted v t c x → (s : v ⊩ x ⟶ y) → Counted v t (counting (kind s) c) y
