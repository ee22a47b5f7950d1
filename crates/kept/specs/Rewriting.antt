-- What raising and substitution over kept terms are asked, and how parts without variables are known.
use Rattle.std.specs.Prelude.{ℕ, zero, suc, ◌+◌, ◌-◌, ◌*◌, ◌≤◌, ◌<◌, Bool, true, cond, List, [], ◌∷◌, ◌≡◌, ltb, length, drop, get_or}
use Rattle.calculus.specs.Term.{Term, size}
use Rattle.calculus.specs.Words.{Scoped, longest, deepest}
use Rattle.term.specs.Kept.{Lies, kept}

-- How many of the first `n` nodes stand before the first variable or name, the word of which is 16 or more.
unfoldable pub clear_run : List ℕ → ℕ → ℕ
clear_run [] n = 0
clear_run (w ∷ []) n = 0
clear_run (w ∷ l ∷ ws) zero = 0
clear_run (w ∷ l ∷ ws) (suc n) = cond (ltb w 16) (suc (clear_run ws n)) 0

-- For each node from `from` up to `to`, `first` has the first variable or name at or behind it, `to` where there is none.
pub record FirstVariables (source : List ℕ) (from to : ℕ) (first : List ℕ) : Type 0 where
  pub wide : length first ≡ longest
  pub each : (n : ℕ) → from ≤ n → n < to → get_or first n 0 ≡ n + clear_run (drop (2 * n) source) (to - n)

-- A term that is raised or put in: of at most 1,024 nodes, in a context of at most 64 annotations.
pub record Fits (t : Term) : Type 0 where
  pub short : size t ≤ longest
  pub scoped : Scoped deepest t

-- The subterm `e` that is rewritten under `depth` binders: it stands at a node. So many variables are free in it at most: 64, the one
-- that is put in for, and those of the binders crossed, which are fewer than the nodes. So no word leaves 16 bits.
pub record Subject (e : Term) (slice : List ℕ) (node depth : ℕ) : Type 0 where
  pub lies : Lies e slice node
  pub scoped : Scoped (suc deepest + depth) e
  pub near : depth + size e ≤ longest

-- `first` tells the variables of the nodes of the subterm `e` at a node, and maybe of some behind them.
pub record Surveyed (e : Term) (slice : List ℕ) (node : ℕ) (first : List ℕ) : Type 0 where
  pub to : ℕ
  pub reach : node + size e ≤ to
  pub within : to ≤ longest
  pub firsts : FirstVariables slice node to first

-- The argument `u` that is put in, and whether it is known to be closed: then it is put in as it stands.
pub record Argument (u : Term) (argument : List ℕ) (closed : Bool) : Type 0 where
  pub coded : argument ≡ kept u
  pub fits : Fits u
  pub shut : closed ≡ true → Scoped 0 u
