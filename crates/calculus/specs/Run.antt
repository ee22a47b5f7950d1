-- Runs (document 01, Calls): the states by the published relation, and a run as a function beside them, believed only through the
-- theorem of demand 2.
use Rattle.std.specs.Prelude.{ℕ, zero, suc, ◌≤◌, ◌<◌, cond, ◌≡◌, leb}
use Rattle.calculus.specs.Term.{Term, size}
use Rattle.calculus.specs.Words.{longest}
use Rattle.calculus.specs.Book.{View}
use Rattle.calculus.specs.Rules.{◌⊩◌⟶◌, CanStep, Value}
use Rattle.calculus.specs.Kinds.{Kind, Counts, counts, counting}
use Rattle.calculus.specs.Step.{Next, value, stuck, next}

-- "State 0 of a run is its term, and state k + 1 is the next state of state k by the one_step rules."
pub data State (v : View) (t : Term) : ℕ → Term → Type 0 where
  state_zero : State v t zero t
  state_suc : {k : ℕ} {x y : Term} → State v t k x → v ⊩ x ⟶ y → State v t (suc k) y

-- "Ends [...]: 2 spent, steps equal the grant; 1 value; 3 stuck; 4 the next state is over 1,024 words."
pub data End : Type 0 where
  at_value spent at_stuck too_long : End

-- Document 01's number of each end.
unfoldable pub end_number : End → ℕ
end_number at_value = 1
end_number spent = 2
end_number at_stuck = 3
end_number too_long = 4

-- The numbers tell the ends apart.
abbrev pub EndNumbersApart : Type 0
EndNumbersApart = (a b : End) → end_number a ≡ end_number b → a ≡ b

-- `Ends v g n x E`: after `n` of the `g` steps granted, at the state `x`, the run's end is E, the first that holds there. "The ends are
-- now tested in the order value, stuck, spent, too long" (document 02, 2.2): a run is spent where its grant is used and its state can
-- step.
pub data Ends (v : View) (g n : ℕ) (x : Term) : End → Type 0 where
  ends_value : n ≤ g → Value x → Ends v g n x at_value
  ends_stuck : n ≤ g → ¬ Value x → ¬ CanStep v x → Ends v g n x at_stuck
  ends_spent : n ≡ g → CanStep v x → Ends v g n x spent
  ends_long : {y : Term} → n < g → v ⊩ x ⟶ y → longest < size y → Ends v g n x too_long

-- What a run comes to: its end, its steps, in all and by kind, and its last state.
pub record Ended : Type 0 where
  pub end : End
  pub steps : ℕ
  pub counts : Counts
  pub state : Term

-- At the state `x`, with no step more.
unfoldable pub done : End → Term → Ended
done E x = record { end = E; steps = 0; counts = counts 0 0 0; state = x }

-- The same, begun one step earlier, which is of some kind.
unfoldable pub one_more : Kind → Ended → Ended
one_more k r = record { end = r.end; steps = suc r.steps; counts = counting k r.counts; state = r.state }

-- The run on from the state `x`, by its next state; `go` is the run within one step less.
unfoldable pub advance : (Term → Ended) → Term → Next → Ended
advance go x value = done at_value x
advance go x stuck = done at_stuck x
advance go x (next k y) = cond (leb (size y) longest) (one_more k (go y)) (done too_long x)

-- The end of a run whose grant is used, by what its state does.
unfoldable pub last_end : Next → End
last_end value = at_value
last_end stuck = at_stuck
last_end (next k y) = spent

-- The run from the state `x` within a grant, by a step function; `last` tells its end where the grant is used.
unfoldable pub run_until : (Term → Next) → (Next → End) → ℕ → Term → Ended
run_until step last zero x = done (last (step x)) x
run_until step last (suc g) x = advance (run_until step last g) x (step x)

abbrev pub run_from : (Term → Next) → ℕ → Term → Ended
run_from step = run_until step last_end
