-- What the inner functions of a run answer and leave in the slices.
use Rattle.std.specs.Prelude.{ℕ, ◌*◌, ◌≤◌, ◌<◌, Bool, true, false, List, ◌≡◌, take, drop, Result, Ok, Err}
use Rattle.calculus.specs.Term.{Term, size}
use Rattle.calculus.specs.Words.{words, Scoped, Named, longest}
use Rattle.calculus.specs.Kinds.{total}
use Rattle.calculus.specs.Step as calculus
use Rattle.calculus.specs.Answer.{ok}
use Rattle.calculus.specs.Run.{End, Ended}
use Rattle.calculus.specs.Outcomes as outcomes
use Rattle.term.specs.Kept.{kept}
use Rattle.reduction.specs.declared.stepping.Kind.{Kind}
use Rattle.reduction.specs.declared.stepping.Stepped.{Stepped}
use Rattle.reduction.specs.declared.stepping.Halt.{Halt}
use Rattle.reduction.specs.declared.stepping.Halt.TheVariants as halt
use Rattle.reduction.specs.Stepping.{kind_of}
use Rattle.evaluation.specs.declared.Steps.{Steps}
use Rattle.evaluation.specs.declared.Course.{Course}
use Rattle.evaluation.specs.Outcomes.{counts_of, end_of}

-- Of the two buffers between which a state moves, the one that is lent and the other.
unfoldable pub buffer : Bool → List ℕ → List ℕ → List ℕ
buffer true work other = work
buffer false work other = other

-- The closed term `x` of `count` nodes, at most 1,024, which names definitions below `N` alone, is kept at the front of a buffer.
pub record Holds (N : ℕ) (slice : List ℕ) (count : ℕ) (x : Term) : Type 0 where
  pub front : take (2 * count) slice ≡ kept x
  pub extent : count ≡ size x
  pub short : size x ≤ longest
  pub closed : Scoped 0 x
  pub named : Named N x

-- One step of a state: the next state is kept at the front of the buffer `next`, where there is one and it fits.
unfoldable pub Advances : ℕ → calculus.Next → Result Stepped Halt → List ℕ → Type 0
Advances N calculus.value r next = r ≡ Err halt.Value
Advances N calculus.stuck r next = r ≡ Err halt.Stuck
Advances N (calculus.next k y) r next =
    (K : Kind)
    × (kind_of K ≡ k)
    × (size y ≤ longest → (r ≡ Ok (record { kind = K; length = size y })) × Holds N next (size y) y)
    × (longest < size y → r ≡ Err halt.Full)

-- The counts by kind are the steps in all.
abbrev pub AddUp : Steps → Type 0
AddUp s = total (counts_of s) ≡ s.total

-- A course as the calculus has it, with the last state at the front of the buffer `last`.
pub record Goes (N : ℕ) (e : Ended) (r : Course) (last : List ℕ) : Type 0 where
  pub end : end_of r.end ≡ e.end
  pub steps : r.steps.total ≡ e.steps
  pub counts : counts_of r.steps ≡ e.counts
  pub holds : Holds N last r.length e.state

-- A course as the calculus has it: its last state is handed over; behind the room of a buffer the working slice is as it was.
pub record Performs (e : Ended) (work state : List ℕ) (r : Course) (work' state' : List ℕ) : Type 0 where
  pub end : end_of r.end ≡ e.end
  pub steps : r.steps.total ≡ e.steps
  pub counts : counts_of r.steps ≡ e.counts
  pub handed : state' ≡ outcomes.begun (words e.state) state
  pub behind : drop (2 * longest) work' ≡ drop (2 * longest) work

-- What a run that ended leaves.
abbrev pub ended : End → Steps → ℕ → outcomes.Desk → List ℕ → List ℕ → outcomes.Ran
ended e s caller desk work state =
    record {
      answer = ok (record { end = e; steps = s.total; counts = counts_of s });
      desk = outcomes.lowered desk caller s.total;
      work = outcomes.cleared outcomes.run_room work;
      state = state;
    }
