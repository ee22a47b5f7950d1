-- DEMAND 2 for runs: "A run's states and step count are those of the published one_step relation", and so are the counts by kind of
-- document 02, 2.1.
use Rattle.std.specs.Prelude.{ℕ, ◌≤◌, ◌<◌, List, ◌≡◌, ◌↔◌, ◌⊎◌, length}
use Rattle.calculus.specs.Term.{Term, size}
use Rattle.calculus.specs.Answer.{ok, refused, Reason, number, work_short, output_short, caller_not_allowed}
use Rattle.calculus.specs.Words.{words, Codes, longest}
use Rattle.calculus.specs.Book.{Book, View, bodies}
use Rattle.calculus.specs.Reading.{Misread}
use Rattle.calculus.specs.Kinds.{Counts, total, Counted}
use Rattle.calculus.specs.Run.{State, End, at_value, at_stuck, Ends}
use Rattle.calculus.specs.Outcomes.{run_room, begun, cleared, Desk, last_caller, lowered, grant, Stop, Ran, run_over}

-- `Runs v Order ws budget caller desk W S c`: a run of the words `ws`, where the bodies that `v` shows unfold, with the working slice W
-- and the state slice S, leaves `c`. `Order` tells its end, as `Ends v` does.
pub data Runs (v : View) (Order : ℕ → ℕ → Term → End → Type 0) (ws : List ℕ) (budget caller : ℕ) (desk : Desk) (W S : List ℕ) : Ran → Type 0 where
  caller_refused : last_caller < caller
      → Runs v Order ws budget caller desk W S (record { answer = refused caller_not_allowed 0; desk = desk; work = W; state = S })
  work_refused : caller ≤ last_caller → length W < run_room
      → Runs v Order ws budget caller desk W S (record { answer = refused work_short 0; desk = desk; work = W; state = S })
  state_refused : caller ≤ last_caller → run_room ≤ length W → length S < longest
      → Runs v Order ws budget caller desk W S (record { answer = refused output_short 0; desk = desk; work = W; state = S })
  unread : {r : Reason} {p : ℕ} → caller ≤ last_caller → run_room ≤ length W → longest ≤ length S → Misread ws r p
      → Runs v Order ws budget caller desk W S (record { answer = refused r p; desk = desk; work = W; state = S })
  -- "A run that answers n steps has the states 0 to n; state n is the one with which its state slice then begins, and its end is the
  -- first under Calls that holds there." "Each count is the number of such steps in the definition, and the three add up to the
  -- total."
  ended : {E : End} {n : ℕ} {c : Counts} {t x : Term} → caller ≤ last_caller → run_room ≤ length W → longest ≤ length S
      → Codes 0 ws t → State v t n x → Counted v t c x → total c ≡ n
      → ((k : ℕ) (y : Term) → k ≤ n → State v t k y → size y ≤ longest)
      → n ≤ grant budget caller desk → Order (grant budget caller desk) n x E
      → Runs v Order ws budget caller desk W S (record {
        answer = ok (record { end = E; steps = n; counts = c });
        desk = lowered desk caller n;
        work = cleared run_room W;
        state = begun (words x) S;
      })

-- Answer, steps, counts, desk and every word of both slices, of every run over any book.
abbrev pub Demand2Run : Type 0
Demand2Run = (B : Book) (ws : List ℕ) (budget caller : ℕ) (desk : Desk) (W S : List ℕ) (c : Ran)
    → (run_over B ws budget caller desk W S ≡ c) ↔ Runs (bodies B) (Ends (bodies B)) ws budget caller desk W S c

-- Of every run that ends, the three counts add up to the steps.
abbrev pub CountsAddUp : Type 0
CountsAddUp = (B : Book) (ws : List ℕ) (budget caller : ℕ) (desk : Desk) (W S : List ℕ) (s : Stop)
    → (run_over B ws budget caller desk W S).answer ≡ ok s → total s.counts ≡ s.steps

-- The states with counts are the states, and the total of the counts is the number of the state.
abbrev pub CountsOfStates : Type 0
CountsOfStates = (v : View) (t : Term) (k : ℕ) (x : Term) → State v t k x ↔ ((c : Counts) × (total c ≡ k) × Counted v t c x)

-- An end with no step left to take.
abbrev pub Rests : End → Type 0
Rests E = (E ≡ at_value) ⊎ (E ≡ at_stuck)

-- A run that stopped by `s` and left `c`, if it came to rest, leaves the same with any grant of its steps or more, whoever the caller
-- is.
abbrev pub SameAgain : Book → List ℕ → List ℕ → List ℕ → Ran → Stop → Type 0
SameAgain B ws W S c s = (budget caller : ℕ) (desk : Desk) → caller ≤ last_caller → Rests s.end → s.steps ≤ grant budget caller desk
    → run_over B ws budget caller desk W S ≡ record { answer = ok s; desk = lowered desk caller s.steps; work = c.work; state = c.state }

-- Document 02, 2.2: "a budget of exactly the needed steps" is enough.
abbrev pub EnoughSteps : Type 0
EnoughSteps = (B : Book) (ws : List ℕ) (budget caller : ℕ) (desk : Desk) (W S : List ℕ) (s : Stop)
    → (run_over B ws budget caller desk W S).answer ≡ ok s → SameAgain B ws W S (run_over B ws budget caller desk W S) s

-- "A check refuses by 1–16, a run by 2–9", and by 21 (document 02, 2.9).
abbrev pub RunRefusals : Type 0
RunRefusals = (B : Book) (ws : List ℕ) (budget caller : ℕ) (desk : Desk) (W S : List ℕ) (r : Reason) (p : ℕ)
    → (run_over B ws budget caller desk W S).answer ≡ refused r p → ((2 ≤ number r) × (number r ≤ 9)) ⊎ (number r ≡ 21)
