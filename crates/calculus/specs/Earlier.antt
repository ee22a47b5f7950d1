-- What an earlier version said, as far as the statements of `Changes` need it. Nothing else reads this file.
use Rattle.std.specs.Prelude.{ℕ, ◌*◌, ◌<◌, List, ◌≡◌, ◌↔◌}
use Rattle.calculus.specs.Term.{Term, size}
use Rattle.calculus.specs.Words.{longest}
use Rattle.calculus.specs.Book.{Book, View, bodies}
use Rattle.calculus.specs.Rules.{◌⊩◌⟶◌, CanStep, Value}
use Rattle.calculus.specs.Step.{Next, step}
use Rattle.calculus.specs.Run.{End, at_value, spent, at_stuck, too_long, run_until, run_from}
use Rattle.calculus.specs.Outcomes.{Checked, check_by, Desk, alone, Ran, run_by}
use Rattle.calculus.specs.Outcomes as now
use Rattle.calculus.specs.Runs.{Runs}

-- Until document 02, 2.2. Document 01: "Ends, tested in this order before each step: 2 spent, steps equal the grant; 1 value; 3 stuck;
-- 4 the next state is over 1,024 words."
pub data Ends (v : View) (g n : ℕ) (x : Term) : End → Type 0 where
  ends_spent : n ≡ g → Ends v g n x spent
  ends_value : n < g → Value x → Ends v g n x at_value
  ends_stuck : n < g → ¬ Value x → ¬ CanStep v x → Ends v g n x at_stuck
  ends_long : {y : Term} → n < g → v ⊩ x ⟶ y → longest < size y → Ends v g n x too_long

-- A run whose grant was used was spent, whatever its state does.
unfoldable pub last_end : Next → End
last_end m = spent

abbrev pub run_over : Book → List ℕ → ℕ → ℕ → Desk → List ℕ → List ℕ → Ran
run_over B = run_by now.run_room (run_until (step (bodies B)) last_end)

-- It is the run whose ends are those.
abbrev pub Demand2Run : Type 0
Demand2Run = (B : Book) (ws : List ℕ) (budget caller : ℕ) (desk : Desk) (W S : List ℕ) (c : Ran)
    → (run_over B ws budget caller desk W S ≡ c) ↔ Runs (bodies B) (Ends (bodies B)) ws budget caller desk W S c

-- Until document 02, 2.9. Document 01: "The desk is one 32-bit allowance of steps", and no run named its caller: it is the run of
-- caller 0 alone at the desk.
abbrev pub run_alone : Book → List ℕ → ℕ → ℕ → List ℕ → List ℕ → Ran
run_alone B ws budget allowance W S = now.run_over B ws budget 0 (alone allowance) W S

-- Until document 02, 2.12. Document 01: "512 × L words (check) or 4,096 words (run)". Terms lay in the working slice as plain words,
-- without the lengths of their subterms.
abbrev pub check_room : ℕ → ℕ
check_room L = 512 * L

abbrev pub run_room : ℕ
run_room = 4096

abbrev pub check_plain : Book → ℕ → List ℕ → ℕ → List ℕ → List ℕ → Checked
check_plain = check_by check_room

abbrev pub run_plain : Book → List ℕ → ℕ → ℕ → Desk → List ℕ → List ℕ → Ran
run_plain B = run_by run_room (run_from (step (bodies B)))
