-- WHAT CHANGED of the answers of earlier versions, and what stayed: of every call, on any words, numbers and slices.
use Rattle.std.specs.Prelude.{ℕ, ◌≤◌, ◌<◌, cond, List, ◌≡◌, ◌↔◌, ◌≢◌, leb, length, set}
use Rattle.calculus.specs.Term.{Term}
use Rattle.calculus.specs.Answer.{ok, refused, Reason, number, work_short}
use Rattle.calculus.specs.Words.{words, Codes}
use Rattle.calculus.specs.Book.{Book, View, bodies}
use Rattle.calculus.specs.Rules.{CanStep, Value}
use Rattle.calculus.specs.Kinds.{Counts}
use Rattle.calculus.specs.Run.{State, End, at_value, spent, at_stuck}
use Rattle.calculus.specs.Outcomes.{check_room, run_room, begun, cleared, check_over, Desk, last_caller, allowance_of, grant, Ran, run_over}
use Rattle.calculus.specs.Checks.{Allowed}
use Rattle.calculus.specs.Earlier as earlier

-- A RESULT ON THE LAST STEP (document 02, 2.2). `Becomes v g n x E E'`: after `n` of the `g` steps granted, at the state `x`, what was
-- the end E is the end E'. "The answers that change are the runs whose state after the whole grant is a value or stuck."
pub data Becomes (v : View) (g n : ℕ) (x : Term) : End → End → Type 0 where
  now_value : n ≡ g → Value x → Becomes v g n x spent at_value
  now_stuck : n ≡ g → ¬ Value x → ¬ CanStep v x → Becomes v g n x spent at_stuck
  still_spent : n ≡ g → CanStep v x → Becomes v g n x spent spent
  as_before : {E : End} → n < g → E ≢ spent → Becomes v g n x E E

-- At a state each end of before is one end now, and the other way round: the end that was told is known from the one that is.
abbrev pub OneForOne : Type 0
OneForOne = (v : View) (g n : ℕ) (x : Term) (E E' F F' : End) → Becomes v g n x E E' → Becomes v g n x F F' → (E ≡ F) ↔ (E' ≡ F')

-- `EndChanged v ws g S before after`: a run of the words `ws` at the view `v`, within the grant `g`, lent the state slice S, came to `before` and comes
-- to `after`. A refused run is the same. Of the others "[...] their steps and words stay": of a run that ends, its steps and counts,
-- the desk and every word of both slices are the same.
pub data EndChanged (v : View) (ws : List ℕ) (g : ℕ) (S : List ℕ) : Ran → Ran → Type 0 where
  refused_alike : {r : Reason} {p : ℕ} {desk : Desk} {W T : List ℕ}
      → EndChanged v ws g S (record { answer = refused r p; desk = desk; work = W; state = T })
      (record { answer = refused r p; desk = desk; work = W; state = T })
  ended_alike : {t x : Term} {E E' : End} {n : ℕ} {c : Counts} {desk : Desk} {W : List ℕ}
      → Codes 0 ws t → State v t n x → Becomes v g n x E E'
      → EndChanged v ws g S
      (record { answer = ok (record { end = E; steps = n; counts = c }); desk = desk; work = W; state = begun (words x) S })
      (record { answer = ok (record { end = E'; steps = n; counts = c }); desk = desk; work = W; state = begun (words x) S })

abbrev pub LastStep : Type 0
LastStep = (B : Book) (ws : List ℕ) (budget caller : ℕ) (desk : Desk) (W S : List ℕ)
    → EndChanged (bodies B) ws (grant budget caller desk) S (earlier.run_over B ws budget caller desk W S) (run_over B ws budget caller desk W S)

-- AN ALLOWANCE FOR EACH CALLER (document 02, 2.9). A caller of the desk gets what it got at a desk with its allowance alone: the answer,
-- the slices, and what is left of its allowance; the other allowances are the same.
abbrev pub AsAlone : Type 0
AsAlone = (B : Book) (ws : List ℕ) (budget caller : ℕ) (desk : Desk) (W S : List ℕ) → caller ≤ last_caller
    → let alone = earlier.run_alone B ws budget (allowance_of desk caller) W S in
    run_over B ws budget caller desk W S ≡ record {
      answer = alone.answer;
      desk = set desk caller (allowance_of alone.desk 0);
      work = alone.work;
      state = alone.state;
    }

-- LENGTHS KEPT BESIDE NODES (document 02, 2.12). "Every answer, place and output equals that of the old layout, given slices long
-- enough for both": a slice that has the present room has the earlier one. The answers that cleared the working slice clear it still,
-- over the present room.
abbrev pub SameCheck : Type 0
SameCheck = (B : Book) (o : ℕ) (ws : List ℕ) (L : ℕ) (W O : List ℕ) → check_room L ≤ length W
    → let before = earlier.check_plain B o ws L W O in
    check_over B o ws L W O ≡ record {
      answer = before.answer;
      work = elim before.answer [
        | ok n ↦ cleared (check_room L) W
        | refused r p ↦ cond (leb (number r) 9) W (cleared (check_room L) W)
      ];
      output = before.output;
    }

abbrev pub SameRun : Type 0
SameRun = (B : Book) (ws : List ℕ) (budget caller : ℕ) (desk : Desk) (W S : List ℕ) → run_room ≤ length W
    → let before = earlier.run_plain B ws budget caller desk W S in
    run_over B ws budget caller desk W S ≡ record {
      answer = before.answer;
      desk = before.desk;
      work = elim before.answer [ ok s ↦ cleared run_room W | refused r p ↦ W ];
      state = before.state;
    }

abbrev pub SameAsBefore : Type 0
SameAsBefore = SameCheck × SameRun

-- A working slice that is too short now is refused by 2, also where it was long enough.
abbrev pub ShorterRefused : Type 0
ShorterRefused = ((B : Book) (o : ℕ) (ws : List ℕ) (L : ℕ) (W O : List ℕ) → Allowed L → length W < check_room L
    → check_over B o ws L W O ≡ record { answer = refused work_short 0; work = W; output = O })
    × ((B : Book) (ws : List ℕ) (budget caller : ℕ) (desk : Desk) (W S : List ℕ) → caller ≤ last_caller → length W < run_room
    → run_over B ws budget caller desk W S ≡ record { answer = refused work_short 0; desk = desk; work = W; state = S })
