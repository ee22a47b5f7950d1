-- How long a report is: six names and line feeds, four numbers of at most ten digits, and six bytes at most for each word. So its
-- lines are whole on a page with that room.
use Prim.Native.Nat.{ℕ, ◌+◌, ◌*◌, ◌≤◌}
use Prim.Native.String.{String}
use mathlib.Core.List.{List, [], ◌∷◌, ◌++◌}
use mathlib.Core.Path.{◌≡◌}
use native.Mathlib.Omega.{arith}
use lib.ListN.{length, length-append}
use Rattle.text.specs.Texts.{ascii, decimal, list}
use Rattle.report.specs.Report.{Lines, line, printed}

line_length : (name : String) (value : List ℕ) → length (line name value) ≡ length (ascii name) + length value + 1
unfolding line
line_length name value = omega (arith, length-append (ascii name ++ value) (10 ∷ []), length-append (ascii name) value)

pub record Short (l : Lines) : Type 0 where
  pub answer : length (decimal l.answer) ≤ 10
  pub place : length (decimal l.place) ≤ 10
  pub type : length (list l.type) ≤ 6 * length l.type
  pub end : length (decimal l.end) ≤ 10
  pub steps : length (decimal l.steps) ≤ 10
  pub state : length (list l.state) ≤ 6 * length l.state

pub printed_length : (l : Lines) → Short l → length (printed l) ≤ 80 + 6 * (length l.type + length l.state)
unfolding printed ascii
printed_length l h =
    let a : List ℕ = line "answer=" (decimal l.answer) in
    let b : List ℕ = line "place=" (decimal l.place) in
    let c : List ℕ = line "type=" (list l.type) in
    let d : List ℕ = line "end=" (decimal l.end) in
    let e : List ℕ = line "steps=" (decimal l.steps) in
    let f : List ℕ = line "state=" (list l.state) in
    omega (
      arith,
      length-append (a ++ b ++ c ++ d ++ e) f,
      length-append (a ++ b ++ c ++ d) e,
      length-append (a ++ b ++ c) d,
      length-append (a ++ b) c,
      length-append a b,
      line_length "answer=" (decimal l.answer),
      line_length "place=" (decimal l.place),
      line_length "type=" (list l.type),
      line_length "end=" (decimal l.end),
      line_length "steps=" (decimal l.steps),
      line_length "state=" (list l.state),
      h.answer,
      h.place,
      h.type,
      h.end,
      h.steps,
      h.state,
    )
