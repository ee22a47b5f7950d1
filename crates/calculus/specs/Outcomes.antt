-- The outcomes of the calls `check`, `run` and `part` (document 01, Calls) for any lists of words and any numbers: the answer and
-- every word of every lent slice. `ws` is the caller's list, W the working slice, O the output slice, S the state slice, L the limit.
use Rattle.std.specs.Prelude.{ℕ, zero, suc, ◌+◌, ◌-◌, ◌*◌, min, cond, ◌&&◌, List, [], ◌∷◌, ◌++◌, leb, length, take, drop, replicate, get_or, set}
use Rattle.calculus.specs.Term.{Term, var, star, app, lam, pi, castup, castdown, mu, name, size}
use Rattle.calculus.specs.Answer.{Answer, ok, refused, ◌>>=◌, ◌>>◌, require, number, limit_not_allowed, work_short, output_short, caller_not_allowed}
use Rattle.calculus.specs.Words.{words, longest}
use Rattle.calculus.specs.Scan.{read}
use Rattle.calculus.specs.Kinds.{Counts}
use Rattle.calculus.specs.Book.{Book, types, bodies, seen}
use Rattle.calculus.specs.Step.{step}
use Rattle.calculus.specs.Infer.{infer}
use Rattle.calculus.specs.Run.{End, Ended, run_from}

-- A limit is one of 1–1,024.
abbrev pub largest_limit : ℕ
largest_limit = 1024

-- The room that each call asks for: "Working slices need 1,024 × L words for a check and 8,192 for a run, in place of 512 × L and 4,096
-- wherever 01 says these" (document 02, 2.12).
abbrev pub check_room : ℕ → ℕ
check_room L = 1024 * L

abbrev pub run_room : ℕ
run_room = 8192

-- A slice whose first words are `front`, "the rest unchanged".
unfoldable pub begun : List ℕ → List ℕ → List ℕ
begun front slice = front ++ drop (length front) slice

-- "Its first [n] words are 0, the rest unchanged."
unfoldable pub cleared : ℕ → List ℕ → List ℕ
cleared n slice = begun (replicate n 0) slice

-- A check: the length of the type, or the refusal; and the two lent slices.
pub record Checked : Type 0 where
  pub answer : Answer ℕ
  pub work : List ℕ
  pub output : List ℕ

-- The refusals in document 01's order, where the working slice is to have `room` words, and otherwise the type, over the book B for
-- the owner `o`.
unfoldable pub verdict : ℕ → Book → ℕ → List ℕ → ℕ → List ℕ → List ℕ → Answer Term
verdict room B o ws L W O = do
  require limit_not_allowed 0 (leb 1 L && leb L largest_limit)
  require work_short 0 (leb room (length W))
  require output_short 0 (leb L (length O))
  t ← read ws
  infer (types B) (step (seen o B)) L [] 0 t

-- "Accepted: the first n output words are the type, the rest unchanged." "Refusals 1–9 leave the working slice too. After any other
-- answer its first [room] words [...] are 0, the rest unchanged."
unfoldable pub checked : ℕ → List ℕ → List ℕ → Answer Term → Checked
checked room W O (ok τ) = record { answer = ok (size τ); work = cleared room W; output = begun (words τ) O }
checked room W O (refused r p) = record { answer = refused r p; work = cond (leb (number r) 9) W (cleared room W); output = O }

-- A check with the room that a limit asks for: its verdict, and what it leaves in the slices.
unfoldable pub check_by : (ℕ → ℕ) → Book → ℕ → List ℕ → ℕ → List ℕ → List ℕ → Checked
check_by room B o ws L W O = checked (room L) W O (verdict (room L) B o ws L W O)

abbrev pub check_over : Book → ℕ → List ℕ → ℕ → List ℕ → List ℕ → Checked
check_over = check_by check_room

-- A call that is lent no book is over the empty one, of which every owner sees the same.
abbrev pub check : List ℕ → ℕ → List ℕ → List ℕ → Checked
check = check_over [] 0

-- "The desk holds eight allowances, and a run names its caller, 0–7" (document 02, 2.9). Here it may hold any number of them.
abbrev pub Desk : Type 0
Desk = List ℕ

abbrev pub last_caller : ℕ
last_caller = 7

-- The desk of caller 0 alone: an allowance for it, and none for the others.
abbrev pub alone : ℕ → Desk
alone allowance = allowance ∷ replicate last_caller 0

-- The allowance of a caller, 0 where the desk has none.
abbrev pub allowance_of : Desk → ℕ → ℕ
allowance_of desk caller = get_or desk caller 0

-- "Only that caller's allowance falls."
unfoldable pub lowered : Desk → ℕ → ℕ → Desk
lowered desk caller n = set desk caller (allowance_of desk caller - n)

-- "The grant is the smaller of budget and allowance", which is the caller's.
abbrev pub grant : ℕ → ℕ → Desk → ℕ
grant budget caller desk = min budget (allowance_of desk caller)

-- A run: its end and its steps, in all and by kind, or the refusal; the desk; and the two lent slices.
pub record Stop : Type 0 where
  pub end : End
  pub steps : ℕ
  pub counts : Counts

-- "The run answers its end, the steps taken and the desk with the allowance lowered by exactly those steps."
pub record Ran : Type 0 where
  pub answer : Answer Stop
  pub desk : Desk
  pub work : List ℕ
  pub state : List ℕ

-- "21 a caller above 7, place 0, tested before all others", the refusals in document 01's order, where the working slice is to have
-- `room` words, and otherwise the run within the grant `g`, which `go` is.
unfoldable pub course : ℕ → (ℕ → Term → Ended) → List ℕ → ℕ → ℕ → List ℕ → List ℕ → Answer Ended
course room go ws g caller W S = do
  require caller_not_allowed 0 (leb caller last_caller)
  require work_short 0 (leb room (length W))
  require output_short 0 (leb longest (length S))
  t ← read ws
  ok (go g t)

-- "The desk with the allowance lowered by exactly those steps. [...] A refused call leaves output, state and desk unchanged."
unfoldable pub ran : ℕ → ℕ → Desk → List ℕ → List ℕ → Answer Ended → Ran
ran room caller desk W S (ok e) =
    record {
      answer = ok (record { end = e.end; steps = e.steps; counts = e.counts });
      desk = lowered desk caller e.steps;
      work = cleared room W;
      state = begun (words e.state) S;
    }
ran room caller desk W S (refused r p) = record { answer = refused r p; desk = desk; work = W; state = S }

-- A run with the room that it asks for: its course, and what it leaves on the desk and in the slices.
unfoldable pub run_by : ℕ → (ℕ → Term → Ended) → List ℕ → ℕ → ℕ → Desk → List ℕ → List ℕ → Ran
run_by room go ws budget caller desk W S = ran room caller desk W S (course room go ws (grant budget caller desk) caller W S)

-- "Runs unfold all."
abbrev pub run_over : Book → List ℕ → ℕ → ℕ → Desk → List ℕ → List ℕ → Ran
run_over B = run_by run_room (run_from (step (bodies B)))

abbrev pub run : List ℕ → ℕ → ℕ → Desk → List ℕ → List ℕ → Ran
run = run_over []

-- A part lookup as a function: where the part stands in the caller's own words. "For a list that is no closed term, and for a part
-- that isn't there, it hands back an empty part", here at place 0. Believed only through the theorems of `Parts`. (`length` is the
-- library's of lists.)
pub record Found : Type 0 where
  pub start : ℕ
  pub extent : ℕ

-- The empty part.
abbrev pub absent : Found
absent = record { start = 0; extent = 0 }

-- The parts of a node, in the order in which they follow its word.
unfoldable pub parts : Term → List Term
parts (var i) = []
parts star = []
parts (app f u) = f ∷ u ∷ []
parts (lam a e) = a ∷ e ∷ []
parts (pi a b) = a ∷ b ∷ []
parts (castup a e) = a ∷ e ∷ []
parts (castdown e) = e ∷ []
parts (mu a e) = a ∷ e ∷ []
parts (name i) = []

-- Part 1, 2, … of a list of parts of which the first stands at `place`.
unfoldable pub nth_part : List Term → ℕ → ℕ → Found
nth_part [] k place = absent
nth_part (e ∷ es) zero place = absent
nth_part (e ∷ es) (suc zero) place = record { start = place; extent = size e }
nth_part (e ∷ es) (suc (suc k)) place = nth_part es (suc k) (place + size e)

-- In what was read.
unfoldable pub found_in : ℕ → Answer Term → Found
found_in k (ok t) = nth_part (parts t) k 1
found_in k (refused r p) = absent

-- In the caller's list, which is read as a check reads it.
unfoldable pub found : List ℕ → ℕ → Found
found ws k = found_in k (read ws)

-- "that part of the caller's own words": what stands there.
unfoldable pub part : List ℕ → ℕ → List ℕ
part ws k = take (found ws k).extent (drop (found ws k).start ws)
