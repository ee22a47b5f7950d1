-- What the report program prints, from the bytes that it reads (document 01, The report program).
use Rattle.std.specs.Prelude.{ℕ, min, List, [], ◌∷◌, ◌++◌, ◌≡◌, take}
use Prim.Native.String.{String}
use Rattle.calculus.specs.Term.{Term}
use Rattle.calculus.specs.Answer.{Answer, ok, refused, ◌>>=◌, ◌>>◌, require, number, length_not_allowed}
use Rattle.calculus.specs.Words.{words}
use Rattle.calculus.specs.Scan.{read}
use Rattle.calculus.specs.Book.{types, bodies, seen}
use Rattle.calculus.specs.Step.{step}
use Rattle.calculus.specs.Infer.{infer}
use Rattle.calculus.specs.Run.{Ended, run_from, end_number}
use Rattle.text.specs.Pairs.{pairs, allowed}
use Rattle.text.specs.Texts.{ascii, decimal, list}

-- "L is 32, budget and allowance 1,000."
abbrev pub limit : ℕ
limit = 32

abbrev pub budget : ℕ
budget = 1000

abbrev pub allowance : ℕ
allowance = 1000

-- The type of a term, and its run: both over the empty book.
abbrev pub type_of : Term → Answer Term
type_of t = infer (types []) (step (seen 0 [])) limit [] 0 t

abbrev pub run_of : Term → Ended
run_of t = run_from (step (bodies [])) (min budget allowance) t

-- The type and the run of the term that a list of words is, or the first refusal. "A refused term isn't run."
unfoldable pub judged : List ℕ → Answer (Term × Ended)
judged ws = do
  t ← read ws
  τ ← type_of t
  ok (τ, run_of t)

-- "An odd number of bytes, or over 2,048, is answer 4."
unfoldable pub outcome : List ℕ → Answer (Term × Ended)
outcome bytes = do
  require length_not_allowed 0 (allowed bytes)
  judged (pairs bytes)

-- "Answer (0 or a refusal), place, type, end, steps, state."
pub record Lines : Type 0 where
  pub answer : ℕ
  pub place : ℕ
  pub type : List ℕ
  pub end : ℕ
  pub steps : ℕ
  pub state : List ℕ

-- "A refused term isn't run: end and steps 0, both lists empty."
unfoldable pub told : Answer (Term × Ended) → Lines
told (ok (τ, e)) =
    record {
      answer = 0;
      place = 0;
      type = words τ;
      end = end_number e.end;
      steps = e.steps;
      state = words e.state;
    }
told (refused r p) = record { answer = number r; place = p; type = []; end = 0; steps = 0; state = [] }

-- A name and its value, with a line feed.
unfoldable pub line : String → List ℕ → List ℕ
line name value = ascii name ++ value ++ (10 ∷ [])

-- "Six lines, in order". "Lists are decimal words parted by one space."
unfoldable pub printed : Lines → List ℕ
printed l =
    line "answer=" (decimal l.answer)
    ++ line "place=" (decimal l.place)
    ++ line "type=" (list l.type)
    ++ line "end=" (decimal l.end)
    ++ line "steps=" (decimal l.steps)
    ++ line "state=" (list l.state)

-- The report, byte by byte.
unfoldable pub report_of : List ℕ → List ℕ
report_of bytes = printed (told (outcome bytes))

-- The program reads 2,049 bytes at most: the report on them is the report on all that there are.
abbrev pub Enough : Type 0
Enough = (bytes : List ℕ) → report_of (take 2049 bytes) ≡ report_of bytes

-- "For the bytes 01 00 03 00 02 00 04 00 00 00 10 00 00 00 00 00 (hexadecimal) it prints" these lines.
abbrev pub Example : Type 0
Example =
    report_of (1 ∷ 0 ∷ 3 ∷ 0 ∷ 2 ∷ 0 ∷ 4 ∷ 0 ∷ 0 ∷ 0 ∷ 16 ∷ 0 ∷ 0 ∷ 0 ∷ 0 ∷ 0 ∷ [])
    ≡ ascii "answer=0\nplace=0\ntype=0\nend=1\nsteps=1\nstate=0\n"
