-- The text of the answer to a request (docs/FORMAT.md, The line protocol), from the outcomes of the calculus, and what the answer
-- leaves in the working slice.
use Rattle.std.specs.Prelude.{ℕ, Bool, true, false, cond, Option, Some, List, [], ◌∷◌, ◌++◌, ◌≡◌, eqb, take, replicate}
use Rattle.calculus.specs.Answer.{Answer, ok, refused, number}
use Rattle.calculus.specs.Kinds.{Counts, counts}
use Rattle.calculus.specs.Run.{end_number}
use Rattle.calculus.specs.Outcomes.{Checked, check, alone, allowance_of, Stop, Ran, run, part}
use Rattle.term.specs.Walk.{span}
use Rattle.feguavy.specs.declared.RanNumbers.{RanNumbers}
use Rattle.text.specs.Appending.{appended}
use Rattle.text.specs.Texts.{ascii, spaced}
use Rattle.protocol.specs.Forms.{asked}
use Rattle.protocol.specs.declared.asked.Asked.{Asked}
use Rattle.protocol.specs.declared.asked.Asked.TheVariants.{Check, Run, Kinds, Part}
use Rattle.protocol.specs.declared.request.Request.{Request}

-- `refused REASON PLACE`.
unfoldable pub refusal_line : ℕ → ℕ → List ℕ
refusal_line reason place = ascii "refused" ++ spaced (reason ∷ place ∷ [])

-- `typed | WORDS`: the type is the first words of the output slice, as many as the check answers.
unfoldable pub typed_line : Answer ℕ → List ℕ → List ℕ
typed_line (ok n) O = ascii "typed |" ++ spaced (take n O)
typed_line (refused r p) O = refusal_line (number r) p

abbrev pub checked_line : Checked → List ℕ
checked_line c = typed_line c.answer c.output

-- The counts `BETA MU CANCEL`, where they are asked for.
abbrev pub by_kind : Bool → Counts → List ℕ
by_kind kinds c = cond kinds (c.substitutions ∷ c.unfoldings ∷ c.cancellations ∷ []) []

-- The numbers of a run that ended: `END STEPS LEFT`, with the counts behind the steps where they are asked for.
abbrev pub told : Bool → ℕ → ℕ → Counts → ℕ → List ℕ
told kinds end steps c left = ((end ∷ steps ∷ []) ++ by_kind kinds c) ++ (left ∷ [])

-- `ran NUMBERS | WORDS`: the state is the first term in the state slice.
unfoldable pub ended_line : Bool → Answer Stop → ℕ → List ℕ → List ℕ
ended_line kinds (ok s) left S =
    ascii "ran" ++ spaced (told kinds (end_number s.end) s.steps s.counts left) ++ ascii " |" ++ spaced (take (span S 1) S)
ended_line kinds (refused r p) left S = refusal_line (number r) p

-- `LEFT` is what is left to the caller.
abbrev pub ran_line : Bool → ℕ → Ran → List ℕ
ran_line kinds caller c = ended_line kinds c.answer (allowance_of c.desk caller) c.state

-- The same from the numbers of the export and its state slice; first what stands before the words.
abbrev pub end_line : Bool → ℕ → RanNumbers → List ℕ
end_line kinds caller n =
    let c = counts n.substitutions n.unfoldings n.cancellations in
    ascii "ran" ++ spaced (told kinds n.end n.steps c (allowance_of n.desk.allowances caller)) ++ ascii " |"

unfoldable pub numbers_line : Bool → ℕ → RanNumbers → List ℕ → List ℕ
numbers_line kinds caller n S =
    cond (eqb n.answer 0) (end_line kinds caller n ++ spaced (take (span S 1) S)) (refusal_line n.answer n.place)

-- `part | WORDS`.
abbrev pub part_line : List ℕ → List ℕ
part_line ws = ascii "part |" ++ spaced ws

-- An answer: its text, and the working slice behind it.
pub record Reply : Type 0 where
  pub text : List ℕ
  pub work : List ℕ

-- The output slice and the state slice are lent with 1,024 words, all 0.
abbrev pub lent : List ℕ
lent = replicate 1024 0

abbrev pub check_reply : List ℕ → ℕ → List ℕ → Reply
check_reply ws L W = record { text = checked_line (check ws L W lent); work = (check ws L W lent).work }

-- A run of caller 0, alone at the desk.
abbrev pub run_reply : Bool → List ℕ → ℕ → ℕ → List ℕ → Reply
run_reply kinds ws budget allowance W =
    let c = run ws budget 0 (alone allowance) W lent in
    record { text = ran_line kinds 0 c; work = c.work }

abbrev pub part_reply : List ℕ → ℕ → List ℕ → Reply
part_reply ws k W = record { text = part_line (part ws k); work = W }

-- The reply to a request, whose term is the first of the words kept. "Anything else: `error`".
abbrev pub reply_to : Option Asked → List ℕ → List ℕ → Reply
reply_to (Some (Check limit)) ws W = check_reply ws limit W
reply_to (Some (Run budget allowance)) ws W = run_reply false ws budget allowance W
reply_to (Some (Kinds budget allowance)) ws W = run_reply true ws budget allowance W
reply_to (Some (Part number)) ws W = part_reply ws number W
reply_to _ ws W = record { text = ascii "error"; work = W }

unfoldable pub reply : Request → List ℕ → List ℕ → Reply
reply q ws W = reply_to (asked q) (take q.count ws) W

-- "One answer a line": the reply with a line feed behind its text.
abbrev pub ended_by_feed : Reply → Reply
ended_by_feed a = record { text = a.text ++ (10 ∷ []); work = a.work }

-- `Replies N a W' page page'`: the text of the reply is appended to a page of N bytes, and the working slice is left as the reply says.
pub record Replies (N : ℕ) (a : Reply) (W' page page' : List ℕ) : Type 0 where
  pub text : page' ≡ appended N page a.text
  pub work : W' ≡ a.work
