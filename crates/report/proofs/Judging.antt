-- What the calls of a check and of a run tell. Their slices are as long as the calls ask for, so each answers what the calculus says
-- of the words alone: the type stands at the start of the output slice, and the last state at the start of the state slice, where
-- a walk finds its length.
use Prim.Native.Nat.{ℕ, ◌≤◌}
use mathlib.Core.List.{List, []}
use mathlib.Core.Path.{◌≡◌, refl, sym, ap, ap₂, ◌∙◌}
use native.Mathlib.Omega.{arith}
use lib.ListN.{length, take, drop, replicate, length-append, length-drop}
use lib.Seq.{take_at}
use Rattle.calculus.specs.Term.{Term, size}
use Rattle.calculus.specs.Answer.{Reason, Answer, ok, refused, ◌>>=◌, ◌>>◌, require}
use Rattle.calculus.specs.Words.{words, longest}
use Rattle.calculus.specs.Scan.{read}
use Rattle.calculus.specs.Run.{Ended}
use Rattle.calculus.specs.Outcomes.{check_room, run_room, begun, cleared, verdict, checked, check_by, check, alone, course, ran, run_by, run}
use Rattle.calculus.proofs.Comparisons.{le_leb}
use Rattle.calculus.proofs.Coding.{emit_append, words_length}
use Rattle.calculus.proofs.NumberInjective.{number_not_zero}
use Rattle.term.specs.Walk.{span}
use Rattle.term.proofs.Walking.{span_emit}
use Rattle.feguavy.specs.Numbers.{checked_numbers, NumberedCheck, ran_numbers, NumberedRun}
use Rattle.feguavy.specs.declared.CheckedNumbers.{CheckedNumbers}
use Rattle.feguavy.specs.declared.RanNumbers.{RanNumbers}
use Rattle.report.specs.Report.{limit, budget, allowance, type_of, run_of, judged, told, Lines}

-- A slice that begins with the words of a term: they are as many as the term is long, and a walk goes to their end.
begun_words : (t : Term) (slice : List ℕ) → take (size t) (begun (words t) slice) ≡ words t
unfolding begun
begun_words t slice = take_at (words t) (drop (length (words t)) slice) (size t) (words_length t)

begun_span : (t : Term) (slice : List ℕ) → span (begun (words t) slice) 1 ≡ size t
unfolding begun
begun_span t slice =
    let rest = drop (length (words t)) slice in
    ap (λ l. span l 1) (sym (emit_append t rest)) ∙ span_emit t rest

length_cleared : (n : ℕ) (slice : List ℕ) → length slice ≤ length (cleared n slice)
unfolding cleared begun
length_cleared n slice =
    let zeros : List ℕ = replicate n 0 in
    omega (arith, length-append zeros (drop (length zeros) slice), length-drop (length zeros) slice)

-- The lines of a refusal, and those of a term with its type and its run.
abbrev pub refusal : ℕ → ℕ → Lines
refusal answer place = record { answer = answer; place = place; type = []; end = 0; steps = 0; state = [] }

abbrev pub found : List ℕ → ℕ → ℕ → List ℕ → Lines
found type end steps state = record { answer = 0; place = 0; type = type; end = end; steps = steps; state = state }

-- The verdict on a term, and how it is then judged.
data Judges (ws : List ℕ) : Answer Term → Answer (Term × Ended) → Type 0 where
  typed : {t τ : Term} → read ws ≡ ok t → Judges ws (ok τ) (ok (τ, run_of t))
  untyped : {r : Reason} {p : ℕ} → Judges ws (refused r p) (refused r p)

judges_term : (ws : List ℕ) (t : Term) (x : Answer Term)
    → read ws ≡ ok t
    → Judges ws x (x >>= λ τ. ok (τ, run_of t))
unfolding ◌>>=◌
judges_term ws t (ok τ) e = typed e
judges_term ws t (refused r p) e = untyped

judges_read : (ws : List ℕ) (x : Answer Term)
    → read ws ≡ x
    → Judges ws (x >>= type_of) (x >>= λ t. (type_of t >>= λ τ. ok (τ, run_of t)))
unfolding ◌>>=◌
judges_read ws (ok t) e = judges_term ws t (type_of t) e
judges_read ws (refused r p) e = untyped

judges : (ws : List ℕ) → Judges ws (read ws >>= type_of) (judged ws)
unfolding judged
judges ws = judges_read ws (read ws) refl

found_same : {type type' state state' : List ℕ} {end end' steps steps' : ℕ}
    → type ≡ type'
    → end ≡ end'
    → steps ≡ steps'
    → state ≡ state'
    → found type end steps state ≡ found type' end' steps' state'
found_same a b c d = cc

-- A call of a check with room enough.
module _ (ws W O : List ℕ) (room : check_room limit ≤ length W) (space : limit ≤ length O) where
  checks : check ws limit W O ≡ checked (check_room limit) W O (read ws >>= type_of)
  unfolding check_by verdict require ◌>>◌ ◌>>=◌
  checks = rw (le_leb (check_room limit) (length W) room, le_leb limit (length O) space) refl

  -- Refused, it is told as it is answered.
  pub refused_tells : (n : CheckedNumbers) {W₁ O₁ : List ℕ}
      → NumberedCheck (check ws limit W O) n W₁ O₁
      → (n.answer ≡ 0 → ⊥)
      → refusal n.answer n.place ≡ told (judged ws)
  unfolding checked checked_numbers told
  refused_tells n {W₁} {O₁} h some = on (judges ws) (rw checks at h)
    where
      on : {x : Answer Term} {y : Answer (Term × Ended)}
          → Judges ws x y
          → NumberedCheck (checked (check_room limit) W O x) n W₁ O₁
          → refusal n.answer n.place ≡ told y
      on (typed e) k = absurd (some (ap (λ x. x.answer) k.numbers))
      on untyped k = ap (λ (x : CheckedNumbers). refusal x.answer x.place) k.numbers

  -- Accepted, it is told with the run that follows.
  pub accepted_tells : (n : CheckedNumbers) (m : RanNumbers) (k : ℕ) (S : List ℕ) {W₁ O₁ W₂ S₂ : List ℕ}
      → longest ≤ length S
      → NumberedCheck (check ws limit W O) n W₁ O₁
      → n.answer ≡ 0
      → NumberedRun (run ws budget 0 (alone allowance) W₁ S) m W₂ S₂
      → k ≡ span S₂ 1
      → found (take n.length O₁) m.end m.steps (take k S₂) ≡ told (judged ws)
  unfolding checked checked_numbers told course require ◌>>◌ ◌>>=◌ run_by ran ran_numbers
  accepted_tells n m k S {W₁} {O₁} {W₂} {S₂} free h none g e = on (judges ws) (rw checks at h)
    where
      on : {x : Answer Term} {y : Answer (Term × Ended)}
          → Judges ws x y
          → NumberedCheck (checked (check_room limit) W O x) n W₁ O₁
          → found (take n.length O₁) m.end m.steps (take k S₂) ≡ told y
      on (typed {t} {τ} d) c =
          let x : Ended = run_of t in
          let clear : run_room ≤ length W₁ = omega (arith, ap length c.work, length_cleared (check_room limit) W) in
          let runs : run ws budget 0 (alone allowance) W₁ S ≡ ran run_room 0 (alone allowance) W₁ S (ok x)
          = rw (le_leb run_room (length W₁) clear, le_leb longest (length S) free, d) refl in
          let r : NumberedRun (ran run_room 0 (alone allowance) W₁ S (ok x)) m W₂ S₂ = rw runs at g in
          let count : k ≡ size x.state = e ∙ ap (λ l. span l 1) r.state ∙ begun_span x.state S in
          let type : take n.length O₁ ≡ words τ = ap₂ take (ap (λ y. y.length) c.numbers) c.output ∙ begun_words τ O in
          let state : take k S₂ ≡ words x.state = ap₂ take count r.state ∙ begun_words x.state S in
          found_same type (ap (λ y. y.end) r.numbers) (ap (λ y. y.steps) r.numbers) state
      on (untyped {r} {p}) c = absurd (number_not_zero r (sym (ap (λ x. x.answer) c.numbers) ∙ none))
