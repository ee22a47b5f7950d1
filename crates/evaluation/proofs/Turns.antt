-- A run over a book, turn by turn: with so many steps taken, the whole run is the run from the present state within what is left of the
-- grant, with those steps more. This holds at the start, a step keeps it, and where a turn ends the run it gives the whole
-- run's answer.
use Prim.Native.Nat.{ℕ, suc, ◌+◌, ◌-◌, ◌<◌, ◌≤◌}
use mathlib.Core.Bool.{Bool}
use mathlib.Core.List.{List}
use Rattle.std.specs.Prelude.{Result, Ok, Err}
use mathlib.Core.Path.{◌≡◌, refl, sym, ◌∙◌, ap, subst}
use native.Mathlib.Decide.{dec_le}
use native.Mathlib.Nat.{zero-add, add-zero, sub-zero, add-suc, suc-add}
use native.Mathlib.Omega.{arith}
use lib.ListN.{length}
use Rattle.calculus.specs.Term.{Term, size}
use Rattle.calculus.specs.Words.{longest}
use Rattle.calculus.specs.Book.{Book, bodies}
use Rattle.calculus.specs.Kinds.{Kind, by_substitution, by_unfolding, by_cancellation, Counts, counts, counting}
use Rattle.calculus.specs.Step as calculus
use Rattle.calculus.specs.Run.{at_value, at_stuck, too_long, Ended, done, one_more, last_end, run_until, run_from}
use Rattle.calculus.specs.Run as run
use Rattle.calculus.proofs.Comparisons.{le_leb, gt_leb}
use Rattle.reduction.specs.declared.stepping.Stepped.{Stepped}
use Rattle.reduction.specs.declared.stepping.Halt.{Halt}
use Rattle.reduction.specs.Stepping.{kind_of}
use Rattle.evaluation.specs.declared.End.{End}
use Rattle.evaluation.specs.declared.Steps.{Steps}
use Rattle.evaluation.specs.Courses.{Holds, Advances, Goes}
use Rattle.evaluation.specs.Ends.{end_of_halt}
use Rattle.evaluation.specs.Outcomes.{counts_of, end_of}

-- The next state and the run, over a book.
abbrev next_of : Book → Term → calculus.Next
next_of B = calculus.step (bodies B)

abbrev from : Book → ℕ → Term → Ended
from B = run_from (next_of B)

-- The steps before and those behind, kind by kind.
abbrev both : Counts → Counts → Counts
both c d = counts (c.substitutions + d.substitutions) (c.unfoldings + d.unfoldings) (c.cancellations + d.cancellations)

-- A step is the last of those before or the first of those behind.
both_counting : (k : Kind) (c d : Counts) → both c (counting k d) ≡ both (counting k c) d
unfolding counting
both_counting by_substitution c d = rw (add-suc c.substitutions d.substitutions, suc-add c.substitutions d.substitutions) refl
both_counting by_unfolding c d = rw (add-suc c.unfoldings d.unfoldings, suc-add c.unfoldings d.unfoldings) refl
both_counting by_cancellation c d = rw (add-suc c.cancellations d.cancellations, suc-add c.cancellations d.cancellations) refl

-- No step is behind.
both_none : (c : Counts) → both c (counts 0 0 0) ≡ c
both_none c = rw (add-zero c.substitutions, add-zero c.unfoldings, add-zero c.cancellations) refl

-- With these steps more.
abbrev pub later : Steps → Ended → Ended
later s e = record { end = e.end; steps = s.total + e.steps; counts = both (counts_of s) e.counts; state = e.state }

-- After `taken` of the steps granted to a run of `t`, its state is kept at the front of a buffer.
pub record Reaches (B : Book) (grant : ℕ) (taken : Steps) (t : Term) (slice : List ℕ) (count : ℕ) : Type 0 where
  pub state : Term
  pub holds : Holds (length B) slice count state
  pub course : from B grant t ≡ later taken (from B (grant - taken.total) state)

abbrev pub none : Steps
none = record { total = 0; substitutions = 0; unfoldings = 0; cancellations = 0 }

pub reaches_first : (B : Book) {grant : ℕ} {t : Term} {slice : List ℕ} {count : ℕ}
    → Holds (length B) slice count t
    → Reaches B grant none t slice count
reaches_first B {grant} {t} h =
    let r = from B grant t in
    record {
      state = t;
      holds = h;
      course =
          rw
          (sub-zero grant, zero-add r.steps, zero-add r.counts.substitutions, zero-add r.counts.unfoldings, zero-add r.counts.cancellations)
          refl;
    }

-- What the answer of a step from `x` says of the run from there with one step more than `g` granted, and of the buffer into which
-- the next state is written.
Turned : Book → ℕ → Term → List ℕ → Result Stepped Halt → Type 0
Turned B g x next (Err h) = from B (suc g) x ≡ done (end_of (end_of_halt h)) x
Turned B g x next (Ok s) =
    (y : Term) × (from B (suc g) x ≡ one_more (kind_of s.kind) (from B g y)) × Holds (length B) next s.length y

turned : (B : Book) (g : ℕ) (x : Term) (next : List ℕ) (r : Result Stepped Halt) → Advances (length B) (next_of B x) r next → Turned B g x next r
unfolding Advances Turned run_until run.advance
turned B g x next r a = on (next_of B x) refl a
  where
    on : (n : calculus.Next) → next_of B x ≡ n → Advances (length B) n r next → Turned B g x next r
    on calculus.value e a = subst (Turned B g x next) (sym a) (ap (run.advance (from B g) x) e)
    on calculus.stuck e a = subst (Turned B g x next) (sym a) (ap (run.advance (from B g) x) e)
    on (calculus.next k y) e (K, kind, fits, full) = by_size (dec_le (size y) longest)
      where
        by_size : Dec (size y ≤ longest) → Turned B g x next r
        by_size (yes l) =
            let (p, h) = fits l in
            subst (Turned B g x next) (sym p)
            (y, ap (run.advance (from B g) x) e ∙ rw (le_leb (size y) longest l, kind) refl, h)
        by_size (no l) =
            subst (Turned B g x next) (sym (full (omega arith)))
            (ap (run.advance (from B g) x) e ∙ rw (gt_leb (size y) longest (omega arith)) refl)

module _ {B : Book} {grant : ℕ} {taken : Steps} {t : Term} {slice : List ℕ} {count : ℕ} (h : Reaches B grant taken t slice count) where
  -- A run that ends at the present state.
  ends : {lent : Bool} {last : List ℕ} (E : End) (m : ℕ)
      → grant - taken.total ≡ m
      → from B m h.state ≡ done (end_of E) h.state
      → last ≡ slice
      → Goes (length B) (from B grant t) (record { end = E; steps = taken; length = count; lent = lent }) last
  unfolding done
  ends {lent} {last} E m n e same =
      subst (λ r. Goes (length B) r (record { end = E; steps = taken; length = count; lent = lent }) last)
      (sym (h.course ∙ ap (λ g. later taken (from B g h.state)) n ∙ ap (later taken) e))
      (record {
        end = refl;
        steps = sym (add-zero taken.total);
        counts = sym (both_none (counts_of taken));
        holds = subst (λ s. Holds (length B) s count h.state) (sym same) h.holds;
      })

  -- A run whose grant is used.
  pub goes_last : {lent : Bool} {E : End}
      → taken.total ≡ grant
      → end_of E ≡ last_end (next_of B h.state)
      → Goes (length B) (from B grant t) (record { end = E; steps = taken; length = count; lent = lent }) slice
  unfolding run_until
  goes_last {E} n e = ends E 0 (omega arith) (ap (λ E. done E h.state) (sym e)) refl

  -- A turn.
  module _ (l : taken.total < grant) (r : Result Stepped Halt) (next : List ℕ) (a : Advances (length B) (next_of B h.state) r next) where
    turn : {s : Result Stepped Halt} → r ≡ s → Turned B (grant - (taken.total + 1)) h.state next s
    turn e =
        subst (Turned B (grant - (taken.total + 1)) h.state next) e (turned B (grant - (taken.total + 1)) h.state next r a)

    pub goes_stop : {lent : Bool} {last : List ℕ} {halt : Halt}
        → r ≡ Err halt
        → last ≡ slice
        → Goes (length B) (from B grant t) (record { end = end_of_halt halt; steps = taken; length = count; lent = lent }) last
    unfolding Turned
    goes_stop {halt = halt} e same =
        let g = grant - (taken.total + 1) in
        ends (end_of_halt halt) (suc g) (omega arith) (turn e) same

    pub reaches_next : {s : Stepped} (more : Steps)
        → r ≡ Ok s
        → more.total ≡ taken.total + 1
        → counts_of more ≡ counting (kind_of s.kind) (counts_of taken)
        → Reaches B grant more t next s.length
    unfolding Turned one_more
    reaches_next {s} more e many each =
        let (y, p, k) = turn e in
        let rest = from B (grant - (taken.total + 1)) y in
        let n : grant - taken.total ≡ suc (grant - (taken.total + 1)) = omega arith in
        let m : taken.total + suc rest.steps ≡ taken.total + 1 + rest.steps = omega arith in
        record {
          state = y;
          holds = k;
          course =
              h.course
              ∙ ap (λ g. later taken (from B g h.state)) n
              ∙ ap (later taken) p
              ∙ rw (m, both_counting (kind_of s.kind) (counts_of taken) rest.counts, ← each, ← many) refl;
        }
