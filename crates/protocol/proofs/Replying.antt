-- From the numbers that the calls answer to the text of the line. A call that is not refused answers 0, and the number of a reason is
-- not 0; so the test of the answer tells which line the outcome has, and the numbers are those in it.
use Prim.Native.Nat.{ℕ}
use mathlib.Core.Bool.{Bool}
use mathlib.Core.List.{List, [], ◌∷◌, ◌++◌, append_assoc}
use mathlib.Core.Path.{◌≡◌, refl, sym, ap, ◌∙◌}
use lib.ListN.{take}
use borrow.Author.Tests.{eq-eqb, ne_eqb}
use Rattle.calculus.specs.Answer.{Answer, ok, refused, number}
use Rattle.calculus.specs.Kinds.{counts}
use Rattle.calculus.specs.Outcomes.{Checked, Desk, allowance_of, Stop, Ran}
use Rattle.calculus.proofs.NumberInjective.{number_not_zero}
use Rattle.term.specs.Walk.{span}
use Rattle.feguavy.specs.Numbers.{checked_numbers, NumberedCheck, ran_numbers, NumberedRun}
use Rattle.feguavy.specs.declared.CheckedNumbers.{CheckedNumbers}
use Rattle.feguavy.specs.declared.RanNumbers.{RanNumbers}
use Rattle.text.specs.Appending.{appended}
use Rattle.text.specs.Texts.{ascii, spaced}
use Rattle.text.proofs.Lists.{spaced_append}
use Rattle.protocol.specs.Answers.{by_kind, refusal_line, typed_line, checked_line, ended_line, ran_line, numbers_line, Replies}
use Rattle.protocol.specs.Desks.{Serves}

-- A check.
untyped_text : (a : Answer ℕ) (O : List ℕ) (n : CheckedNumbers)
    → n ≡ checked_numbers a
    → (n.answer ≡ 0 → ⊥)
    → refusal_line n.answer n.place ≡ typed_line a O
unfolding checked_numbers typed_line
untyped_text (ok k) O n e some = absurd (some (ap (λ x. x.answer) e))
untyped_text (refused r p) O n e some = ap (λ (x : CheckedNumbers). refusal_line x.answer x.place) e

typed_text : (a : Answer ℕ) (O : List ℕ) (n : CheckedNumbers)
    → n ≡ checked_numbers a
    → n.answer ≡ 0
    → ascii "typed |" ++ spaced (take n.length O) ≡ typed_line a O
unfolding checked_numbers typed_line
typed_text (ok k) O n e none = ap (λ (x : CheckedNumbers). ascii "typed |" ++ spaced (take x.length O)) e
typed_text (refused r p) O n e none = absurd (number_not_zero r (sym (ap (λ x. x.answer) e) ∙ none))

module _ {N : ℕ} {c : Checked} (n : CheckedNumbers) {W O page after : List ℕ} (h : NumberedCheck c n W O) where
  pub refused_check : (n.answer ≡ 0 → ⊥)
      → after ≡ appended N page (refusal_line n.answer n.place)
      → Replies N (record { text = checked_line c; work = c.work }) W page after
  refused_check some d =
      record {
        text = d ∙ ap (appended N page) (untyped_text c.answer O n h.numbers some ∙ ap (typed_line c.answer) h.output);
        work = h.work;
      }

  pub typed_check : n.answer ≡ 0
      → after ≡ appended N page (ascii "typed |" ++ spaced (take n.length O))
      → Replies N (record { text = checked_line c; work = c.work }) W page after
  typed_check none d =
      record {
        text = d ∙ ap (appended N page) (typed_text c.answer O n h.numbers none ∙ ap (typed_line c.answer) h.output);
        work = h.work;
      }

-- The line of a run, from its numbers.
module _ (kinds : Bool) (caller : ℕ) (n : RanNumbers) (S : List ℕ) where
  pub refused_text : (n.answer ≡ 0 → ⊥) → refusal_line n.answer n.place ≡ numbers_line kinds caller n S
  unfolding numbers_line
  refused_text some = rw (ne_eqb n.answer 0 some) refl

  pub ended_text : n.answer ≡ 0
      → (((ascii "ran" ++ spaced (n.end ∷ n.steps ∷ []))
      ++ spaced (by_kind kinds (counts n.substitutions n.unfoldings n.cancellations)))
      ++ spaced (allowance_of n.desk.allowances caller ∷ []))
      ++ ascii " |"
      ++ spaced (take (span S 1) S)
      ≡ numbers_line kinds caller n S
  unfolding numbers_line
  ended_text none =
      let ends = n.end ∷ n.steps ∷ [] in
      let kind = by_kind kinds (counts n.substitutions n.unfoldings n.cancellations) in
      let left = allowance_of n.desk.allowances caller ∷ [] in
      rw (eq-eqb n.answer 0 none, spaced_append (ends ++ kind) left, spaced_append ends kind)
      (rw (append_assoc (ascii "ran") (spaced ends) (spaced kind), append_assoc (ascii "ran") (spaced ends ++ spaced kind) (spaced left)) refl)

-- It is the line of the outcome that has these numbers.
told_line : (kinds : Bool) (caller : ℕ) (S : List ℕ) (a : Answer Stop) (desk : Desk)
    → numbers_line kinds caller (ran_numbers a desk) S ≡ ended_line kinds a (allowance_of desk caller) S
unfolding ran_numbers numbers_line ended_line
told_line kinds caller S (ok s) desk = refl
told_line kinds caller S (refused r p) desk = rw (ne_eqb (number r) 0 (number_not_zero r)) refl

pub run_replies : {N : ℕ} (kinds : Bool) (caller : ℕ) {c : Ran} {n : RanNumbers} {W S page after : List ℕ}
    → NumberedRun c n W S
    → after ≡ appended N page (numbers_line kinds caller n S)
    → Replies N (record { text = ran_line kinds caller c; work = c.work }) W page after
run_replies {N} kinds caller {c} {page = page} h d =
    record {
      text = d ∙ ap (appended N page) (rw (h.numbers, h.state) (told_line kinds caller c.state c.answer c.desk));
      work = h.work;
    }

-- And the desk of the numbers is the outcome's.
left_desk : (a : Answer Stop) (desk : Desk) → (ran_numbers a desk).desk.allowances ≡ desk
unfolding ran_numbers
left_desk (ok s) desk = refl
left_desk (refused r p) desk = refl

pub run_serves : {N : ℕ} (kinds : Bool) (caller : ℕ) {c : Ran} (n : RanNumbers) {W S page after : List ℕ}
    → NumberedRun c n W S
    → after ≡ appended N page (numbers_line kinds caller n S)
    → Serves N
    (record { reply = record { text = ran_line kinds caller c; work = c.work }; desk = c.desk })
    W page n.desk after
run_serves kinds caller {c} n h d =
    record {
      replies = run_replies kinds caller h d;
      desk = ap (λ x. x.desk.allowances) h.numbers ∙ left_desk c.answer c.desk;
    }
