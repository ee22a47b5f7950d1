-- The structs of C and Rust tell every two outcomes apart: the numbers of reasons and of ends are injective, and the number of a reason
-- is not 0, which is the answer of a call that is not refused.
use Prim.Native.Nat.{ℕ}
use mathlib.Core.List.{List}
use mathlib.Core.Path.{◌≡◌, sym, ap, ap₂, ◌∙◌}
use Rattle.calculus.specs.Answer.{Answer, ok, refused}
use Rattle.calculus.specs.Kinds.{counts}
use Rattle.calculus.specs.Run.{End}
use Rattle.calculus.specs.Outcomes.{Stop}
use Rattle.calculus.specs.Outcomes as calculus
use Rattle.calculus.proofs.NumberInjective.{number_injective, number_not_zero, end_number_injective}
use Rattle.feguavy.specs.declared.CheckedNumbers.{CheckedNumbers}
use Rattle.feguavy.specs.declared.RanNumbers.{RanNumbers}
use Rattle.feguavy.specs.declared.FoundNumbers.{FoundNumbers}
use Rattle.feguavy.specs.Numbers.{checked_numbers, NumberedCheck, ran_numbers, NumberedRun, found_numbers}

pub checked_numbers_injective : (a b : Answer ℕ) → checked_numbers a ≡ checked_numbers b → a ≡ b
unfolding checked_numbers
checked_numbers_injective (ok m) (ok n) e = ap (λ x. ok x.length) e
checked_numbers_injective (ok m) (refused r p) e = absurd (number_not_zero r (ap (λ x. x.answer) (sym e)))
checked_numbers_injective (refused r p) (ok n) e = absurd (number_not_zero r (ap (λ x. x.answer) e))
checked_numbers_injective (refused r p) (refused s q) e =
    ap₂ refused (number_injective r s (ap (λ x. x.answer) e)) (ap (λ x. x.place) e)

pub ran_numbers_injective : (a b : Answer Stop) (m n : calculus.Desk) → ran_numbers a m ≡ ran_numbers b n → (a ≡ b) × (m ≡ n)
unfolding ran_numbers
ran_numbers_injective (ok s) (ok t) m n e =
    let same = end_number_injective s.end t.end (ap (λ x. x.end) e) in
    let of_numbers : End → RanNumbers → Answer Stop =
    λ E x. ok (record { end = E; steps = x.steps; counts = counts x.substitutions x.unfoldings x.cancellations })
    in
    (ap₂ of_numbers same e, ap (λ x. x.desk.allowances) e)
ran_numbers_injective (ok s) (refused r p) m n e = absurd (number_not_zero r (ap (λ x. x.answer) (sym e)))
ran_numbers_injective (refused r p) (ok s) m n e = absurd (number_not_zero r (ap (λ x. x.answer) e))
ran_numbers_injective (refused r p) (refused s q) m n e =
    (ap₂ refused (number_injective r s (ap (λ x. x.answer) e)) (ap (λ x. x.place) e), ap (λ x. x.desk.allowances) e)

pub numbered_check_one : {c d : calculus.Checked} {r : CheckedNumbers} {W O : List ℕ}
    → NumberedCheck c r W O
    → NumberedCheck d r W O
    → c ≡ d
numbered_check_one {c} {d} x y =
    ap₂
    (λ a (s : List ℕ × List ℕ). record { answer = a; work = s.0; output = s.1 })
    (checked_numbers_injective c.answer d.answer (sym x.numbers ∙ y.numbers))
    (ap₂ (λ w o. (w, o)) (sym x.work ∙ y.work) (sym x.output ∙ y.output))

pub numbered_run_one : {c d : calculus.Ran} {r : RanNumbers} {W S : List ℕ} → NumberedRun c r W S → NumberedRun d r W S → c ≡ d
numbered_run_one {c} {d} x y =
    let same = ran_numbers_injective c.answer d.answer c.desk d.desk (sym x.numbers ∙ y.numbers) in
    ap₂
    (λ (a : Answer Stop × calculus.Desk) (s : List ℕ × List ℕ). record { answer = a.0; desk = a.1; work = s.0; state = s.1 })
    (ap₂ (λ a n. (a, n)) same.0 same.1)
    (ap₂ (λ w o. (w, o)) (sym x.work ∙ y.work) (sym x.state ∙ y.state))

pub found_numbers_injective : (f g : FoundNumbers) → found_numbers f ≡ found_numbers g → f ≡ g
found_numbers_injective f g e = ap₂ (λ s n. record { start = s; length = n }) (ap (λ x. x.start) e) (ap (λ x. x.extent) e)
