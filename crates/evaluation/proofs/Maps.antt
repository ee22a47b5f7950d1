-- What a run answers and leaves is told apart by the map to the outcomes of the calculus, through which its contract passes: the map of
-- the ends is undone by another, the two answers are different constructors, reasons are told apart, and the rest is kept as it is.
use Prim.Native.Nat.{ℕ}
use mathlib.Core.Bool.{true≢false}
use mathlib.Core.List.{List}
use Rattle.std.specs.Prelude.{Result, Ok, Err}
use mathlib.Core.Path.{◌≡◌, refl, sym, ap, ap₂, ◌∙◌}
use Rattle.calculus.specs.Answer.{Answer, ok}
use Rattle.calculus.specs.Run as calculus
use Rattle.calculus.specs.Outcomes.{Stop}
use Rattle.term.proofs.Maps.{reason_of_injective}
use Rattle.evaluation.specs.declared.End.{End}
use Rattle.evaluation.specs.declared.End.TheVariants as end
use Rattle.term.specs.declared.refusal.Refusal.{Refusal}
use Rattle.evaluation.specs.declared.Ended.{Ended}
use Rattle.evaluation.specs.declared.Outcome.{Outcome}
use Rattle.evaluation.specs.Outcomes.{end_of, answer_of, ran_of}

variant : calculus.End → End
variant calculus.at_value = end.Value
variant calculus.spent = end.Spent
variant calculus.at_stuck = end.Stuck
variant calculus.too_long = end.Long

variant_found : (E : End) → variant (end_of E) ≡ E
unfolding variant
variant_found end.Value = refl
variant_found end.Spent = refl
variant_found end.Stuck = refl
variant_found end.Long = refl

pub end_of_injective : (a b : End) → end_of a ≡ end_of b → a ≡ b
end_of_injective a b e = sym (variant_found a) ∙ ap variant e ∙ variant_found b

answer_of_injective : (r s : Result Ended Refusal) → answer_of r ≡ answer_of s → r ≡ s
answer_of_injective (Ok a) (Ok b) e =
    ap₂ (λ x m. Ok (record { end = x; steps = m }))
    (end_of_injective a.end b.end (ap (λ x. x.end) (stop e)))
    (ap
    (λ x. record {
      total = x.steps;
      substitutions = x.counts.substitutions;
      unfoldings = x.counts.unfoldings;
      cancellations = x.counts.cancellations;
    })
    (stop e))
  where
    stop : {x y : Stop} → ◌≡◌ {A = Answer Stop} (ok x) (ok y) → x ≡ y
    stop e = cc e
answer_of_injective (Ok a) (Err g) e = absurd (true≢false (cc e))
answer_of_injective (Err f) (Ok b) e = absurd (true≢false (cc e))
answer_of_injective (Err f) (Err g) e =
    ap₂ (λ r p. Err (record { reason = r; place = p })) (reason_of_injective f.reason g.reason (cc e)) (cc e)

pub ran_of_injective : (r s : Outcome) {W W' S S' : List ℕ} → ran_of r W S ≡ ran_of s W' S' → (r ≡ s) × (W ≡ W') × (S ≡ S')
ran_of_injective r s e = (
  ap₂
      (λ a n. record { answer = a; desk = record { allowances = n } })
      (answer_of_injective r.answer s.answer (ap (λ c. c.answer) e))
      (ap (λ c. c.desk) e),
  ap (λ c. c.work) e,
  ap (λ c. c.state) e,
)
