-- `counted` meets its contract. The three counts add up to the total, so that none of them is above it, and the total is below the
-- largest number of 32 bits: no sum leaves 32 bits.
use mathlib.Core.Path.{refl, ap}
use native.Mathlib.Numerals.{add-one}
use native.Mathlib.Omega.{arith}
use Rattle.calculus.specs.Kinds.{counts, counting, total}
use Rattle.evaluation.proofs.counted.Goals as goal

pub overflow_add-steps-in-Substitution : goal.overflow_add-steps-in-Substitution
unfolding total
overflow_add-steps-in-Substitution c = omega (arith, c.requires)

pub overflow_add-steps-in-Unfolding : goal.overflow_add-steps-in-Unfolding
unfolding total
overflow_add-steps-in-Unfolding c = omega (arith, c.requires)

pub overflow_add-steps-in-Cancellation : goal.overflow_add-steps-in-Cancellation
unfolding total
overflow_add-steps-in-Cancellation c = omega (arith, c.requires)

pub returns-in-Substitution : goal.returns-in-Substitution
unfolding counting
returns-in-Substitution c =
    let s = c.args.steps in
    (refl, rw c.in-Substitution.is (ap (λ n. counts n s.unfoldings s.cancellations) (add-one s.substitutions)))

pub returns-in-Unfolding : goal.returns-in-Unfolding
unfolding counting
returns-in-Unfolding c =
    let s = c.args.steps in
    (refl, rw c.in-Unfolding.is (ap (λ n. counts s.substitutions n s.cancellations) (add-one s.unfoldings)))

pub returns-in-Cancellation : goal.returns-in-Cancellation
unfolding counting
returns-in-Cancellation c =
    let s = c.args.steps in
    (refl, rw c.in-Cancellation.is (ap (counts s.substitutions s.unfoldings) (add-one s.cancellations)))
