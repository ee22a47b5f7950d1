-- `last_end` meets its contract: where there is no redex the state is a value or stuck, and where there is one it steps.
use Rattle.std.proofs.Common.{ℕ, ◌≡◌, refl, sym, ap, ◌∙◌, Ok, Err}
use Rattle.calculus.specs.Term.{Term}
use Rattle.calculus.specs.Book.{View, bodies}
use Rattle.calculus.specs.Kinds.{Kind}
use Rattle.calculus.specs.Step.{next, under, applied, cancelled, unfolded, step}
use Rattle.calculus.specs.Run.{spent, last_end}
use Rattle.reduction.specs.declared.stepping.Redex.{Redex}
use Rattle.reduction.specs.declared.stepping.Redex.TheVariants as redex
use Rattle.reduction.specs.declared.stepping.Rest.TheVariants as rest
use Rattle.reduction.specs.Stepping.{locate}
use Rattle.reduction.proofs.Frames.{step_around}
use Rattle.reduction.proofs.Redexes.{Inside, splits_at}
use Rattle.evaluation.proofs.last_end.Goals as goal

-- A state whose part steps has a next one.
goes_on : (v : View) {x s y : Term} {n : ℕ} {k : Kind} → Inside x n s → step v s ≡ next k y → spent ≡ last_end (step v x)
unfolding last_end
goes_on v {y} i h = rw (step_around v (i.around y) h) refl

with_redex : (v : View) (x : Term) (r : Redex) → locate v x ≡ Ok r → spent ≡ last_end (step v x)
unfolding step under applied cancelled unfolded
with_redex v x (redex.Beta n) e = goes_on v (splits_at v x e).3 refl
with_redex v x (redex.Cancel n) e = goes_on v (splits_at v x e).2 refl
with_redex v x (redex.Unfold n) e = goes_on v (splits_at v x e).2 refl
with_redex v x (redex.Name n) e = let (i, d, shown, there) = splits_at v x e in goes_on v there (ap unfolded shown)

pub returns-in-Ok : goal.returns-in-Ok
returns-in-Ok c B x held keeps =
    with_redex (bodies B) x c.in-Ok.field-0 (sym (c.find_redex.ensures B x held keeps) ∙ c.in-Ok.is)

pub returns-in-Err-Value : goal.returns-in-Err-Value
unfolding last_end
returns-in-Err-Value c B x held keeps =
    let at : locate (bodies B) x ≡ Err rest.Value = cc (c.find_redex.ensures B x held keeps) in rw (splits_at (bodies B) x at) refl

pub returns-in-Err-Stuck : goal.returns-in-Err-Stuck
unfolding last_end
returns-in-Err-Stuck c B x held keeps =
    let at : locate (bodies B) x ≡ Err rest.Stuck = cc (c.find_redex.ensures B x held keeps) in rw (splits_at (bodies B) x at) refl
