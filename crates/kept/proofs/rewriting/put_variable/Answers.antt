-- `put_variable` meets its contract: what each arm writes is what stands for the variable. The argument is raised where it
-- stands, which keeps its length; where it is closed or under no binder, that leaves it as it is.
use mathlib.Core.Path.{◌≡◌, sym, ap, subst, ◌∙◌}
use native.Mathlib.Omega.{arith}
use lib.ListN.{length}
use Rattle.calculus.specs.Term.{size}
use Rattle.calculus.specs.Words.{Scoped}
use Rattle.term.specs.Kept.{kept}
use Rattle.term.proofs.Keeping.{kept_injective, kept_length}
use Rattle.kept.proofs.Composed.{put_taken, puts_as, puts_replaced, puts_short}
use Rattle.kept.proofs.InPlace.{fits_worded}
use Rattle.kept.proofs.Putting.{kept_above, kept_below, kept_raised_length}
use Rattle.kept.proofs.Putting.{substitute_closed, substitute_here, substitute_outermost}
use Rattle.kept.proofs.rewriting.put_variable.Goals as goal

pub returns-then-index-depth : goal.returns-then-index-depth
returns-then-index-depth c u coded has =
    let a = c.args in
    puts_as c.put.ensures (sym (kept_below a.depth u a.index c.if-index-depth.true))

pub returns-then-depth-index : goal.returns-then-depth-index
returns-then-depth-index c u coded has =
    let a = c.args in
    puts_as c.put-then-depth-index.ensures (sym (kept_above a.depth u a.index c.if-depth-index.true))

pub copy_nodes-requires : goal.copy_nodes-requires
copy_nodes-requires c =
    let (u, put_in) = c.requires.3 in
    (c.requires.0, (size u, ap length put_in.coded ∙ kept_length u))

pub returns-in_err-end : goal.returns-in_err-end
returns-in_err-end c u coded has =
    let a = c.args in
    let same = substitute_here a.depth u a.index (omega (arith, c.if-depth-index.false, c.if-index-depth.false)) in
    let long = ap length (ap kept same) ∙ kept_raised_length a.depth 0 u ∙ ap length (sym coded) in
    puts_short c.from_residual.ensures c.in_err-end.ensures (omega (arith, long))

pub returns-then-argument : goal.returns-then-argument
returns-then-argument c u coded has =
    let a = c.args in
    let (v, put_in) = c.requires.3 in
    let one = kept_injective v u (fits_worded put_in.fits) has (sym put_in.coded ∙ coded) in
    let closed : Scoped 0 u = subst (Scoped 0) one (put_in.shut c.if-argument.true) in
    let same = substitute_closed a.depth u a.index (omega (arith, c.if-depth-index.false, c.if-index-depth.false)) closed in
    puts_as c.in_ok-end.ensures (coded ∙ ap kept (sym same))

pub returns-then-depth-eq0 : goal.returns-then-depth-eq0
returns-then-depth-eq0 c u coded has =
    let a = c.args in
    let is : a.index ≡ a.depth = omega (arith, c.if-depth-index.false, c.if-index-depth.false) in
    let same = substitute_outermost a.depth u a.index is c.if-depth-eq0.true in
    puts_as c.in_ok-end.ensures (coded ∙ ap kept (sym same))

pub raise-requires : goal.raise-requires
raise-requires c =
    let (u, put_in) = c.requires.3 in
    ((u, put_taken c.in_ok-end.ensures ∙ put_in.coded, put_in.fits), c.requires.2)

pub returns : goal.returns
returns c u coded has =
    let a = c.args in
    let put_in = put_taken c.in_ok-end.ensures ∙ coded in
    let raised = c.raise.ensures u put_in has in
    let same = substitute_here a.depth u a.index (omega (arith, c.if-depth-index.false, c.if-index-depth.false)) in
    let long = ap length raised ∙ kept_raised_length a.depth 0 u ∙ ap length (sym coded) in
    puts_as (puts_replaced c.in_ok-end.ensures long) (raised ∙ ap kept (sym same))
