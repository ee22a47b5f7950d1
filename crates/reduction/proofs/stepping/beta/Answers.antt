-- `beta` meets its contract: the kept lengths tell where the annotation and the body of the application's function end, one behind the
-- other, and the body with the argument put in is what the application steps to.
use Rattle.std.proofs.Common.{◌≡◌, ◌+◌, refl, arith}
use Rattle.calculus.specs.Term.{Term, app, lam, size, substitute}
use Rattle.calculus.specs.Step.{applied, step, under}
use Rattle.term.specs.Kept.{Lies}
use Rattle.reduction.specs.Stepping.{PutIn}
use Rattle.reduction.specs.declared.stepping.Kind.TheVariants.{Substitution}
use Rattle.reduction.proofs.Placing as place
use Rattle.reduction.proofs.Placing.{Placed, beta_placed, beta_puts, lies_node, placed_lies, reaches}
use Rattle.reduction.proofs.stepping.beta.Goals as goal
use Rattle.reduction.proofs.stepping.beta.Goals.{After-length_at, After-length_at-2, Start}

-- The redex, and its parts as they are found.
redex : (c : goal.Start) → (a : Term) × (e : Term) × (u : Term) × Placed c.args.state.now c.args.at (app (lam a e) u)
redex c = beta_placed c.requires.1

annotation : (c : goal.Start) → Lies (redex c).0 c.args.state.now (c.args.at + 2)
annotation c = place.function_annotation (placed_lies (redex c).3)

first : (c : goal.After-length_at) → c.length_at.result ≡ size (redex (goal.at.overflow_add-body c).Start).0
first c = c.length_at.ensures.value_2 _ (annotation (goal.at.overflow_add-body c).Start)

body : (c : goal.After-length_at)
    → let s = (goal.at.overflow_add-body c).Start in
    Lies (redex s).1 s.args.state.now (s.args.at + 2 + c.length_at.result)
body c = place.function_body (placed_lies (redex (goal.at.overflow_add-body c).Start).3) (first c)

second : (c : goal.After-length_at-2) → c.length_at-2.result ≡ size (redex (goal.at.overflow_add-argument c).Start).1
second c = c.length_at-2.ensures.value_2 _ (body (goal.at.overflow_add-argument c).After-length_at)

puts : (c : goal.After-length_at-2)
    → let s = (goal.at.overflow_add-argument c).Start in
    let n = s.args.at + 2 + c.length_at.result in
    let (a, e, u, p) = redex s in
    PutIn s.args.state.now s.args.at n (n + c.length_at-2.result) (p.put (substitute 0 u e))
puts c =
    beta_puts (redex (goal.at.overflow_add-argument c).Start).3 (first (goal.at.overflow_add-argument c).After-length_at) (second c)

pub length_at-requires : goal.length_at-requires
length_at-requires c = lies_node (annotation (goal.at.length_at-requires c).Start)

pub length_at-requires-2 : goal.length_at-requires-2
length_at-requires-2 c = lies_node (body c)

pub put_in-requires : goal.put_in-requires
put_in-requires c =
    let s = (goal.at.put_in-requires c).Start in
    (s.requires.0, (_, puts (goal.at.put_in-requires c).After-length_at-2), s.requires.2)

pub returns : goal.returns
unfolding step under applied
returns c =
    let (a, e, u, p) = redex (goal.at.returns c).Start in
    reaches p Substitution (substitute 0 u e) (λ v. refl) (c.put_in.ensures _ (puts (goal.at.returns c).After-length_at-2))

pub overflow_add-annotation : goal.overflow_add-annotation
overflow_add-annotation c = omega (arith, lies_node (annotation (goal.at.overflow_add-annotation c).Start))

pub overflow_add-body : goal.overflow_add-body
overflow_add-body c = omega (arith, lies_node (body c))

pub overflow_add-argument : goal.overflow_add-argument
overflow_add-argument c = omega (arith, lies_node (place.argument (placed_lies (redex (goal.at.overflow_add-argument c).Start).3) (first (goal.at.overflow_add-argument c).After-length_at) (second c)))
