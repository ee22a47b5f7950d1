-- `unfold` meets its contract: the kept length of the annotation tells where the body begins, and the body with the recursion itself put
-- in is what the recursion steps to.
use Rattle.std.proofs.Common.{◌≡◌, ◌+◌, refl, arith}
use Rattle.calculus.specs.Term.{Term, mu, size, substitute}
use Rattle.calculus.specs.Step.{step}
use Rattle.term.specs.Kept.{Lies}
use Rattle.term.proofs.Keeping.{lies_first}
use Rattle.term.proofs.Nodes.{two_mu}
use Rattle.reduction.specs.Stepping.{PutIn}
use Rattle.reduction.specs.declared.stepping.Kind.TheVariants.{Unfolding}
use Rattle.reduction.proofs.Placing.{Placed, lies_node, placed_lies, reaches, recursion_body, unfold_placed, unfold_puts}
use Rattle.reduction.proofs.stepping.unfold.Goals as goal
use Rattle.reduction.proofs.stepping.unfold.Goals.{After-length_at, Start}

-- The redex, and its parts as they are found.
redex : (c : goal.Start) → (a : Term) × (e : Term) × Placed c.args.state.now c.args.at (mu a e)
redex c = unfold_placed c.requires.1

annotation : (c : goal.Start) → Lies (redex c).0 c.args.state.now (c.args.at + 1)
annotation c = lies_first two_mu (placed_lies (redex c).2)

first : (c : goal.After-length_at) → c.length_at.result ≡ size (redex (goal.at.overflow_add-body c).Start).0
first c = c.length_at.ensures.value_2 _ (annotation (goal.at.overflow_add-body c).Start)

puts : (c : goal.After-length_at)
    → let s = (goal.at.overflow_add-body c).Start in
    let (a, e, p) = redex s in
    PutIn s.args.state.now s.args.at (s.args.at + 1 + c.length_at.result) s.args.at (p.put (substitute 0 (mu a e) e))
puts c = unfold_puts (redex (goal.at.overflow_add-body c).Start).2 (first c)

pub length_at-requires : goal.length_at-requires
length_at-requires c = lies_node (annotation (goal.at.length_at-requires c).Start)

pub put_in-requires : goal.put_in-requires
put_in-requires c =
    let s = (goal.at.put_in-requires c).Start in
    (s.requires.0, (_, puts (goal.at.put_in-requires c).After-length_at), s.requires.2)

pub returns : goal.returns
unfolding step
returns c =
    let (a, e, p) = redex (goal.at.returns c).Start in
    reaches p Unfolding (substitute 0 (mu a e) e) (λ v. refl) (c.put_in.ensures _ (puts (goal.at.returns c).After-length_at))

pub overflow_add-annotation : goal.overflow_add-annotation
overflow_add-annotation c = omega (arith, lies_node (annotation (goal.at.overflow_add-annotation c).Start))

pub overflow_add-body : goal.overflow_add-body
overflow_add-body c = omega (arith, lies_node (recursion_body (placed_lies (redex (goal.at.overflow_add-body c).Start).2) (first c)))
