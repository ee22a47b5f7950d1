-- `cancel` meets its contract: the kept length of the annotation tells where the body of the up cast begins, which is what the
-- down cast steps to; both end at the same node.
use Prim.Native.Nat.{◌+◌, ◌*◌, ◌≤◌}
use mathlib.Core.Path.{◌≡◌, refl, ap, ◌∙◌}
use native.Mathlib.Omega.{arith}
use lib.ListN.{length}
use Rattle.calculus.specs.Term.{Term, castup, castdown, size}
use Rattle.calculus.specs.Step.{cancelled, step, under}
use Rattle.term.specs.Kept.{Lies}
use Rattle.term.proofs.Keeping.{kept_length, lies_within}
use Rattle.reduction.specs.declared.stepping.Kind.TheVariants.{Cancellation}
use Rattle.reduction.proofs.Placing as place
use Rattle.reduction.proofs.Placing.{Placed, cancel_placed, lies_node, lies_part, no_room, placed_lies, puts_part, reaches}
use Rattle.reduction.proofs.Surrounding.{at_exit, part_lacks}
use Rattle.reduction.proofs.stepping.cancel.Goals as goal
use Rattle.reduction.proofs.stepping.cancel.Goals.{After-length_at, After-length_at-2, Start}

-- The redex, and its parts as they are found.
redex : (c : goal.Start) → (a : Term) × (e : Term) × Placed c.args.state.now c.args.at (castdown (castup a e))
redex c = cancel_placed c.requires.0

annotation : (c : goal.Start) → Lies (redex c).0 c.args.state.now (c.args.at + 2)
annotation c = place.cast_annotation (placed_lies (redex c).2)

first : (c : goal.After-length_at) → c.length_at.result ≡ size (redex (goal.at.overflow_add-body c).Start).0
first c = c.length_at.ensures.value_2 _ (annotation (goal.at.overflow_add-body c).Start)

body : (c : goal.After-length_at)
    → let s = (goal.at.overflow_add-body c).Start in
    Lies (redex s).1 s.args.state.now (s.args.at + 2 + c.length_at.result)
body c = place.cast_body (placed_lies (redex (goal.at.overflow_add-body c).Start).2) (first c)

-- The down cast ends where the body does.
ended : (c : goal.After-length_at-2)
    → let s = (goal.at.overflow_add-behind c).Start in
    s.args.at + c.length_at-2.result ≡ s.args.at + 2 + c.length_at.result + size (redex s).1
unfolding size
ended c =
    let s = (goal.at.overflow_add-behind c).Start in
    omega (arith, first (goal.at.overflow_add-behind c).After-length_at, c.length_at-2.ensures.value_2 _ (placed_lies (redex s).2))

within : (c : goal.After-length_at-2)
    → 2 * (c.args.at + c.length_at-2.result) ≤ length c.args.state.now
within c = omega (arith, ended c, lies_within (body (goal.at.overflow_add-behind c).After-length_at))

pub overflow_mul-at : goal.overflow_mul-at
overflow_mul-at c = omega (arith, lies_node (placed_lies (redex (goal.at.overflow_mul-at c).Start).2))

pub returns-then-out-at : goal.returns-then-out-at
unfolding step under cancelled
returns-then-out-at c =
    let (a, e, p) = redex (goal.at.returns-then-out-at c).Start in
    no_room p Cancellation e (λ v. refl) _ c.if-out-at.true

pub overflow_add-annotation : goal.overflow_add-annotation
overflow_add-annotation c = omega (arith, lies_node (annotation (goal.at.overflow_add-annotation c).Start))

pub length_at-requires : goal.length_at-requires
length_at-requires c = lies_node (annotation (goal.at.length_at-requires c).Start)

pub length_at-requires-2 : goal.length_at-requires-2
length_at-requires-2 c = lies_node (placed_lies (redex (goal.at.length_at-requires-2 c).Start).2)

pub copy_nodes-requires : goal.copy_nodes-requires
copy_nodes-requires c =
    let k = (goal.at.copy_nodes-requires c).After-length_at-2 in
    let e = (redex (goal.at.copy_nodes-requires c).Start).1 in
    let part = lies_part (body (goal.at.copy_nodes-requires c).After-length_at) (ended k) in
    (k.if-out-at.false, (size e, ap length part ∙ kept_length e))

-- The body of the up cast is written, if it fits.
pub returns-in_err-end : goal.returns-in_err-end
unfolding step under cancelled
returns-in_err-end c =
    let s = (goal.at.returns-in_err-end c).Start in
    let k = (goal.at.returns-in_err-end c).After-length_at-2 in
    let (a, e, p) = redex s in
    let put = puts_part (body (goal.at.returns-in_err-end c).After-length_at) (ended k) c.copy_nodes.ensures in
    let (none, full) = at_exit c.copy_nodes.result c.from_residual.result c.in_err-end.ensures.value c.from_residual.ensures.1 in
    reaches p Cancellation e (λ v. refl) (rw full (part_lacks (p.around e) p.coded (rw none at put)))

pub surround-requires : goal.surround-requires
surround-requires c =
    let s = (goal.at.surround-requires c).Start in
    let k = (goal.at.surround-requires c).After-length_at-2 in
    let (a, e, p) = redex s in
    let put = puts_part (body (goal.at.surround-requires c).After-length_at) (ended k) c.copy_nodes.ensures in (
      p.term,
      castdown (castup a e),
      e,
      p.put e,
      s.args.out.now,
      p.around e,
      p.coded,
      p.short,
      s.requires.1,
      rw c.in_ok-end.ensures.ok_part at put,
    )

pub returns : goal.returns
unfolding step under cancelled
returns c =
    let s = (goal.at.returns c).Start in
    let k = (goal.at.returns c).After-length_at-2 in
    let (a, e, p) = redex s in
    let put = puts_part (body (goal.at.returns c).After-length_at) (ended k) c.copy_nodes.ensures in
    reaches p Cancellation e (λ v. refl)
    (c.surround.ensures _ _ e (p.put e) _ (p.around e) p.coded (rw c.in_ok-end.ensures.ok_part at put))

pub overflow_add-body : goal.overflow_add-body
overflow_add-body c = omega (arith, lies_node (body c))

pub overflow_add-behind : goal.overflow_add-behind
overflow_add-behind c = omega (arith, within c)

pub overflow_mul-body : goal.overflow_mul-body
overflow_mul-body c = omega (arith, ended c, within c)

pub overflow_mul-behind : goal.overflow_mul-behind
overflow_mul-behind c = omega (arith, within c)

pub offset_bounds-state-body : goal.offset_bounds-state-body
offset_bounds-state-body c = omega (arith, ended c, within c)

pub slice_bounds-copy_nodes-count : goal.slice_bounds-copy_nodes-count
slice_bounds-copy_nodes-count c = omega (arith, ended c)

pub slice_bounds-copy_nodes-start : goal.slice_bounds-copy_nodes-start
slice_bounds-copy_nodes-start c = omega (arith, ended c)

pub slice_bounds-copy_nodes-end : goal.slice_bounds-copy_nodes-end
slice_bounds-copy_nodes-end c = omega (arith, ended c, within c)
