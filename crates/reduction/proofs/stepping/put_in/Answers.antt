-- `put_in` meets its contract: the kept length tells where the redex ends, and with it the part that is put in.
use Rattle.std.proofs.Common.{◌≡◌, ◌+◌, ◌*◌, ◌≤◌, ◌<◌, ◌∙◌, length, ap, arith}
use Rattle.calculus.specs.Term.{Term, size, substitute}
use Rattle.term.specs.Kept.{kept}
use Rattle.term.proofs.Keeping.{lies_within}
use Rattle.kept.specs.Writing.{Puts}
use Rattle.reduction.specs.Stepping.{PutIn}
use Rattle.reduction.proofs.Placing.{lies_node, lies_part}
use Rattle.reduction.proofs.Replacing.{argument_fits, body_fits}
use Rattle.reduction.proofs.Surrounding.{around_lies, at_exit, lacks_room, part_lacks}
use Rattle.reduction.proofs.stepping.put_in.Goals as goal
use Rattle.reduction.proofs.stepping.put_in.Goals.{After-length_at, After-substitute, Start}

inside : (c : goal.Start) → 2 * c.args.at + 1 < length c.args.state.now
inside c = let (y, p) = c.requires.1 in lies_node (around_lies p.around p.coded)

-- The kept length is that of the redex.
ended : (c : goal.After-length_at) {y : Term}
    → let a = c.args in
    (p : PutIn a.state.now a.at a.body a.argument y) → a.at + c.length_at.result ≡ a.at + size p.redex
ended c p = ap (λ n. c.args.at + n) (c.length_at.ensures.value_2 p.redex (around_lies p.around p.coded))

within : (c : goal.After-length_at)
    → (c.args.argument ≤ c.args.at + c.length_at.result) × (2 * (c.args.at + c.length_at.result) ≤ length c.args.state.now)
within c =
    let (y, p) = c.requires.1 in
    let end = ended c p in
    (omega (arith, end, p.outer_ends), omega (arith, end, p.outer_ends, lies_within p.outer_lies))

-- What the redex steps to is written, if it fits.
wrote : (c : goal.After-substitute) {y : Term}
    → let a = c.args in
    (p : PutIn a.state.now a.at a.body a.argument y)
    → a.at + c.length_at.result ≡ a.at + size p.redex
    → Puts (kept (substitute 0 p.outer p.inner)) a.out.now a.at c.substitute.result c.substitute.new.out
wrote c p end =
    c.substitute.ensures p.inner p.outer p.inner_lies p.inner_worded (lies_part p.outer_lies (end ∙ p.outer_ends)) p.outer_worded

pub overflow_mul-at : goal.overflow_mul-at
overflow_mul-at c = omega (arith, inside (goal.at.overflow_mul-at c).Start)

pub returns-then-out-at : goal.returns-then-out-at
returns-then-out-at c y p = lacks_room p.around p.coded _ (omega (arith, c.if-out-at.true))

pub length_at-requires : goal.length_at-requires
length_at-requires c = inside (goal.at.length_at-requires c).Start

pub substitute-requires : goal.substitute-requires
substitute-requires c =
    let s = (goal.at.substitute-requires c).Start in
    let k = (goal.at.substitute-requires c).After-length_at in
    let (y, p) = s.requires.1 in
    let held = s.requires.0 in (
      c.if-out-at.false,
      omega (arith, s.requires.2),
      body_fits p.around p.coded p.has_words p.short held p.inner_lies p.inner_scoped,
      argument_fits p.around p.coded p.has_words p.short held p.outer_lies (ended k p ∙ p.outer_ends) p.outer_scoped,
    )

pub returns-in_err-end : goal.returns-in_err-end
returns-in_err-end c y p =
    let put = wrote (goal.at.returns-in_err-end c).After-substitute p (ended (goal.at.returns-in_err-end c).After-length_at p) in
    let (none, full) = at_exit c.substitute.result c.from_residual.result c.in_err-end.ensures.value c.from_residual.ensures.1 in
    rw full (part_lacks p.around p.coded (rw none at put))

pub surround-requires : goal.surround-requires
surround-requires c =
    let s = (goal.at.surround-requires c).Start in
    let (y, p) = s.requires.1 in
    let put = wrote (goal.at.surround-requires c).After-substitute p (ended (goal.at.surround-requires c).After-length_at p) in (
      p.term,
      p.redex,
      substitute 0 p.outer p.inner,
      y,
      s.args.out.now,
      p.around,
      p.coded,
      p.short,
      s.requires.2,
      rw c.in_ok-end.ensures.ok_part at put,
    )

pub returns : goal.returns
returns c y p =
    let put = wrote (goal.at.returns c).After-substitute p (ended (goal.at.returns c).After-length_at p) in
    c.surround.ensures _ _ (substitute 0 p.outer p.inner) y _ p.around p.coded (rw c.in_ok-end.ensures.ok_part at put)

pub overflow_mul-argument : goal.overflow_mul-argument
overflow_mul-argument c = omega (arith, within c)

pub offset_bounds-state-argument : goal.offset_bounds-state-argument
offset_bounds-state-argument c = omega (arith, within c)

pub slice_bounds-substitute-count : goal.slice_bounds-substitute-count
slice_bounds-substitute-count c = omega (arith, within c)

pub slice_bounds-substitute-start : goal.slice_bounds-substitute-start
slice_bounds-substitute-start c = omega (arith, within c)

pub slice_bounds-substitute-end : goal.slice_bounds-substitute-end
slice_bounds-substitute-end c = omega (arith, within c)
