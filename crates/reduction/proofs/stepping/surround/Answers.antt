-- `surround` meets its contract: the kept length tells where the redex ended, so what is copied stands behind it; and the lengths
-- of the nodes before it are moved by the difference that what it steps to makes.
use Rattle.std.proofs.Common.{◌≡◌, ◌+◌, ◌*◌, ◌≤◌, length, ap, arith}
use Rattle.calculus.specs.Term.{Term, size}
use Rattle.calculus.proofs.Coding.{size_positive}
use Rattle.term.specs.Kept.{kept}
use Rattle.term.proofs.Keeping.{kept_length}
use Rattle.reduction.specs.Stepping.{Around}
use Rattle.kept.proofs.Composed.{put_place, put_length, put_room}
use Rattle.reduction.proofs.Surrounding as around
use Rattle.reduction.proofs.Surrounding.{around_lies, around_length, around_within, around_movable, at_exit}
use Rattle.reduction.proofs.stepping.surround.Goals as goal
use Rattle.reduction.proofs.stepping.surround.Goals.{After-length_at, Start}

-- The redex lies within the state.
inside : (c : goal.Start) → 2 * c.args.at + 2 * size c.requires.1 ≤ length c.args.state.now
inside c = omega (arith, around_within c.requires.5 c.requires.6, around_length c.requires.5 c.requires.6)

pub length_at-requires : goal.length_at-requires
length_at-requires c =
    let s = (goal.at.length_at-requires c).Start in
    omega (arith, inside s, size_positive s.requires.1)

-- The kept length is that of the redex.
known : (c : goal.After-length_at) {t s x y : Term}
    → let a = c.args in
    Around t a.at s x y → a.state.now ≡ kept t → a.at + c.length_at.result ≡ a.at + size s
known c {s = s} r coded =
    ap (λ n. c.args.at + n) (c.length_at.ensures.value_2 s (around_lies r coded))

ended : (c : goal.After-length_at)
    → 2 * (c.args.at + c.length_at.result) ≤ length c.args.state.now
ended c =
    let s = (goal.at.overflow_add-old c).Start in
    omega (arith, known c s.requires.5 s.requires.6, inside s)

pub copy-requires : goal.copy-requires
copy-requires c = put_room c.requires.9

pub returns-in_err-last : goal.returns-in_err-last
returns-in_err-last c t s x y first r coded p =
    let l = (goal.at.returns-in_err-last c).After-length_at in
    let (none, full) = at_exit c.copy.result c.from_residual.result c.in_err-last.ensures.value c.from_residual.ensures.1 in
    rw full (around.rest_lacks r coded p (known l r coded) c.copy.ensures none)

pub lead-requires : goal.lead-requires
lead-requires c =
    let l = (goal.at.lead-requires c).After-length_at in
    let (t, s, x, y, first, r, coded, short, small, p) = l.requires in
    let (place, stored) = put_place p in
    let copied = around.rest_length r coded p (known l r coded) c.copy.ensures c.in_ok-last.ensures.ok_part in
    let room = put_room p in (
      omega (arith, ended l),
      omega (arith, place, copied, put_length p, room),
      omega (arith, ended l, around_length r coded),
      omega (arith, put_length p, room),
      around_movable r coded _ _ (omega (arith, place, kept_length x, known l r coded)) short,
    )

pub returns : goal.returns
returns c t s x y first r coded p =
    let l = (goal.at.returns c).After-length_at in
    around.whole_arrives r coded p (known l r coded) c.copy.ensures c.in_ok-last.ensures.ok_part c.lead.ensures

pub overflow_add-old : goal.overflow_add-old
overflow_add-old c = omega (arith, ended c)

pub slice_bounds-copy-count : goal.slice_bounds-copy-count
slice_bounds-copy-count c = omega (arith, ended c)

pub slice_bounds-copy-start : goal.slice_bounds-copy-start
slice_bounds-copy-start c = omega (arith, ended c)
