-- `find` meets its contract. What `read` accepts is a term's words; its own word says how many parts there are, and the walk over
-- the words behind it finds the first, and behind that the second.
use Prim.Native.Nat.{◌+◌, ◌≤◌}
use mathlib.Core.Path.{◌≡◌, ◌∙◌}
use native.Mathlib.Omega.{arith}
use lib.ListN.{length, get_or}
use Rattle.calculus.specs.Answer.{ok}
use Rattle.calculus.specs.Scan.{read}
use Rattle.term.specs.Subterms.{outcome}
use Rattle.term.proofs.Finding.{found_refused, not_refused, inhabited, found_first, found_second, found_none, from_on, in_tail}
use Rattle.term.proofs.Words.{two_at_most}
use Rattle.term.proofs.find.Goals as goal
use Rattle.term.proofs.find.Goals.{After-span-second, Else-is_err}

-- Behind the test of what `read` answers, the words are a term's.
is_term : (c : goal.Else-is_err) → ok tt ≡ outcome (read c.args.term.now)
is_term c = not_refused c.read.result c.if-is_err.ensures.value ∙ c.read.ensures

pub returns-then-is_err : goal.returns-then-is_err
returns-then-is_err c = found_refused _ _ c.read.result c.if-is_err.ensures.value c.read.ensures

pub bounds-term-0 : goal.bounds-term-0
bounds-term-0 c = inhabited _ (is_term (goal.at.bounds-term-0 c).Else-is_err)

pub slice_bounds-span-count : goal.slice_bounds-span-count
slice_bounds-span-count c = inhabited _ (is_term (goal.at.slice_bounds-span-count c).Else-is_err)

pub slice_bounds-span-start : goal.slice_bounds-span-start
slice_bounds-span-start c = inhabited _ (is_term (goal.at.slice_bounds-span-start c).Else-is_err)

pub returns-then-count-ge1 : goal.returns-then-count-ge1
returns-then-count-ge1 c =
    rw
    (c.if-number-eq1.true, c.span.ensures.0, from_on)
    (found_first _ (is_term (goal.at.returns-then-count-ge1 c).Else-is_err) (omega (arith, c.parts-count.ensures, c.if-count-ge1.true)))

pub slice_bounds-span-count-then-count-ge2 : goal.slice_bounds-span-count-then-count-ge2
slice_bounds-span-count-then-count-ge2 c = inhabited _ (is_term (goal.at.slice_bounds-span-count-then-count-ge2 c).Else-is_err)

pub slice_bounds-span-start-then-count-ge2 : goal.slice_bounds-span-start-then-count-ge2
slice_bounds-span-start-then-count-ge2 c = inhabited _ (is_term (goal.at.slice_bounds-span-start-then-count-ge2 c).Else-is_err)

-- The first part ends within the words.
second_within : (c : goal.After-span-second)
    → 1 + c.span-second.result ≤ length c.args.term.now
second_within c =
    let t = (goal.at.slice_bounds-span-count-then-count-ge2-2 c).Else-is_err in
    let ws = t.args.term.now in
    in_tail ws 1 c.span-second.result (inhabited ws (is_term t)) c.span-second.ensures.1

pub slice_bounds-span-count-then-count-ge2-2 : goal.slice_bounds-span-count-then-count-ge2-2
slice_bounds-span-count-then-count-ge2-2 c = second_within c

pub slice_bounds-span-start-then-count-ge2-2 : goal.slice_bounds-span-start-then-count-ge2-2
slice_bounds-span-start-then-count-ge2-2 c = second_within c

pub returns-then-count-ge2 : goal.returns-then-count-ge2
returns-then-count-ge2 c =
    rw
    (c.if-number-eq2.true, c.span-then-count-ge2.ensures.0, from_on, c.span-second.ensures.0, from_on)
    (found_second _ (is_term (goal.at.returns-then-count-ge2 c).Else-is_err) (omega (arith, c.parts-count.ensures, c.if-count-ge2.true)))

-- Behind both tests the number is none of a part.
pub returns : goal.returns
returns c =
    found_none _ (is_term (goal.at.returns c).Else-is_err) _ λ some.
    grind (arith, c.parts-count.ensures, two_at_most (get_or c.args.term.now 0 0), c.else-number-eq1.either, c.else-number-eq2.either)
