-- `part` meets its contract: `find` says where the part stands, which is within the words.
use Prim.Native.Nat.{◌+◌, ◌≤◌}
use mathlib.Core.Path.{refl, sym, subst}
use native.Mathlib.Nat.{add-sub_cancel_left}
use native.Mathlib.Omega.{arith}
use lib.ListN.{length}
use Rattle.calculus.specs.Outcomes.{Found, part}
use Rattle.calculus.proofs.PartLaw.{found_within}
use Rattle.term.proofs.part.Goals as goal
use Rattle.term.proofs.part.Goals.{After-find-found}

within : (c : goal.After-find-found) → c.find-found.result.start + c.find-found.result.length ≤ length c.args.term.now
within c =
    let ws = c.args.term.now in
    subst (λ (f : Found). f.start + f.extent ≤ length ws) (sym c.find-found.ensures) (found_within _ _)

pub overflow_add-end : goal.overflow_add-end
overflow_add-end c = omega (arith, within (goal.at.overflow_add-end c).After-find-found)

pub offset_bounds-term-start : goal.offset_bounds-term-start
offset_bounds-term-start c = omega (arith, within (goal.at.offset_bounds-term-start c).After-find-found)

pub slice_bounds-result-end : goal.slice_bounds-result-end
slice_bounds-result-end c = within (goal.at.slice_bounds-result-end c).After-find-found

pub returns : goal.returns
unfolding part
returns c =
    (rw (add-sub_cancel_left, ← c.find-found.ensures) refl, rw (← c.find-found.ensures) refl)
