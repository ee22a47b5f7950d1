-- `put_same` meets its contract: the words of a leaf, or those of a longer part, are the kept words of the subterm.
use Prim.Native.Nat.{◌+◌, ◌*◌, ◌≤◌}
use mathlib.Core.Path.{◌≡◌, sym, ◌∙◌}
use native.Mathlib.Omega.{arith}
use borrow.Author.Rules.{rules}
use lib.ListN.{length}
use Rattle.calculus.specs.Term.{size}
use Rattle.calculus.proofs.Coding.{size_positive}
use Rattle.term.proofs.Nodes.{view}
use Rattle.term.proofs.Keeping.{lies_within}
use Rattle.kept.proofs.Composed.{puts_as}
use Rattle.kept.proofs.Putting.{kept_single, part_taken}
use Rattle.kept.proofs.rewriting.put_same.Goals as goal
use Rattle.kept.proofs.rewriting.put_same.Goals.{After-length_at-length}

-- The subterm stands in the slice whole.
inside : (c : After-length_at-length) → 2 * (c.args.node + c.length_at-length.result) ≤ length c.args.source.now
inside c =
    let (e, l) = c.requires.1 in
    omega (arith, c.length_at-length.ensures.value_2 e l, lies_within l)

pub length_at-length-requires : goal.length_at-length-requires
length_at-length-requires c =
    let (e, l) = c.requires.1 in
    omega (arith, lies_within l, size_positive e)

pub returns-then-length-eq1 : goal.returns-then-length-eq1
returns-then-length-eq1 c e l =
    let one : size e ≡ 1 = sym (c.length_at-length.ensures.value_2 e l) ∙ c.if-length-eq1.true in
    puts_as c.put.ensures (sym (kept_single (view e) l one))

pub overflow_mul-node-2 : goal.overflow_mul-node-2
overflow_mul-node-2 c = let h = inside (goal.at.overflow_mul-node-2 c).After-length_at-length in search rules

pub overflow_mul-end : goal.overflow_mul-end
overflow_mul-end c = let h = inside (goal.at.overflow_mul-end c).After-length_at-length in search rules

pub offset_bounds-source-node-2 : goal.offset_bounds-source-node-2
offset_bounds-source-node-2 c = let h = inside (goal.at.offset_bounds-source-node-2 c).After-length_at-length in search rules

pub slice_bounds-copy_nodes-end : goal.slice_bounds-copy_nodes-end
slice_bounds-copy_nodes-end c = inside (goal.at.slice_bounds-copy_nodes-end c).After-length_at-length

pub returns : goal.returns
returns c e l = puts_as c.copy_nodes.ensures (part_taken l (c.length_at-length.ensures.value_2 e l))
