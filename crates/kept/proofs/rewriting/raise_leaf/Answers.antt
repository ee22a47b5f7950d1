-- `raise_leaf` meets its contract: a variable that is free has its index raised, a bound one, a star and a name are the same
-- raised.
use Prim.Native.Nat.{◌*◌, ◌<◌}
use native.Mathlib.Omega.{arith}
use borrow.Author.Rules.{rules}
use lib.ListN.{length}
use Rattle.term.proofs.Keeping.{lies_within}
use Rattle.kept.proofs.InPlace.{free_raised, bound_raised, name_raised}
use Rattle.kept.proofs.rewriting.raise_leaf.Goals as goal
use Rattle.kept.proofs.rewriting.raise_leaf.Goals.{Start}

-- The node stands in the slice.
inside : (c : goal.Start) → 2 * c.args.node < length c.args.slice.now
inside c = omega (arith, lies_within c.requires.0.1.lies, c.requires.0.2)

pub overflow_mul-word : goal.overflow_mul-word
overflow_mul-word c = let h = inside (goal.at.overflow_mul-word c).Start in search rules

pub offset_bounds-slice-node : goal.offset_bounds-slice-node
offset_bounds-slice-node c = let h = inside (goal.at.offset_bounds-slice-node c).Start in search rules

pub bounds-slice-node : goal.bounds-slice-node
bounds-slice-node c = inside (goal.at.bounds-slice-node c).Start

pub returns-then-word-lt2048 : goal.returns-then-word-lt2048
returns-then-word-lt2048 c e l has one =
    let a = c.args in
    free_raised a.by a.depth l one c.if-depth-word.true c.if-word-lt2048.true

pub returns-else-word-lt2048 : goal.returns-else-word-lt2048
returns-else-word-lt2048 c e l has one =
    let a = c.args in
    name_raised a.by a.depth l has one c.if-word-lt2048.false

pub returns-else-depth-word : goal.returns-else-depth-word
returns-else-depth-word c e l has one = bound_raised c.args.by c.args.depth l one c.if-depth-word.false
