-- The measures of the cycle of calls. A node's function is called on the words that `infer` has, and calls `infer` and `star_part` on
-- strictly fewer, since a part begins behind the node's first word; `star_part` calls `infer` on the same words. So with three for
-- each word the node's functions have 0 more, `infer` 1 and `star_part` 2.
use Rattle.std.proofs.Common.{◌+◌, ◌*◌, length}
use Rattle.inference.proofs.+inferring.Given as goal

abbrev pub decreases-abstraction : goal.decreases-abstraction
decreases-abstraction l = 3 * length l.sub.now

abbrev pub decreases-application : goal.decreases-application
decreases-application l = 3 * length l.sub.now

abbrev pub decreases-cast_down : goal.decreases-cast_down
decreases-cast_down l = 3 * length l.sub.now

abbrev pub decreases-cast_up : goal.decreases-cast_up
decreases-cast_up l = 3 * length l.sub.now

abbrev pub decreases-infer : goal.decreases-infer
decreases-infer l = 3 * length l.sub.now + 1

abbrev pub decreases-product : goal.decreases-product
decreases-product l = 3 * length l.sub.now

abbrev pub decreases-recursion : goal.decreases-recursion
decreases-recursion l = 3 * length l.sub.now

abbrev pub decreases-star_part : goal.decreases-star_part
decreases-star_part l = 3 * length l.sub.now + 2
