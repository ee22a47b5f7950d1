-- `is_clear` meets its contract: the flag says of the words so far whether they are clear.
use mathlib.Core.Bool.{true, ◌&&◌}
use mathlib.Core.Logic.{◌↔◌}
use mathlib.Core.Path.{◌≡◌, subst}
use borrow.Author.Rules.{rules}
use lib.Dec.{eqb}
use Rattle.std.proofs.lemmas.Fn.{fold_over, slice_gives, fronts}
use Rattle.kept.proofs.Zeros.{IsClear, clear_none, clear_push}
use Rattle.kept.proofs.clearing.is_clear.Goals as goal

pub returns : goal.returns
returns c =
    subst
    (λ ws. (c.fold.result ≡ true) ↔ IsClear ws)
    c.iter.ensures.rest
    (fold_over
    fronts
    (λ y. y.now)
    _
    (λ ws b. (b ≡ true) ↔ IsClear ws)
    _
    (λ ws a x b f h called. let is : b ≡ (a && eqb x.now 0) = search rules in (clear_push ws x.now a h is, search rules))
    _ _ _ _ (slice_gives c.iter.result) clear_none c.fold.ensures.ran)
