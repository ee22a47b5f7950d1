-- `same` meets its contract: lists of different lengths differ, and those of one length are compared by the fold.
use Rattle.std.proofs.Common.{rules}
use borrow.Author.Tests.{tests}
use Rattle.std.proofs.lemmas.Iterator.{YieldsList-from_slice, YieldsList-from_zip, items_from_drains}
use Rattle.inference.proofs.Alike.{alike_all}
use Rattle.inference.proofs.comparing.same.Goals as goal

pub returns-then-first-second : goal.returns-then-first-second
returns-then-first-second c =
    let a = c.args in
    let (xs, f, drains, turns) = c.fold.ensures.ran in
    let items = items_from_drains xs (drains.1.0, drains.1.1, λ _. (drains.0, drains.1.2))
    (YieldsList-from_zip (YieldsList-from_slice a.first.now cc) (YieldsList-from_slice a.second.now cc)) in
    alike_all _ _ _ (λ x y q k. search (rules, tests)) xs _ f a.first.now a.second.now turns items (search rules)
