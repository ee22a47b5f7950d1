-- `step_type` meets its contract. The type is a kept term, so that it has room in `held`; its step is that of the copy.
use Prim.Native.Nat.{◌*◌, ◌≤◌}
use mathlib.Core.Path.{◌≡◌, sym, ◌∙◌, subst}
use native.Mathlib.Omega.{arith}
use lib.ListN.{take, drop}
use Rattle.calculus.specs.Term.{Term}
use Rattle.calculus.specs.Words.{longest}
use Rattle.term.specs.Kept.{kept}
use Rattle.inference.proofs.Holding.{copied_cut}
use Rattle.inference.proofs.KeptTypes.{cut_size}
use Rattle.inference.specs.Moving.{HeldWithin}
use Rattle.inference.proofs.moving.step_type.Goals as goal
use Rattle.inference.proofs.moving.step_type.Goals.{After-copy}

short : (c : goal.After-copy) → c.args.count ≤ longest
short c =
    let p = c.requires in
    let H = p.4 in
    omega (arith, cut_size H.term c.args.work.now c.args.top c.args.count p.2 H.coded, H.short)

pub shared_ref_as_front-step_held : goal.shared_ref_as_front-step_held
shared_ref_as_front-step_held c =
    omega (arith, c.copy.auto.out, c.told-held, short (goal.at.shared_ref_as_front-step_held c).After-copy)

-- What is held is the type.
cut : (c : goal.After-copy) (b : Term)
    → take (2 * c.args.count) (drop (2 * c.args.top) c.args.work.now) ≡ kept b
    → take (2 * c.args.count) c.copy.new.out ≡ kept b
cut c b h =
    copied_cut c.args.work.now c.args.held.now c.args.top c.args.count c.requires.2 (short c) c.told-held
    c.copy.ensures b h

pub step_held-requires : goal.step_held-requires
step_held-requires c =
    let v = (goal.at.step_held-requires c).After-copy in
    let p = c.requires in
    let H = p.4 in
    (p.0, p.1, p.3, subst (λ x. HeldWithin c.args.check.now.book.now x c.args.closed) (H.coded ∙ sym (cut v H.term H.coded)) H)

pub returns : goal.returns
returns c = λ b h has none.
    c.step_held.ensures b (cut (goal.at.returns c).After-copy b h) has none
