-- `step_into` meets its contract: its step is that of the same term, noted.
use Prim.Native.Nat.{◌*◌}
use mathlib.Core.Path.{◌≡◌, ap, ◌∙◌}
use native.Mathlib.Omega.{arith}
use lib.ListN.{length, take}
use Rattle.calculus.specs.Term.{Term}
use Rattle.calculus.specs.Words.{words}
use Rattle.calculus.proofs.Coding.{words_length}
use Rattle.term.specs.Kept.{kept}
use Rattle.inference.proofs.Holding.{codes_size, front_cut, noted_within}
use Rattle.inference.proofs.moving.step_into.Goals as goal
use Rattle.inference.proofs.moving.step_into.Goals.{After-note}

pub note-requires : goal.note-requires
note-requires c =
    let A = c.requires.3.codes in
    let many = codes_size A in
    (omega (arith, c.told-held, A.short), omega (arith, A.short), (A.term, A.coded))

pub shared_ref_as_front-step_held : goal.shared_ref_as_front-step_held
shared_ref_as_front-step_held c =
    let A = c.requires.3.codes in
    omega (arith, c.note.auto.out, c.told-held, codes_size A, A.short)

-- What is held is the term.
cut : (c : goal.After-note) (b : Term)
    → c.args.state.now ≡ words b
    → take (2 * length c.args.state.now) c.note.new.out ≡ kept b
cut c b h =
    let A = c.requires.3.codes in
    let count = ap length h ∙ words_length b in
    front_cut c.args.held.now b (length c.args.state.now) (c.note.ensures b h)
    (omega (arith, count, c.told-held, codes_size A, A.short)) count

pub step_held-requires : goal.step_held-requires
step_held-requires c =
    let p = c.requires in
    (p.0, p.1, p.2, noted_within p.3 (cut (goal.at.step_held-requires c).After-note p.3.codes.term p.3.codes.coded))

pub returns : goal.returns
returns c = λ b h has none.
    c.step_held.ensures b (cut (goal.at.returns c).After-note b h) has none
