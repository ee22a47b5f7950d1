-- `definition` meets its contract: the stored type, as it lies in the book, is noted at `top`.
use mathlib.Core.Path.{◌≡◌, ap, ◌∙◌}
use native.Mathlib.Omega.{arith}
use lib.ListN.{length}
use Rattle.calculus.specs.Term.{size}
use Rattle.calculus.specs.Words.{words}
use Rattle.calculus.specs.Book.{Definition}
use Rattle.calculus.proofs.Coding.{words_length}
use Rattle.book.specs.Layout.{Defines}
use Rattle.inference.specs.Inference.{inferred_of}
use Rattle.std.specs.Prelude.{Ok}
use Rattle.inference.proofs.definition.Goals as goal
use Rattle.inference.proofs.definition.Goals.{After-stored_type-stored, Start}

-- What was looked up is the stored type.
module _ (c : goal.After-stored_type-stored) {d : Definition}
    (h : Defines d c.args.number c.args.check.now.book.now) where
  looked_up : c.stored_type-stored.result.now ≡ words d.type
  looked_up = c.stored_type-stored.ensures d (rw c.from.ensures h)

  measured : length c.stored_type-stored.result.now ≡ size d.type
  measured = ap length looked_up ∙ words_length d.type

pub stored_type-stored-requires : goal.stored_type-stored-requires
stored_type-stored-requires c = let (d, h) = c.requires.2 in (d, rw c.from.ensures h)

pub returns-then-check-stored : goal.returns-then-check-stored
returns-then-check-stored c = λ d h.
    let long = measured (goal.at.returns-then-check-stored c).After-stored_type-stored h in
    record { fits = λ n. absurd (omega arith); over = λ n. ap inferred_of c.refused.ensures }

pub note-requires : goal.note-requires
note-requires c =
    let v = (goal.at.note-requires c).After-stored_type-stored in
    let (d, h) = v.requires.2 in
    let long = measured v h in
    (omega arith, omega (arith, h.type.short), (d.type, looked_up v h))

pub returns : goal.returns
returns c = λ d h.
    let v = (goal.at.returns c).After-stored_type-stored in
    let long = measured v h in
    record {
      fits = λ n. (ap (λ k. Ok (record { read = 1; length = k })) long, c.note.ensures d.type (looked_up v h));
      over = λ n. absurd (omega arith);
    }
