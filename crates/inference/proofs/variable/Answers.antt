-- `variable` meets its contract. The walk from the annotation's place measures the annotation; noted at `top` and raised there,
-- it is as long.
use Prim.Native.Nat.{◌+◌, ◌-◌}
use mathlib.Core.Path.{◌≡◌, ap, ◌∙◌}
use native.Mathlib.Omega.{arith}
use lib.ListN.{length, take, drop}
use Rattle.calculus.specs.Term.{Term, size}
use Rattle.calculus.specs.Words.{words}
use Rattle.calculus.proofs.Coding.{words_length}
use Rattle.inference.specs.Inference.{Annotation, inferred_of}
use Rattle.inference.proofs.Annotated.{annotation_span, annotation_words, annotation_fits, annotation_noted, raises}
use Rattle.kept.proofs.InPlace.{fits_worded}
use Rattle.inference.proofs.variable.Goals as goal
use Rattle.inference.proofs.variable.Goals.{After-note, After-raise, After-span-length, Start}

pub returns-then-check-length : goal.returns-then-check-length
returns-then-check-length c = λ a k.
    let long = annotation_span k in
    record { fits = λ h. absurd (omega arith); over = λ h. ap inferred_of c.refused.ensures }

-- The annotation is measured.
module _ (c : goal.After-span-length) {a : Term}
    (k : Annotation a c.args.index c.args.check.now.term.now c.args.from) where
  measured : c.span-length.result ≡ size a
  measured = c.span-length.ensures.0 ∙ annotation_span k

  cut : take (c.args.from + c.span-length.result - c.args.from) (drop c.args.from c.args.check.now.term.now) ≡ words a
  cut =
      annotation_words k (c.args.from + c.span-length.result - c.args.from) (omega (arith, measured))

pub note-requires : goal.note-requires
note-requires c =
    let v = (goal.at.note-requires c).After-span-length in
    let k = v.requires.0 in
    let e = cut v k.1 in
    let long = ap length e ∙ words_length k.0 in
    let same = measured v k.1 in
    (omega (arith, long), omega (arith, long, (annotation_fits k.1).short), (k.0, e))

pub raise-requires : goal.raise-requires
raise-requires c =
    let v = (goal.at.raise-requires c).After-span-length in
    let k = c.requires.0 in
    let g = c.args in
    let noted = c.note.ensures k.0 (cut v k.1) in
    let same = measured v k.1 in
    let few = c.if-check-length.false in
    let whole = annotation_noted k.1 g.work.now g.top g.check.now.limit v.span-length.result same few c.requires.1 noted in
    ((k.0, whole, annotation_fits k.1), omega (arith, k.1.near))

pub returns : goal.returns
returns c = λ a k.
    let v = (goal.at.returns c).After-span-length in
    let g = c.args in
    let same = measured v k in
    let noted = c.note.ensures a (cut v k) in
    let few = c.if-check-length.false in
    let whole = annotation_noted k g.work.now g.top g.check.now.limit v.span-length.result same few c.requires.1 noted in
    raises k g.work.now g.top g.check.now.limit v.span-length.result same few c.requires.1 noted g.place
    (c.raise.ensures a whole (fits_worded (annotation_fits k)))
