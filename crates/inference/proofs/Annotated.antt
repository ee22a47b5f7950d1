-- The annotation of a variable, as it stands in the term: the words from its place on begin with its own, so that the walk over
-- them measures it. Raising keeps its length, so that it fits the limit raised if it fits as it stands.
use Prim.Native.Nat.{ℕ, suc, ◌+◌, ◌-◌, ◌*◌, ◌≤◌}
use mathlib.Core.List.{List, ◌++◌}
use mathlib.Core.Path.{◌≡◌, ap, ◌∙◌}
use native.Mathlib.Numerals.{add-one}
use native.Mathlib.Omega.{arith}
use lib.ListN.{length, take, drop, length-drop}
use lib.Seq.{sets}
use Rattle.calculus.specs.Term.{Term, size, raise}
use Rattle.calculus.specs.Words.{words, longest}
use Rattle.calculus.proofs.Coding.{emit_length}
use Rattle.term.specs.Kept.{kept}
use Rattle.term.specs.Walk.{span}
use Rattle.term.proofs.Walking.{span_emit}
use Rattle.term.proofs.Finding.{from_on}
use Rattle.kept.specs.Rewriting.{Fits}
use Rattle.inference.specs.Inference.{Annotation, Raises}
use Rattle.std.specs.Prelude.{Ok}
use Rattle.inference.proofs.KeptTypes.{written, raised_there}
use Rattle.inference.proofs.Subjects.{behind, begun_words}

module _ {a : Term} {index : ℕ} {term : List ℕ} {from : ℕ} (A : Annotation a index term from) where
  pub annotation_span : span (behind from term) 1 ≡ size a
  annotation_span = ap (λ ws. span ws 1) (from_on term from ∙ A.begins) ∙ span_emit a A.rest

  pub annotation_words : (n : ℕ) → n ≡ size a → take n (drop from term) ≡ words a
  annotation_words n same = begun_words a n A.rest A.begins same

  annotation_short : size a ≤ longest
  annotation_short = omega (arith, ap length A.begins, emit_length a A.rest, length-drop from term, A.short)

  pub annotation_fits : Fits a
  annotation_fits = record { short = annotation_short; scoped = A.scoped }

  -- The annotation, `n` words long, was noted at `top`.
  module _ (work : List ℕ) {noted : List ℕ} (top limit n : ℕ)
      (same : n ≡ size a) (fits : n ≤ limit) (room : 2 * (top + limit) ≤ length work)
      (x : noted ≡ sets work (2 * top) (kept a)) where
    pub annotation_noted : take (2 * (top + n) - 2 * top) (drop (2 * top) noted) ≡ kept a
    annotation_noted =
        let many : 2 * (top + n) - 2 * top ≡ 2 * size a = omega arith in
        ap (λ k. take k (drop (2 * top) noted)) many ∙ written work top a x (omega arith)

    -- Then it was raised there.
    pub raises : (place : ℕ) {part : List ℕ}
        → part ≡ kept (raise (index + 1) 0 a)
        → Raises a index place limit work top (Ok (record { read = 1; length = n }))
        (take (2 * top) noted ++ (part ++ drop (2 * (top + n) - 2 * top) (drop (2 * top) noted)))
    raises place y =
        let m = 2 * (top + n) - 2 * top in
        let many : m ≡ 2 * size a = omega arith in
        let raised = rw (add-one index) at y in
        record {
          fits = λ h. (ap (λ k. Ok (record { read = 1; length = k })) same, raised_there work top (suc index) m a (omega arith) many x raised);
          over = λ h. absurd (omega arith);
        }
