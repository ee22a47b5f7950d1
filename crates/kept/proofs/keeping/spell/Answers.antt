use Prim.Native.Nat.{ℕ, ◌*◌, ◌≤◌, ◌<◌}
use mathlib.Core.List.{List}
use mathlib.Core.Path.{◌≡◌, ap, ◌∙◌}
use native.Mathlib.Nat.{zero-add}
use native.Mathlib.Omega.{arith}
use lib.ListN.{length}
use lib.Seq.{sets, take_all}
use Rattle.calculus.specs.Term.{Term, size}
use Rattle.calculus.specs.Words.{words}
use Rattle.calculus.proofs.Coding.{words_length}
use Rattle.term.specs.Kept.{kept}
use Rattle.term.proofs.Keeping.{spelled, kept_spelled, kept_length}
use Rattle.term.proofs.KeptLengths.{spelled_word}
use Rattle.kept.proofs.Stores.{sets_next}
use Rattle.kept.proofs.Begun.{sets_begun}
use Rattle.kept.proofs.keeping.spell.Goals as goal

spelled_all : (t : Term) {slice : List ℕ} → slice ≡ kept t → spelled slice ≡ words t
spelled_all t e = ap spelled e ∙ kept_spelled t

-- Half of the kept words are the plain ones, which there is room for.
half : {slice : List ℕ} (out : List ℕ)
    → (t : Term) × (slice ≡ kept t) × (size t ≤ length out)
    → (length slice ≡ 2 * length (spelled slice)) × (length (spelled slice) ≤ length out)
half out (t, e, fits) =
    let plain = ap length (spelled_all t e) ∙ words_length t in
    (omega (arith, plain, ap length e ∙ kept_length t), omega (arith, plain))

pub bounds-out-i : goal.bounds-out-i
bounds-out-i c = omega (arith, half c.args.out.now c.requires)

pub loop-i-preserved : goal.loop-i-preserved
loop-i-preserved c =
    let a = c.args in
    let i = c.loop-i.i in
    let plain = spelled a.slice.now in
    let inside : i < length plain = omega (arith, half c.args.out.now c.requires) in
    rw (c.loop-i.invariant, ← spelled_word a.slice.now i inside) (rw (zero-add i) at (sets_next a.out.now 0 plain i inside))

pub returns : goal.returns
returns c t e =
    let a = c.args in
    let plain = spelled_all t e in
    c.loop-i.invariant
    ∙ ap (sets a.out.now 0) (take_all c.loop-i.i (spelled a.slice.now) (omega (arith, half c.args.out.now c.requires)) ∙ plain)
    ∙ sets_begun a.out.now (words t) (omega (arith, half c.args.out.now c.requires, ap length plain))
