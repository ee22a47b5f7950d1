-- Of an answer of inference its map keeps a refusal whole. (A type's length and that of its subterm stand in `TypeFound`.)
use Prim.Native.Nat.{ℕ}
use mathlib.Core.Bool.{true≢false}
use mathlib.Core.Path.{◌≡◌, sym, ap₂, ◌∙◌}
use Rattle.calculus.specs.Answer.{Reason, refused}
use Rattle.term.proofs.Maps.{reason_of_injective}
use Rattle.std.specs.Prelude.{Result, Ok, Err}
use Rattle.inference.specs.declared.Typed.{Typed}
use Rattle.term.specs.declared.refusal.Refusal.{Refusal}
use Rattle.inference.specs.Inference.{inferred_of}

pub inferred_refused : (r s : Result Typed Refusal) {x : Reason} {p : ℕ} → inferred_of r ≡ refused x p → inferred_of s ≡ refused x p → r ≡ s
inferred_refused (Ok t) s d e = absurd (true≢false (cc d))
inferred_refused (Err f) (Ok t) d e = absurd (true≢false (cc e))
inferred_refused (Err f) (Err g) d e =
    let same = d ∙ sym e in
    ap₂ (λ r p. Err (record { reason = r; place = p })) (reason_of_injective f.reason g.reason (cc same)) (cc same)
