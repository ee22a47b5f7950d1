-- The type that inference found of a subterm: it is in scope of the context and names what is in the book, it fits the limit, and so it
-- is such as a step asks for where it is kept.
use Prim.Native.Nat.{ℕ, ◌≤◌}
use mathlib.Core.Bool.{Bool, true}
use mathlib.Core.List.{List}
use mathlib.Core.Path.{◌≡◌}
use native.Mathlib.Omega.{arith}
use lib.ListN.{length}
use Rattle.calculus.specs.Term.{Term, size}
use Rattle.calculus.specs.Answer.{ok}
use Rattle.calculus.specs.Words.{Scoped, Named, Worded, longest}
use Rattle.calculus.specs.Rules.{Context}
use Rattle.calculus.specs.Infer.{Fitted}
use Rattle.book.specs.Layout.{entries}
use Rattle.calculus.proofs.Coding.{worded}
use Rattle.term.specs.Kept.{kept}
use Rattle.inference.specs.Inference.{judge, Subject}
use Rattle.inference.proofs.Scoping.{inferred_fitted, inferred_fits}
use Rattle.inference.proofs.Rooms.{subject_shallow, own_scope, deeper_scoped, closed_scoped}
use Rattle.inference.specs.Moving.{HeldWithin}
use Rattle.book.specs.declared.Reader.{Reader}

module _ {book : List ℕ} {Γ : Context} {e : Term} {term sub places : List ℕ} {depth : ℕ}
    (S : Subject book Γ e term sub places depth) (who : Reader) (L p : ℕ) {τ : Term} (x : judge who book L Γ p e ≡ ok τ) where
  type_fitted : Fitted (entries book) (length Γ) τ
  type_fitted = inferred_fitted who book L Γ p e S.holds S.fitted (own_scope S, S.named) x

  pub type_scoped : Scoped (length Γ) τ
  type_scoped = type_fitted.0

  pub type_named : Named (entries book) τ
  type_named = type_fitted.1

  pub type_fits : size τ ≤ L
  type_fits = inferred_fits who book L Γ p e x

  pub type_worded : L ≤ longest → Worded τ
  type_worded h = worded (length Γ) τ type_scoped (omega (arith, type_fits, S.around, subject_shallow S))

  pub type_held : {ws : List ℕ} (closed : Bool) → L ≤ longest → ws ≡ kept τ → (closed ≡ true → depth ≡ 0) → HeldWithin book ws closed
  type_held closed h y shut =
      record {
        term = τ;
        coded = y;
        short = omega (arith, type_fits);
        scoped = deeper_scoped S τ type_scoped;
        named = type_named;
        shut = λ c. closed_scoped S τ type_scoped (shut c);
      }
