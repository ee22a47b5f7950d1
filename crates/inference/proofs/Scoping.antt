-- The type that inference finds is in scope of the context and names what is in the book, over any book that is held, and it fits the
-- limit, since it was measured.
use Prim.Native.Nat.{ℕ, ◌≤◌}
use mathlib.Core.List.{List}
use mathlib.Core.Path.{◌≡◌}
use lib.ListN.{length}
use Rattle.calculus.specs.Term.{Term, size}
use Rattle.calculus.specs.Answer.{ok}
use Rattle.calculus.specs.Rules.{Context}
use Rattle.calculus.specs.Infer.{Fitted, FittedContext}
use Rattle.calculus.specs.Book.{types}
use Rattle.calculus.proofs.Says.{of_ok}
use Rattle.calculus.proofs.Limits.{infer_fits}
use Rattle.calculus.proofs.Found.{book_fitted}
use Rattle.book.specs.declared.Reader.{Reader}
use Rattle.book.specs.Layout.{Holds, decode, entries}
use Rattle.book.proofs.Entries.{types_fitted, bodies_fitted, sight_bodies}
use Rattle.inference.specs.Moving.{next_of}
use Rattle.inference.specs.Inference.{judge}

pub inferred_fitted : (who : Reader) (book : List ℕ) (L : ℕ) (Γ : Context) (p : ℕ) (e : Term) {τ : Term}
    → Holds (decode book) book
    → FittedContext (entries book) Γ
    → Fitted (entries book) (length Γ) e
    → judge who book L Γ p e ≡ ok τ
    → Fitted (entries book) (length Γ) τ
unfolding next_of
inferred_fitted who book L Γ p e h c f x =
    let B = decode book in
    book_fitted (entries book) B (types_fitted B h) (bodies_fitted B h) (sight_bodies who B) L Γ p e c f x

pub inferred_fits : (who : Reader) (book : List ℕ) (L : ℕ) (Γ : Context) (p : ℕ) (e : Term) {τ : Term}
    → judge who book L Γ p e ≡ ok τ
    → size τ ≤ L
inferred_fits who book L Γ p e x = of_ok (rw x at (infer_fits (types (decode book)) (next_of who book) L Γ p e))
