-- The type of a name is the stored one, as it lies in the book: a name of a subject is one of the book's, so that it is defined there.
use Prim.Native.Nat.{ℕ, ◌+◌, ◌*◌, ◌≤◌}
use mathlib.Core.List.{List}
use mathlib.Core.Option.{some}
use mathlib.Core.Path.{◌≡◌, refl}
use native.Mathlib.Omega.{arith}
use lib.ListN.{length}
use Rattle.calculus.specs.Term.{name, size}
use Rattle.calculus.specs.Words.{Named}
use Rattle.calculus.specs.Book.{Definition, entry}
use Rattle.calculus.specs.Rules.{Context}
use Rattle.calculus.specs.Infer.{infer, stored}
use Rattle.calculus.proofs.Testing.{fitting, over}
use Rattle.book.specs.declared.Reader.{Reader}
use Rattle.book.specs.Layout.{Defines, decode}
use Rattle.book.proofs.Entries.{entry_of, types_entry}
use Rattle.std.specs.Prelude.{Result}
use Rattle.inference.specs.declared.Typed.{Typed}
use Rattle.term.specs.declared.refusal.Refusal.{Refusal}
use Rattle.inference.specs.Inference.{judge, Subject, Stores, Infers, refuses}
use Rattle.inference.proofs.Passing.{found}
use Rattle.inference.proofs.Putting.{within_or_over}
use Rattle.inference.proofs.Written.{written_type}

module _ {book : List ℕ} {Γ : Context} {i : ℕ} {term sub places : List ℕ} {depth : ℕ} (S : Subject book Γ (name i) term sub places depth) where
  pub name_defined : (d : Definition) × Defines d i book
  unfolding Named
  name_defined = let (d, e) = entry_of (decode book) i S.named in (d, S.holds.each i d e)

  -- It is the type, if it fits.
  pub infers_stored : (who : Reader) {L p : ℕ} {work : List ℕ} {top : ℕ} {r : Result Typed Refusal} {after : List ℕ}
      → 2 * (top + L) ≤ length work
      → ((d : Definition) → Defines d i book → Stores d.type p L work top r after)
      → Infers (judge who book L Γ p (name i)) (name i) places depth work top r after places
  unfolding Named infer stored size
  infers_stored who {L} {p} {work} {top} {r} {after} room R = at (entry_of (decode book) i S.named)
    where
      at : (d : Definition) × (entry (decode book) i ≡ some d) → Infers (judge who book L Γ p (name i)) (name i) places depth work top r after places
      at (d, e) =
          let τ = d.type in
          let R = R d (S.holds.each i d e) in
          rw
          (types_entry (decode book) i d e)
          (within_or_over τ L
          (λ h.
          found (fitting {L = L} p τ h)
          (rw (R.fits h).0 (written_type work τ refl refl (R.fits h).1 (omega arith) refl refl refl)))
          (λ h. rw (over {L = L} p τ h) (refuses (R.over h))))
