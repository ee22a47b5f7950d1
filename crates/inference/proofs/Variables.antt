-- The type of a variable is its annotation, which stands at the place that the context has for it, raised over the annotations from
-- there on: as many as its index and one.
use Prim.Native.Nat.{ℕ, zero, suc, ◌+◌, ◌-◌, ◌*◌, ◌≤◌, ◌<◌}
use mathlib.Core.List.{List, [], ◌∷◌}
use mathlib.Core.Path.{◌≡◌, refl, sym, ap, ◌∙◌}
use native.Mathlib.Nat.{le_of_suc-le-suc}
use native.Mathlib.Omega.{arith}
use lib.ListN.{length, drop, get_or}
use Rattle.calculus.specs.Term.{Term, var, star, size, raise}
use Rattle.calculus.specs.Words.{emit, Scoped}
use Rattle.calculus.specs.Rules.{Context}
use Rattle.calculus.specs.Infer.{FittedContext, infer, measure, annotation}
use Rattle.calculus.proofs.Bridge.{raise_moves, raise_more}
use Rattle.calculus.proofs.Testing.{fitting, over}
use Rattle.calculus.proofs.Scoping.{scoped_more}
use Rattle.std.specs.Prelude.{Result}
use Rattle.inference.specs.declared.Typed.{Typed}
use Rattle.term.specs.declared.refusal.Refusal.{Refusal}
use Rattle.inference.specs.Inference.{judge, Subject, Placed, Annotation, Raises, Infers, refuses}
use Rattle.inference.proofs.Passing.{found}
use Rattle.inference.proofs.Putting.{within_or_over}
use Rattle.kept.proofs.InPlace.{raise_size}
use Rattle.inference.proofs.Rooms.{subject_shallow}
use Rattle.inference.proofs.Written.{written_type}
use Rattle.book.specs.declared.Reader.{Reader}

-- A variable's annotation as it stands, outside its own binder.
unfoldable pub standing : Context → ℕ → Term
standing [] i = star
standing (τ ∷ Γ) zero = τ
standing (τ ∷ Γ) (suc i) = standing Γ i

annotation_raised : (Γ : Context) (i : ℕ) → i < length Γ → annotation Γ i ≡ raise (suc i) 0 (standing Γ i)
unfolding annotation standing
annotation_raised [] i h = absurd (omega arith)
annotation_raised (τ ∷ Γ) zero h = refl
annotation_raised (τ ∷ Γ) (suc i) h =
    ap (raise 1 0) (annotation_raised Γ i (le_of_suc-le-suc h)) ∙ raise_moves _ ∙ raise_more (suc i) (standing Γ i)

standing_scoped : (N : ℕ) (Γ : Context) (i : ℕ) → FittedContext N Γ → i < length Γ → Scoped (length Γ) (standing Γ i)
unfolding standing FittedContext
standing_scoped N [] i w h = absurd (omega arith)
standing_scoped N (τ ∷ Γ) zero ((s, n), w) h = scoped_more τ (omega arith) s
standing_scoped N (τ ∷ Γ) (suc i) (f, w) h =
    scoped_more (standing Γ i) (omega arith) (standing_scoped N Γ i w (le_of_suc-le-suc h))

standing_placed : (term : List ℕ) (Γ : Context) (places : List ℕ) (i from : ℕ)
    → i < length Γ
    → Placed term Γ places
    → from ≡ get_or places (length Γ - 1 - i) 0
    → ((rest : List ℕ) × (drop from term ≡ emit (standing Γ i) rest)) × (from ≤ length term)
unfolding standing Placed
standing_placed term [] places i from h p x = absurd (omega arith)
standing_placed term (τ ∷ Γ) places zero from h p x =
    let z : suc (length Γ) - 1 - 0 ≡ length Γ = omega arith in
    let y = x ∙ ap (λ k. get_or places k 0) z in
    ((p.0.0, ap (λ k. drop k term) y ∙ p.0.1), omega (arith, y, p.1))
standing_placed term (τ ∷ Γ) places (suc i) from h p x =
    let z : suc (length Γ) - 1 - suc i ≡ length Γ - 1 - i = omega arith in
    standing_placed term Γ places i from (le_of_suc-le-suc h) p.2 (x ∙ ap (λ k. get_or places k 0) z)

module _ {book : List ℕ} {Γ : Context} {i : ℕ} {term sub places : List ℕ} {depth : ℕ} (S : Subject book Γ (var i) term sub places depth) where
  pub bound : i < depth
  unfolding Scoped
  bound = S.scoped

  pub annotated : {from : ℕ} → from ≡ get_or places (depth - 1 - i) 0 → Annotation (standing Γ i) i term from
  annotated {from} x =
      let h : i < length Γ = omega (arith, bound, S.around) in
      let stands = standing_placed term Γ places i from h S.placed (x ∙ ap (λ n. get_or places (n - 1 - i) 0) S.around) in
      record {
        rest = stands.0.0;
        begins = stands.0.1;
        within = stands.1;
        short = S.short;
        scoped = scoped_more (standing Γ i) (omega (arith, S.around, subject_shallow S)) (standing_scoped _ Γ i S.fitted h);
        near = omega (arith, bound, subject_shallow S);
      }

  -- The raised annotation is the type.
  pub infers_annotation : (who : Reader) {L p : ℕ} {work : List ℕ} {top : ℕ} {r : Result Typed Refusal} {after : List ℕ}
      → 2 * (top + L) ≤ length work
      → Raises (standing Γ i) i p L work top r after
      → Infers (judge who book L Γ p (var i)) (var i) places depth work top r after places
  unfolding infer size
  infers_annotation who {L} {p} {work} room R =
      within_or_over (standing Γ i) L
      (λ h.
      found (ap (measure L p) same ∙ fitting {L = L} p type (omega (arith, long)))
      (rw (R.fits h).0 (written_type work type refl (sym long) (R.fits h).1 (omega (arith, long)) refl refl refl)))
      (λ h. rw (same, over {L = L} p type (omega (arith, long))) (refuses (R.over h)))
    where
      type : Term
      type = raise (suc i) 0 (standing Γ i)

      same : annotation Γ i ≡ type
      same = annotation_raised Γ i (omega (arith, bound, S.around))

      long : size type ≡ size (standing Γ i)
      long = raise_size (suc i) 0 (standing Γ i)
