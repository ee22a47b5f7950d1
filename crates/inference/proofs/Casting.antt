-- What inference answers for a cast, by what it found of the parts: each is the definition, computed along the tests that passed.
use Prim.Native.Nat.{ℕ, suc, ◌+◌, ◌≤◌, ◌<◌}
use mathlib.Core.List.{List}
use mathlib.Core.Logic.{◌≢◌}
use mathlib.Core.Path.{◌≡◌, refl}
use Rattle.calculus.specs.Term.{Term, star, castup, castdown, size}
use Rattle.calculus.specs.Answer.{Answer, ok, refused, ◌>>=◌, ◌>>◌, require, no_step, wrong_cast, over_limit}
use Rattle.calculus.specs.Rules.{Context}
use Rattle.calculus.specs.Kinds.{Kind}
use Rattle.calculus.specs.Step.{next}
use Rattle.calculus.specs.Infer.{infer, same, measure, stepped}
use Rattle.calculus.proofs.Testing.{equal, unequal, fitting, over}
use Rattle.inference.specs.Inference.{judge, star_typed}
use Rattle.inference.proofs.Passing.{star_first}
use Rattle.inference.proofs.Parts.{Both}
use Rattle.inference.specs.Moving.{next_of}
use Rattle.book.specs.declared.Reader.{Reader}

-- The place `q` of the body is the one behind `p`.
module _ (who : Reader) (book : List ℕ) (L : ℕ) (Γ : Context) (p q : ℕ) (e : Term) (at : q ≡ suc p) where
  pub down : judge who book L Γ p (castdown e) ≡ (judge who book L Γ q e >>= λ τ. stepped p (next_of who book τ) >>= measure L p)
  unfolding infer
  down = rw at refl

  module _ {τ : Term} (f : judge who book L Γ q e ≡ ok τ) where
    pub down_rests : stepped p (next_of who book τ) ≡ refused no_step p → judge who book L Γ p (castdown e) ≡ refused no_step p
    unfolding ◌>>=◌
    down_rests s = rw (down, f, s) refl

    pub down_over : {k : Kind} (x : Term) → next_of who book τ ≡ next k x → L < size x → judge who book L Γ p (castdown e) ≡ refused over_limit p
    unfolding ◌>>=◌ stepped
    down_over x s h = rw (down, f, s) (over p x h)

    pub down_typed : {k : Kind} (x : Term) → next_of who book τ ≡ next k x → size x ≤ L → judge who book L Γ p (castdown e) ≡ ok x
    unfolding ◌>>=◌ stepped
    down_typed x s h = rw (down, f, s) (fitting p x h)

-- What an up cast does once its body has the type τ.
abbrev pub up_tests : Reader → List ℕ → ℕ → ℕ → Term → Term → Answer Term
up_tests who book L p a τ = do
  a' ← stepped p (next_of who book a)
  _ ← measure L p a'
  require wrong_cast p (same a' τ)
  measure L p a

-- The annotation comes first, at `q`.
pub up_annotation : (who : Reader) (book : List ℕ) (L : ℕ) (Γ : Context) (p q : ℕ) (a e : Term)
    → q ≡ suc p
    → judge who book L Γ p (castup a e) ≡ (star_typed who book L Γ q a >>= λ _. judge who book L Γ (suc p + size a) e >>= up_tests who book L p a)
unfolding infer star_typed
up_annotation who book L Γ p q a e at = rw at (star_first (judge who book L Γ (suc p) a) (suc p) (judge who book L Γ (suc p + size a) e >>= up_tests who book L p a))

-- Then the body, at `q`.
pub up_body : (who : Reader) (book : List ℕ) (L : ℕ) (Γ : Context) (p q : ℕ) (a e : Term)
    → judge who book L Γ (suc p) a ≡ ok star
    → q ≡ suc p + size a
    → judge who book L Γ p (castup a e) ≡ (judge who book L Γ q e >>= up_tests who book L p a)
unfolding infer ◌>>=◌ ◌>>◌ require
up_body who book L Γ p q a e f at = rw (f, equal star, at) refl

-- Both parts of an up cast are typed.
module _ {who : Reader} {book : List ℕ} {L : ℕ} {Γ : Context} {p : ℕ} {a e : Term} {places : List ℕ} {depth : ℕ} {work : List ℕ} {top n more m : ℕ} {after places' : List ℕ}
    (B : Both who book L Γ Γ p a e places depth work top top n more m after places') where
  up_tested : judge who book L Γ p (castup a e) ≡ up_tests who book L p a B.type
  unfolding infer ◌>>=◌ ◌>>◌ require
  up_tested = rw (B.annotation, equal star, B.body) refl

  pub up_rests : stepped p (next_of who book a) ≡ refused no_step p → judge who book L Γ p (castup a e) ≡ refused no_step p
  unfolding ◌>>=◌
  up_rests s = rw (up_tested, s) refl

  pub up_step_over : {k : Kind} (x : Term) → next_of who book a ≡ next k x → L < size x → judge who book L Γ p (castup a e) ≡ refused over_limit p
  unfolding ◌>>=◌ stepped
  up_step_over x s h = rw (up_tested, s, over p x h) refl

  pub up_other : {k : Kind} (x : Term) → next_of who book a ≡ next k x → size x ≤ L → x ≢ B.type → judge who book L Γ p (castup a e) ≡ refused wrong_cast p
  unfolding ◌>>=◌ ◌>>◌ require stepped
  up_other x s h n = rw (up_tested, s, fitting p x h, unequal n) refl

  pub up_measured : {k : Kind} (x : Term) → next_of who book a ≡ next k x → size x ≤ L → x ≡ B.type → judge who book L Γ p (castup a e) ≡ measure L p a
  unfolding ◌>>=◌ ◌>>◌ require stepped
  up_measured x s h q = rw (up_tested, s, fitting p x h, ← q, equal x) refl
