-- What the pieces of inference answer: each test passes where the rules pass and refuses, by its own reason and at its own place,
-- where they do not. Each is its definition, computed at what the test decides.
use Prim.Native.Nat.{ℕ, ◌≤◌, ◌<◌}
use mathlib.Core.Bool.{true, false, decide, decide_iff}
use mathlib.Core.Logic.{◌≢◌}
use mathlib.Core.Path.{◌≡◌, refl, ap}
use Rattle.calculus.specs.Term.{Term, var, star, app, lam, pi, castup, castdown, mu, name, size, raise}
use Rattle.calculus.specs.Answer.{ok, refused, ◌>>=◌, ◌>>◌, require, not_product, no_step, over_limit}
use Rattle.calculus.specs.Book.{View}
use Rattle.calculus.specs.Rules.{Context, ◌⊩◌⟶◌, CanStep, ◌∋◌⦂◌, here, there}
use Rattle.calculus.specs.Step.{Next, step}
use Rattle.calculus.specs.Infer.{annotation, same, measure, product, stepped}
use Rattle.calculus.proofs.Comparisons.{le_leb, gt_leb}
use Rattle.calculus.proofs.Stepping.{step_next, Finds, finds_value, finds_stuck, finds_next, step_finds}

decide_no : {P : Type 0} (d : Dec P) → ¬ P → decide d ≡ false
unfolding decide
decide_no (yes x) n = absurd (n x)
decide_no (no _) n = refl

pub equal : (τ : Term) → same τ τ ≡ true
unfolding same
equal τ = (decide_iff _).1 refl

pub unequal : {σ τ : Term} → σ ≢ τ → same σ τ ≡ false
unfolding same
unequal n = decide_no _ n

pub fitting : {L : ℕ} (p : ℕ) (τ : Term) → size τ ≤ L → measure L p τ ≡ ok τ
unfolding measure ◌>>◌ ◌>>=◌ require
fitting {L} p τ h = ap (λ b. require over_limit p b >> ok τ) (le_leb (size τ) L h)

pub over : {L : ℕ} (p : ℕ) (τ : Term) → L < size τ → measure L p τ ≡ refused over_limit p
unfolding measure ◌>>◌ ◌>>=◌ require
over {L} p τ h = ap (λ b. require over_limit p b >> ok τ) (gt_leb (size τ) L h)

pub no_product : (p : ℕ) {τ : Term} → ((a b : Term) → τ ≢ pi a b) → product p τ ≡ refused not_product p
unfolding product
no_product p {τ = var i} n = refl
no_product p {τ = star} n = refl
no_product p {τ = app f u} n = refl
no_product p {τ = lam a e} n = refl
no_product p {τ = pi a b} n = absurd (n a b refl)
no_product p {τ = castup a e} n = refl
no_product p {τ = castdown e} n = refl
no_product p {τ = mu a e} n = refl
no_product p {τ = name i} n = refl

pub steps : {v : View} (p : ℕ) {τ τ' : Term} → v ⊩ τ ⟶ τ' → stepped p (step v τ) ≡ ok τ'
unfolding stepped
steps p s = ap (stepped p) (step_next s)

pub rests : {v : View} (p : ℕ) {τ : Term} → ¬ CanStep v τ → stepped p (step v τ) ≡ refused no_step p
unfolding stepped
rests {v} p {τ} n = at (step_finds v τ)
  where
    at : {x : Next} → Finds v τ x → stepped p x ≡ refused no_step p
    at (finds_value w) = refl
    at (finds_stuck _ _) = refl
    at (finds_next s k) = absurd (n (_, s))

pub annotation_of : {Γ : Context} {i : ℕ} {τ : Term} → Γ ∋ i ⦂ τ → annotation Γ i ≡ τ
unfolding annotation
annotation_of here = refl
annotation_of (there v) = ap (raise 1 0) (annotation_of v)
