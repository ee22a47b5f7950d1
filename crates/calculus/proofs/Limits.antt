-- Inference at two limits goes through the same tests with the same outcomes, up to the first type that the larger limit has room for
-- and the smaller one has not. So the larger one keeps every answer but 16, and for that it answers as typing does: a type, or a
-- refusal by one of 10–16 at a place of the term. By recursion on the term, test by test.
use Prim.Native.Nat.{ℕ, ◌+◌, ◌≤◌}
use mathlib.Core.Bool.{Bool, true, false}
use mathlib.Core.List.{◌∷◌}
use native.Mathlib.Decide.{dec_le}
use native.Mathlib.Nat.{le_refl, le_trans}
use native.Mathlib.Omega.{arith}
use lib.Dec.{lit≤}
use Rattle.calculus.specs.Term.{Term, var, star, app, lam, pi, castup, castdown, mu, name, size, raise, substitute}
use Rattle.calculus.specs.Answer.{Reason, Answer, ok, refused, ◌>>=◌, ◌>>◌, require, number, not_star, wrong_argument, wrong_cast, wrong_recursion, over_limit}
use Rattle.calculus.specs.Words.{first_part, second_part}
use Rattle.calculus.specs.Book.{View}
use Rattle.calculus.specs.Rules.{Context}
use Rattle.calculus.specs.Step.{Next, value, stuck, next}
use Rattle.calculus.specs.Infer.{annotation, stored, same, measure, product, stepped, infer}
use Rattle.calculus.proofs.Says.{Says, says_ok, says_refused, By}
use Rattle.calculus.proofs.Testing.{fitting, over}

-- What typing answers: something, or a refusal by one of 10–16 at a place up to `n`.
abbrev pub Numbered : {A : Type 0} → ℕ → Answer A → Type 0
Numbered n x = Says (λ _. Unit {0}) (By 10 16 n) x

-- `Keeps n x y`: the answer `x` at a limit is the answer `y` at a larger one, or it is a refusal by 16, and `y` any answer of typing.
pub data Keeps {A : Type 0} (n : ℕ) : Answer A → Answer A → Type 0 where
  kept : {x : Answer A} → Numbered n x → Keeps n x x
  sixteen : {p : ℕ} {y : Answer A} → Numbered n y → Keeps n (refused over_limit p) y

-- The answer at the larger limit.
larger : {A : Type 0} {n : ℕ} {x y : Answer A} → Keeps n x y → Numbered n y
larger (kept h) = h
larger (sixteen h) = h

-- One thing after another.
then : {A B : Type 0} {n : ℕ} {x y : Answer A} {f g : A → Answer B}
    → Keeps n x y
    → ((a : A) → Keeps n (f a) (g a))
    → Keeps n (x >>= f) (y >>= g)
unfolding ◌>>=◌
then (kept (says_ok {a} _)) h = h a
then (kept (says_refused q)) h = kept (says_refused q)
then (sixteen (says_ok {a} _)) h = sixteen (larger (h a))
then (sixteen (says_refused q)) h = sixteen (says_refused q)

-- The tests at a place `p`.
module _ {n : ℕ} (p : ℕ) (here : p ≤ n) where
  equal : (r : Reason) → 10 ≤ number r → number r ≤ 16 → (σ τ : Term) → Keeps n (require r p (same σ τ)) (require r p (same σ τ))
  unfolding require
  equal r l u σ τ = kept (on (same σ τ))
    where
      on : (b : Bool) → Numbered n (require r p b)
      on true = says_ok tt
      on false = says_refused (l, u, here)

  a_product : (τ : Term) → Keeps n (product p τ) (product p τ)
  unfolding product number
  a_product τ = kept (on τ)
    where
      on : (τ : Term) → Numbered n (product p τ)
      on (var i) = says_refused (lit≤ tt, lit≤ tt, here)
      on star = says_refused (lit≤ tt, lit≤ tt, here)
      on (app f u) = says_refused (lit≤ tt, lit≤ tt, here)
      on (lam a e) = says_refused (lit≤ tt, lit≤ tt, here)
      on (pi a b) = says_ok tt
      on (castup a e) = says_refused (lit≤ tt, lit≤ tt, here)
      on (castdown e) = says_refused (lit≤ tt, lit≤ tt, here)
      on (mu a e) = says_refused (lit≤ tt, lit≤ tt, here)
      on (name i) = says_refused (lit≤ tt, lit≤ tt, here)

  steps : (x : Next) → Keeps n (stepped p x) (stepped p x)
  unfolding stepped number
  steps x = kept (on x)
    where
      on : (x : Next) → Numbered n (stepped p x)
      on value = says_refused (lit≤ tt, lit≤ tt, here)
      on stuck = says_refused (lit≤ tt, lit≤ tt, here)
      on (next k τ) = says_ok tt

  fits : {L L' : ℕ} → L ≤ L' → (τ : Term) → Keeps n (measure L p τ) (measure L' p τ)
  unfolding number
  fits {L} {L'} more τ = on (dec_le (size τ) L) (dec_le (size τ) L')
    where
      on : Dec (size τ ≤ L) → Dec (size τ ≤ L') → Keeps n (measure L p τ) (measure L' p τ)
      on (yes h) d = rw (fitting p τ h, fitting p τ (le_trans h more)) (kept (says_ok tt))
      on (no h) (yes h') = rw (over {L = L} p τ (omega arith), fitting p τ h') (sixteen (says_ok tt))
      on (no h) (no h') =
          rw
          (over {L = L} p τ (omega arith), over {L = L'} p τ (omega arith))
          (kept (says_refused (lit≤ tt, lit≤ tt, here)))

-- By any step, and with any stored types.
module _ (T : View) (step : Term → Next) {L L' n : ℕ} (more : L ≤ L') where
  pub infer_keeps : (Γ : Context) (p : ℕ) (e : Term) → p + size e ≤ n → Keeps n (infer T step L Γ p e) (infer T step L' Γ p e)
  unfolding infer ◌>>◌ size number
  infer_keeps Γ p (var i) h = fits p (omega arith) more (annotation Γ i)
  infer_keeps Γ p star h = fits p (omega arith) more star
  infer_keeps Γ p (app f u) h =
      then (infer_keeps Γ (first_part p) f (omega arith)) λ τ.
      then (a_product p (omega arith) τ) λ (a, b).
      then (infer_keeps Γ (second_part p f) u (omega arith)) λ σ.
      then (equal p (omega arith) wrong_argument (lit≤ tt) (lit≤ tt) σ a) λ _.
      fits p (omega arith) more (substitute 0 u b)
  infer_keeps Γ p (lam a e) h =
      then (infer_keeps Γ (first_part p) a (omega arith)) λ σ.
      then (equal (first_part p) (omega arith) not_star (lit≤ tt) (lit≤ tt) σ star) λ _.
      then (infer_keeps (a ∷ Γ) (second_part p a) e (omega arith)) λ b.
      fits p (omega arith) more (pi a b)
  infer_keeps Γ p (pi a b) h =
      then (infer_keeps Γ (first_part p) a (omega arith)) λ σ.
      then (equal (first_part p) (omega arith) not_star (lit≤ tt) (lit≤ tt) σ star) λ _.
      then (infer_keeps (a ∷ Γ) (second_part p a) b (omega arith)) λ τ.
      then (equal (second_part p a) (omega arith) not_star (lit≤ tt) (lit≤ tt) τ star) λ _.
      fits p (omega arith) more star
  infer_keeps Γ p (castup a e) h =
      then (infer_keeps Γ (first_part p) a (omega arith)) λ σ.
      then (equal (first_part p) (omega arith) not_star (lit≤ tt) (lit≤ tt) σ star) λ _.
      then (infer_keeps Γ (second_part p a) e (omega arith)) λ τ.
      then (steps p (omega arith) (step a)) λ a'.
      then (fits p (omega arith) more a') λ _.
      then (equal p (omega arith) wrong_cast (lit≤ tt) (lit≤ tt) a' τ) λ _.
      fits p (omega arith) more a
  infer_keeps Γ p (castdown e) h =
      then (infer_keeps Γ (first_part p) e (omega arith)) λ τ.
      then (steps p (omega arith) (step τ)) λ τ'.
      fits p (omega arith) more τ'
  infer_keeps Γ p (mu a e) h =
      then (infer_keeps Γ (first_part p) a (omega arith)) λ σ.
      then (equal (first_part p) (omega arith) not_star (lit≤ tt) (lit≤ tt) σ star) λ _.
      then (infer_keeps (a ∷ Γ) (second_part p a) e (omega arith)) λ τ.
      then (equal p (omega arith) wrong_recursion (lit≤ tt) (lit≤ tt) τ (raise 1 0 a)) λ _.
      fits p (omega arith) more a
  infer_keeps Γ p (name i) h = fits p (omega arith) more (stored (T i))

pub infer_numbered : (T : View) (step : Term → Next) (L : ℕ) (Γ : Context) (p : ℕ) (e : Term) → Numbered (p + size e) (infer T step L Γ p e)
infer_numbered T step L Γ p e = larger (infer_keeps T step (le_refl L) Γ p e (le_refl _))

-- A type that is answered fits the limit: the last test of every node measures it.
abbrev pub Fitting : ℕ → Answer Term → Type 0
Fitting L x = Says (λ τ. size τ ≤ L) (λ r p. Unit {0}) x

measured : (L p : ℕ) (τ : Term) → Fitting L (measure L p τ)
measured L p τ = on (dec_le (size τ) L)
  where
    on : Dec (size τ ≤ L) → Fitting L (measure L p τ)
    on (yes h) = rw (fitting p τ h) (says_ok h)
    on (no h) = rw (over {L = L} p τ (omega arith)) (says_refused tt)

last : {A : Type 0} {L : ℕ} (x : Answer A) {f : A → Answer Term} → ((a : A) → Fitting L (f a)) → Fitting L (x >>= f)
unfolding ◌>>=◌
last (ok a) h = h a
last (refused r p) h = says_refused tt

pub infer_fits : (T : View) (step : Term → Next) (L : ℕ) (Γ : Context) (p : ℕ) (e : Term) → Fitting L (infer T step L Γ p e)
unfolding infer ◌>>◌
infer_fits T step L Γ p (var i) = measured L p _
infer_fits T step L Γ p star = measured L p _
infer_fits T step L Γ p (app f u) = last _ λ τ. last _ λ (a, b). last _ λ σ. last _ λ _. measured L p _
infer_fits T step L Γ p (lam a e) = last _ λ σ. last _ λ _. last _ λ b. measured L p _
infer_fits T step L Γ p (pi a b) = last _ λ σ. last _ λ _. last _ λ τ. last _ λ _. measured L p _
infer_fits T step L Γ p (castup a e) = last _ λ σ. last _ λ _. last _ λ τ. last _ λ a'. last _ λ _. last _ λ _. measured L p _
infer_fits T step L Γ p (castdown e) = last _ λ τ. last _ λ τ'. measured L p _
infer_fits T step L Γ p (mu a e) = last _ λ σ. last _ λ _. last _ λ τ. last _ λ _. measured L p _
infer_fits T step L Γ p (name i) = measured L p _
