-- What inference answers is in scope and names only what is stored, over any book whose stored terms do, whether or not it was grown: the
-- rules have no part in it. By recursion on the term, test by test: a type is an annotation or a stored type, a part of a type that was
-- found, one with an argument put in, or the next state of one; and each of these keeps to the scope and to the names.
use Prim.Native.Nat.{ℕ, zero, suc, ◌+◌, ◌-◌, ◌≤◌, ◌<◌, zero-le}
use mathlib.Core.Bool.{Bool, true, false, cond}
use mathlib.Core.List.{[], ◌∷◌}
use mathlib.Core.Option.{Option, none, some, none-ne-some}
use mathlib.Core.Path.{◌≡◌, refl, subst}
use native.Mathlib.Decide.{dec_le}
use native.Mathlib.Omega.{arith}
use lib.Dec.{ltb, eqb}
use lib.ListN.{length}
use Rattle.calculus.specs.Term.{Term, var, star, app, lam, pi, castup, castdown, mu, name, size, raise, substitute}
use Rattle.calculus.specs.Answer.{Answer, ok, refused, ◌>>=◌, ◌>>◌}
use Rattle.calculus.specs.Words.{Scoped, Named, first_part, second_part}
use Rattle.calculus.specs.Book.{Book, View, ◌⊆◌, types, bodies}
use Rattle.calculus.specs.Rules.{Context, ◌⊩◌⟶◌, s_beta, s_castdownup, s_app, s_castdown, s_mu, s_name}
use Rattle.calculus.specs.Kinds.{Kind}
use Rattle.calculus.specs.Step.{Next, value, stuck, next, step}
use Rattle.calculus.specs.Infer.{Fitted, FittedContext, annotation, stored, measure, product, stepped, infer}
use Rattle.calculus.proofs.Says.{Says, says_ok, says_refused, of_ok}
use Rattle.calculus.proofs.Scoping.{scoped_more, step_scoped}
use Rattle.calculus.proofs.Stepping.{next_step}
use Rattle.calculus.proofs.Testing.{fitting, over}

-- What a view shows is closed.
abbrev pub Shows : ℕ → View → Type 0
Shows N v = (i : ℕ) (e : Term) → v i ≡ some e → Fitted N 0 e

-- Names are neither raised nor put in but as parts of what is put in.
raise_named : (N n c : ℕ) (t : Term) → Named N t → Named N (raise n c t)
unfolding Named raise
raise_named N n c (var i) h = tt
raise_named N n c star h = tt
raise_named N n c (app f u) h = (raise_named N n c f h.0, raise_named N n c u h.1)
raise_named N n c (lam a e) h = (raise_named N n c a h.0, raise_named N n (suc c) e h.1)
raise_named N n c (pi a b) h = (raise_named N n c a h.0, raise_named N n (suc c) b h.1)
raise_named N n c (castup a e) h = (raise_named N n c a h.0, raise_named N n c e h.1)
raise_named N n c (castdown e) h = raise_named N n c e h
raise_named N n c (mu a e) h = (raise_named N n c a h.0, raise_named N n (suc c) e h.1)
raise_named N n c (name i) h = h

substitute_named : (N k : ℕ) (s t : Term) → Named N s → Named N t → Named N (substitute k s t)
unfolding Named substitute
substitute_named N k s (var i) h g = on (ltb i k) (eqb i k)
  where
    on : (a b : Bool) → Named N (cond a (var i) (cond b (raise k 0 s) (var (i - 1))))
    on true b = tt
    on false true = raise_named N k 0 s h
    on false false = tt
substitute_named N k s star h g = tt
substitute_named N k s (app f u) h g = (substitute_named N k s f h g.0, substitute_named N k s u h g.1)
substitute_named N k s (lam a e) h g = (substitute_named N k s a h g.0, substitute_named N (suc k) s e h g.1)
substitute_named N k s (pi a b) h g = (substitute_named N k s a h g.0, substitute_named N (suc k) s b h g.1)
substitute_named N k s (castup a e) h g = (substitute_named N k s a h g.0, substitute_named N k s e h g.1)
substitute_named N k s (castdown e) h g = substitute_named N k s e h g
substitute_named N k s (mu a e) h g = (substitute_named N k s a h g.0, substitute_named N (suc k) s e h g.1)
substitute_named N k s (name i) h g = g

step_named : (N : ℕ) {v : View} {e x : Term} → Shows N v → v ⊩ e ⟶ x → Named N e → Named N x
unfolding Named
step_named N c (s_beta {e₁ = e} {e₂ = u}) s = substitute_named N 0 u e s.1 s.0.1
step_named N c s_castdownup s = s.1
step_named N c (s_app r) s = (step_named N c r s.0, s.1)
step_named N c (s_castdown r) s = step_named N c r s
step_named N c (s_mu {τ = a} {e}) s = substitute_named N 0 (mu a e) e s s.1
step_named N c (s_name {i} {e} h) s = (c i e h).1

pub step_fitted : (N n : ℕ) {v : View} {e x : Term} → Shows N v → v ⊩ e ⟶ x → Fitted N n e → Fitted N n x
step_fitted N n c r (s, m) = (step_scoped n (λ i e h. (c i e h).0) r s, step_named N c r m)

pub raise_scoped : (n c : ℕ) (t : Term) → Scoped n t → Scoped (suc n) (raise 1 c t)
unfolding Scoped raise
raise_scoped n c (var i) h = on (ltb i c)
  where
    on : (b : Bool) → cond b i (i + 1) < suc n
    on true = omega arith
    on false = omega arith
raise_scoped n c star h = tt
raise_scoped n c (app f u) h = (raise_scoped n c f h.0, raise_scoped n c u h.1)
raise_scoped n c (lam a e) h = (raise_scoped n c a h.0, raise_scoped (suc n) (suc c) e h.1)
raise_scoped n c (pi a b) h = (raise_scoped n c a h.0, raise_scoped (suc n) (suc c) b h.1)
raise_scoped n c (castup a e) h = (raise_scoped n c a h.0, raise_scoped n c e h.1)
raise_scoped n c (castdown e) h = raise_scoped n c e h
raise_scoped n c (mu a e) h = (raise_scoped n c a h.0, raise_scoped (suc n) (suc c) e h.1)
raise_scoped n c (name i) h = tt

-- Putting in is a step, by S_BETA, with nothing to unfold.
substitute_fitted : (N n : ℕ) (s t : Term) → Fitted N n s → Fitted N (suc n) t → Fitted N n (substitute 0 s t)
unfolding Scoped Named
substitute_fitted N n s t h k =
    step_fitted N n {v = λ i. none} (λ i e x. absurd (none-ne-some _ x)) (s_beta {τ = star}) (((tt, k.0), h.0), ((tt, k.1), h.1))

annotation_fitted : (N : ℕ) (Γ : Context) (i : ℕ) → FittedContext N Γ → Fitted N (length Γ) (annotation Γ i)
unfolding annotation FittedContext Scoped Named
annotation_fitted N [] i c = (tt, tt)
annotation_fitted N (τ ∷ Γ) zero ((s, m), c) = (raise_scoped (length Γ) 0 τ s, raise_named N 1 0 τ m)
annotation_fitted N (τ ∷ Γ) (suc i) (a, c) =
    let (s, m) = annotation_fitted N Γ i c in
    (raise_scoped (length Γ) 0 (annotation Γ i) s, raise_named N 1 0 (annotation Γ i) m)

-- A name that is not in the book is answered star.
stored_fitted : (N n : ℕ) (T : View) (i : ℕ) → Shows N T → Fitted N n (stored (T i))
unfolding stored Scoped Named
stored_fitted N n T i c = on (T i) refl
  where
    on : (x : Option Term) → T i ≡ x → Fitted N n (stored x)
    on none e = (tt, tt)
    on (some τ) e = let (s, m) = c i τ e in (scoped_more τ zero-le s, m)

-- What is known of an answer that is something.
abbrev Finding : {A : Type 0} → (A → Type 0) → Answer A → Type 0
Finding P x = Says P (λ r p. Unit {0}) x

-- One thing after another, the first with what is known of it or without.
then : {A B : Type 0} {P : A → Type 0} {Q : B → Type 0} {x : Answer A} {f : A → Answer B}
    → Finding P x
    → ((a : A) → P a → Finding Q (f a))
    → Finding Q (x >>= f)
unfolding ◌>>=◌
then (says_ok {a} h) k = k a h
then (says_refused _) k = says_refused tt

past : {A B : Type 0} {Q : B → Type 0} (x : Answer A) {f : A → Answer B} → ((a : A) → Finding Q (f a)) → Finding Q (x >>= f)
unfolding ◌>>=◌
past (ok a) k = k a
past (refused r p) k = says_refused tt

measured : {P : Term → Type 0} (L p : ℕ) (τ : Term) → P τ → Finding P (measure L p τ)
measured {P} L p τ f = on (dec_le (size τ) L)
  where
    on : Dec (size τ ≤ L) → Finding P (measure L p τ)
    on (yes h) = rw (fitting p τ h) (says_ok f)
    on (no h) = rw (over {L = L} p τ (omega arith)) (says_refused tt)

product_found : (N n p : ℕ) (τ : Term) → Fitted N n τ → Finding (λ ab. Fitted N n ab.0 × Fitted N (suc n) ab.1) (product p τ)
unfolding product Scoped Named
product_found N n p (var i) h = says_refused tt
product_found N n p star h = says_refused tt
product_found N n p (app f u) h = says_refused tt
product_found N n p (lam a e) h = says_refused tt
product_found N n p (pi a b) ((s, t), (k, m)) = says_ok ((s, k), (t, m))
product_found N n p (castup a e) h = says_refused tt
product_found N n p (castdown e) h = says_refused tt
product_found N n p (mu a e) h = says_refused tt
product_found N n p (name i) h = says_refused tt

-- By any step that keeps to the scope and to the names, and with stored types that do.
module _
    (N : ℕ) (T : View) (step : Term → Next) (shown : Shows N T)
    (keeps : (n : ℕ) (e x : Term) (k : Kind) → step e ≡ next k x → Fitted N n e → Fitted N n x)
  where
    stepped_found : (n p : ℕ) (e : Term) → Fitted N n e → Finding (Fitted N n) (stepped p (step e))
    unfolding stepped
    stepped_found n p e h = on (step e) refl
      where
        on : (x : Next) → step e ≡ x → Finding (Fitted N n) (stepped p x)
        on value q = says_refused tt
        on stuck q = says_refused tt
        on (next k x) q = says_ok (keeps n e x k q h)

    pub infer_found : (L : ℕ) (Γ : Context) (p : ℕ) (e : Term)
        → FittedContext N Γ
        → Fitted N (length Γ) e
        → Finding (Fitted N (length Γ)) (infer T step L Γ p e)
    unfolding infer ◌>>◌ FittedContext Scoped Named
    infer_found L Γ p (var i) c h = measured L p _ (annotation_fitted N Γ i c)
    infer_found L Γ p star c h = measured L p _ (tt, tt)
    infer_found L Γ p (app f u) c ((sf, su), (nf, nu)) =
        then (infer_found L Γ (first_part p) f c (sf, nf)) λ τ k.
        then (product_found N (length Γ) p τ k) λ (a, b) (_, kb).
        past _ λ σ. past _ λ _.
        measured L p _ (substitute_fitted N (length Γ) u b (su, nu) kb)
    infer_found L Γ p (lam a e) c ((sa, se), (na, ne)) =
        past _ λ σ. past _ λ _.
        then (infer_found L (a ∷ Γ) (second_part p a) e ((sa, na), c) (se, ne)) λ b (sb, nb).
        measured L p _ ((sa, sb), (na, nb))
    infer_found L Γ p (pi a b) c h = past _ λ σ. past _ λ _. past _ λ τ. past _ λ _. measured L p _ (tt, tt)
    infer_found L Γ p (castup a e) c ((sa, se), (na, ne)) =
        past _ λ σ. past _ λ _. past _ λ τ. past _ λ a'. past _ λ _. past _ λ _. measured L p _ (sa, na)
    infer_found L Γ p (castdown e) c h =
        then (infer_found L Γ (first_part p) e c h) λ τ k.
        then (stepped_found (length Γ) p τ k) λ τ' k'.
        measured L p _ k'
    infer_found L Γ p (mu a e) c ((sa, se), (na, ne)) = past _ λ σ. past _ λ _. past _ λ τ. past _ λ _. measured L p _ (sa, na)
    infer_found L Γ p (name i) c h = measured L p _ (stored_fitted N (length Γ) T i shown)

    pub infer_fitted : (L : ℕ) (Γ : Context) (p : ℕ) (e : Term) {τ : Term}
        → FittedContext N Γ
        → Fitted N (length Γ) e
        → infer T step L Γ p e ≡ ok τ
        → Fitted N (length Γ) τ
    infer_fitted L Γ p e c h q = of_ok (subst (Finding (Fitted N (length Γ))) q (infer_found L Γ p e c h))

-- Over a book, at any view of its bodies.
pub book_fitted : (N : ℕ) (B : Book) {v : View} → Shows N (types B) → Shows N (bodies B) → v ⊆ bodies B
    → (L : ℕ) (Γ : Context) (p : ℕ) (e : Term) {τ : Term}
    → FittedContext N Γ
    → Fitted N (length Γ) e
    → infer (types B) (step v) L Γ p e ≡ ok τ
    → Fitted N (length Γ) τ
book_fitted N B {v} ht hb m =
    infer_fitted N (types B) (step v) ht
    (λ n e x k q h. step_fitted N n (λ i b s. hb i b (m i b s)) (next_step v e q).0 h)
