-- Which variables are free. More may be in scope than a term has, since an index below one bound is below a larger one, under binders
-- too. A step adds none: what is put in for a variable is part of the term, and a walk through a term that takes every variable in
-- scope to a term in scope takes every term in scope to one, since this goes under a binder; and a body that a name unfolds to is
-- closed. A substitution leaves a closed term as it is.
use Prim.Native.Nat.{ℕ, zero, suc, ◌≤◌, ◌<◌, zero-le}
use mathlib.Core.Option.{some}
use mathlib.Core.Path.{◌≡◌, refl, sym, ap, ap₂, subst}
use native.Mathlib.Nat.{le_of_suc-le-suc}
use native.Mathlib.Omega.{arith}
use Rattle.calculus.specs.Term.{Term, var, star, app, lam, pi, castup, castdown, mu, name, substitute}
use Rattle.calculus.specs.Words.{Scoped, Named}
use Rattle.calculus.specs.Book.{View}
use Rattle.calculus.specs.Rules.{◌⊩◌⟶◌, s_beta, s_castdownup, s_app, s_castdown, s_mu, s_name}
use Rattle.calculus.proofs.Parallel.{traverse, lift_index, rename, lift, sub}
use Rattle.calculus.proofs.Bridge.{single, substitute_is_sub}

pub scoped_more : {m n : ℕ} (e : Term) → m ≤ n → Scoped m e → Scoped n e
unfolding Scoped
scoped_more (var i) h s = omega arith
scoped_more star h s = tt
scoped_more (app f u) h s = (scoped_more f h s.0, scoped_more u h s.1)
scoped_more (lam a e) h s = (scoped_more a h s.0, scoped_more e (omega arith) s.1)
scoped_more (pi a b) h s = (scoped_more a h s.0, scoped_more b (omega arith) s.1)
scoped_more (castup a e) h s = (scoped_more a h s.0, scoped_more e h s.1)
scoped_more (castdown e) h s = scoped_more e h s
scoped_more (mu a e) h s = (scoped_more a h s.0, scoped_more e (omega arith) s.1)
scoped_more (name i) h s = tt

-- So it is with names.
pub named_more : {m n : ℕ} (e : Term) → m ≤ n → Named m e → Named n e
unfolding Named
named_more (var i) h s = tt
named_more star h s = tt
named_more (app f u) h s = (named_more f h s.0, named_more u h s.1)
named_more (lam a e) h s = (named_more a h s.0, named_more e h s.1)
named_more (pi a b) h s = (named_more a h s.0, named_more b h s.1)
named_more (castup a e) h s = (named_more a h s.0, named_more e h s.1)
named_more (castdown e) h s = named_more e h s
named_more (mu a e) h s = (named_more a h s.0, named_more e h s.1)
named_more (name i) h s = omega arith

module _ {A : Type 0} (v : A → Term) (l : (ℕ → A) → ℕ → A) where
  -- The variables below `n` go to terms with variables below `m`.
  abbrev Keeps : (ℕ → A) → ℕ → ℕ → Type 0
  Keeps f n m = (i : ℕ) → i < n → Scoped m (v (f i))

  traverse_scoped : ((f : ℕ → A) (n m : ℕ) → Keeps f n m → Keeps (l f) (suc n) (suc m))
      → (f : ℕ → A) (n m : ℕ)
      → Keeps f n m
      → (t : Term)
      → Scoped n t
      → Scoped m (traverse v l f t)
  unfolding traverse Scoped
  traverse_scoped u f n m k (var i) s = k i s
  traverse_scoped u f n m k star s = tt
  traverse_scoped u f n m k (app g e) s = (traverse_scoped u f n m k g s.0, traverse_scoped u f n m k e s.1)
  traverse_scoped u f n m k (lam a e) s =
      (traverse_scoped u f n m k a s.0, traverse_scoped u (l f) (suc n) (suc m) (u f n m k) e s.1)
  traverse_scoped u f n m k (pi a b) s =
      (traverse_scoped u f n m k a s.0, traverse_scoped u (l f) (suc n) (suc m) (u f n m k) b s.1)
  traverse_scoped u f n m k (castup a e) s = (traverse_scoped u f n m k a s.0, traverse_scoped u f n m k e s.1)
  traverse_scoped u f n m k (castdown e) s = traverse_scoped u f n m k e s
  traverse_scoped u f n m k (mu a e) s =
      (traverse_scoped u f n m k a s.0, traverse_scoped u (l f) (suc n) (suc m) (u f n m k) e s.1)
  traverse_scoped u f n m k (name i) s = tt

rename_scoped : (ρ : ℕ → ℕ) (n m : ℕ) → ((i : ℕ) → i < n → ρ i < m) → (t : Term) → Scoped n t → Scoped m (rename ρ t)
unfolding rename lift_index Scoped
rename_scoped ρ n m k t s = traverse_scoped var lift_index under ρ n m k t s
  where
    under : (f : ℕ → ℕ) (n m : ℕ) → ((i : ℕ) → i < n → f i < m) → (i : ℕ) → i < suc n → lift_index f i < suc m
    under f n m k zero h = omega arith
    under f n m k (suc i) h = omega (arith, k i (omega arith))

sub_scoped : (σ : ℕ → Term) (n m : ℕ) → ((i : ℕ) → i < n → Scoped m (σ i)) → (t : Term) → Scoped n t → Scoped m (sub σ t)
unfolding sub lift Scoped
sub_scoped σ n m k t s = traverse_scoped (λ e. e) lift under σ n m k t s
  where
    under : (f : ℕ → Term) (n m : ℕ) → ((i : ℕ) → i < n → Scoped m (f i)) → (i : ℕ) → i < suc n → Scoped (suc m) (lift f i)
    under f n m k zero h = omega arith
    under f n m k (suc i) h = rename_scoped suc m (suc m) (λ i l. omega arith) (f i) (k i (omega arith))

substitute_scoped : (n : ℕ) (s t : Term) → Scoped n s → Scoped (suc n) t → Scoped n (substitute 0 s t)
unfolding single Scoped
substitute_scoped n s t h k = subst (Scoped n) (sym (substitute_is_sub s t)) (sub_scoped (single s) (suc n) n each t k)
  where
    each : (i : ℕ) → i < suc n → Scoped n (single s i)
    each zero l = h
    each (suc i) l = le_of_suc-le-suc l

-- What a view shows is closed.
abbrev pub Shut : View → Type 0
Shut v = (i : ℕ) (e : Term) → v i ≡ some e → Scoped 0 e

pub step_scoped : (n : ℕ) {v : View} {e x : Term} → Shut v → v ⊩ e ⟶ x → Scoped n e → Scoped n x
unfolding Scoped
step_scoped n c (s_beta {e₁ = e} {e₂ = u}) s = substitute_scoped n u e s.1 s.0.1
step_scoped n c s_castdownup s = s.1
step_scoped n c (s_app r) s = (step_scoped n c r s.0, s.1)
step_scoped n c (s_castdown r) s = step_scoped n c r s
step_scoped n c (s_mu {τ = a} {e}) s = substitute_scoped n (mu a e) e s s.1
step_scoped n c (s_name {i} {e} h) s = scoped_more e zero-le (c i e h)

-- A substitution that keeps the variables in scope keeps a term.
abbrev Keeping : (ℕ → Term) → ℕ → Type 0
Keeping σ n = (i : ℕ) → i < n → σ i ≡ var i

keeping_under : {σ : ℕ → Term} {n : ℕ} → Keeping σ n → Keeping (lift σ) (suc n)
unfolding lift rename traverse
keeping_under k zero h = refl
keeping_under k (suc i) h = ap (rename suc) (k i (le_of_suc-le-suc h))

sub_kept : (σ : ℕ → Term) (n : ℕ) → Keeping σ n → (t : Term) → Scoped n t → sub σ t ≡ t
unfolding Scoped sub traverse
sub_kept σ n k (var i) s = k i s
sub_kept σ n k star s = refl
sub_kept σ n k (app f u) (s, r) = ap₂ app (sub_kept σ n k f s) (sub_kept σ n k u r)
sub_kept σ n k (lam a e) (s, r) = ap₂ lam (sub_kept σ n k a s) (sub_kept (lift σ) (suc n) (keeping_under k) e r)
sub_kept σ n k (pi a b) (s, r) = ap₂ pi (sub_kept σ n k a s) (sub_kept (lift σ) (suc n) (keeping_under k) b r)
sub_kept σ n k (castup a e) (s, r) = ap₂ castup (sub_kept σ n k a s) (sub_kept σ n k e r)
sub_kept σ n k (castdown e) s = ap castdown (sub_kept σ n k e s)
sub_kept σ n k (mu a e) (s, r) = ap₂ mu (sub_kept σ n k a s) (sub_kept (lift σ) (suc n) (keeping_under k) e r)
sub_kept σ n k (name i) s = refl

pub sub_closed : (σ : ℕ → Term) (t : Term) → Scoped 0 t → sub σ t ≡ t
sub_closed σ t s = sub_kept σ 0 (λ i h. absurd (omega arith)) t s
