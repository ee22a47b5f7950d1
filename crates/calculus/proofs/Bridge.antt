-- `raise` and `substitute` of `Term` are walks through the term with functions of their own, since these go under a binder as the
-- walk does. Hence what `Parallel` says of walks holds of them.
use Prim.Native.Nat.{ℕ, zero, suc, ◌+◌}
use native.Mathlib.Nat.{add-zero, add-suc, suc-add}
use native.Mathlib.Numerals.{add-one}
use native.Mathlib.Omega.{arith}
use mathlib.Core.Bool.{Bool, true, false, cond}
use mathlib.Core.Path.{◌≡◌, refl, sym, ◌∙◌, ap, ap₂, fun_ext}
use lib.Dec.{ltb, eqb, leb-zero, leb-suc-zero, leb-suc-suc, eqb-suc-suc, eqb-suc-zero}
use Rattle.calculus.specs.Term.{Term, var, star, app, lam, pi, castup, castdown, mu, name, raise, substitute}
use Rattle.calculus.proofs.Parallel.{traverse, lift_index, rename, lift, sub, rename_rename, sub_rename, rename_is_sub, sub_sub, sub_var, sub_moved}

cond_under : {A B : Type 0} (f : A → B) (b : Bool) (x y : A) → f (cond b x y) ≡ cond b (f x) (f y)
cond_under f true x y = refl
cond_under f false x y = refl

-- The indices from `c` on, raised by `n`.
raised : ℕ → ℕ → ℕ → ℕ
raised n c i = cond (ltb i c) i (i + n)

raised_lift : (n c : ℕ) → lift_index (raised n c) ≡ raised n (suc c)
unfolding lift_index raised
raised_lift n c = fun_ext pointwise
  where
    pointwise : (i : ℕ) → lift_index (raised n c) i ≡ raised n (suc c) i
    pointwise zero = rw (leb-suc-suc zero c, leb-zero c)
    pointwise (suc i) = rw (leb-suc-suc (suc i) c, suc-add i n) (cond_under suc (ltb i c) i (i + n))

raise_rename : (n c : ℕ) (t : Term) → raise n c t ≡ rename (raised n c) t
unfolding raise rename traverse raised
raise_rename n c (var i) = refl
raise_rename n c star = refl
raise_rename n c (app f u) = ap₂ app (raise_rename n c f) (raise_rename n c u)
raise_rename n c (lam a e) = ap₂ lam (raise_rename n c a) (raise_rename n (suc c) e ∙ ap (λ ρ. rename ρ e) (sym (raised_lift n c)))
raise_rename n c (pi a b) = ap₂ pi (raise_rename n c a) (raise_rename n (suc c) b ∙ ap (λ ρ. rename ρ b) (sym (raised_lift n c)))
raise_rename n c (castup a e) = ap₂ castup (raise_rename n c a) (raise_rename n c e)
raise_rename n c (castdown e) = ap castdown (raise_rename n c e)
raise_rename n c (mu a e) = ap₂ mu (raise_rename n c a) (raise_rename n (suc c) e ∙ ap (λ ρ. rename ρ e) (sym (raised_lift n c)))
raise_rename n c (name i) = refl

raise_all : (n : ℕ) (t : Term) → raise n 0 t ≡ rename (λ i. i + n) t
unfolding raised
raise_all n t = raise_rename n 0 t ∙ ap (λ ρ. rename ρ t) (fun_ext (λ i. ap (λ b. cond b i (i + n)) (leb-suc-zero i)))

-- Raising by one is moving every index.
pub raise_moves : (t : Term) → raise 1 0 t ≡ rename suc t
raise_moves t = raise_all 1 t ∙ ap (λ ρ. rename ρ t) (fun_ext add-one)

pub raise_more : (n : ℕ) (t : Term) → rename suc (raise n 0 t) ≡ raise (suc n) 0 t
raise_more n t =
    ap (rename suc) (raise_all n t)
    ∙ rename_rename suc (λ i. i + n) t
    ∙ ap (λ ρ. rename ρ t) (fun_ext (λ i. sym (add-suc i n)))
    ∙ sym (raise_all (suc n) t)

pub raise_none : (t : Term) → raise 0 0 t ≡ t
raise_none t = raise_all 0 t ∙ ap (λ ρ. rename ρ t) (fun_ext add-zero) ∙ rename_is_sub (λ i. i) t ∙ sub_var t

-- What `substitute k s` puts in for the index `i`.
put : ℕ → Term → ℕ → Term
put k s i = substitute k s (var i)

-- A choice among three, of which each is mapped.
choice : {A B : Type 0} (f : A → B) (b c : Bool) {x y z : A} {x' y' z' : B}
    → f x ≡ x'
    → f y ≡ y'
    → f z ≡ z'
    → f (cond b x (cond c y z)) ≡ cond b x' (cond c y' z')
choice f true c p q r = p
choice f false true p q r = q
choice f false false p q r = r

put_lift : (k : ℕ) (s : Term) → lift (put k s) ≡ put (suc k) s
unfolding lift put substitute rename traverse
put_lift k s = fun_ext (pointwise k)
  where
    pointwise : (k i : ℕ) → lift (put k s) i ≡ put (suc k) s i
    pointwise k zero = rw (leb-suc-suc zero k, leb-zero k)
    pointwise zero (suc zero) = raise_more zero s
    pointwise (suc k) (suc zero) = rw (leb-suc-suc zero k, leb-suc-suc 1 (suc k), leb-suc-suc zero k, leb-zero k)
    pointwise k (suc (suc i)) =
        rw (leb-suc-suc (suc (suc i)) k, eqb-suc-suc (suc i) k)
        (choice (rename suc) (ltb (suc i) k) (eqb (suc i) k) refl (raise_more k s) (ap var (omega arith)))

substitute_sub : (k : ℕ) (s t : Term) → substitute k s t ≡ sub (put k s) t
unfolding substitute sub traverse put
substitute_sub k s (var i) = refl
substitute_sub k s star = refl
substitute_sub k s (app f u) = ap₂ app (substitute_sub k s f) (substitute_sub k s u)
substitute_sub k s (lam a e) = ap₂ lam (substitute_sub k s a) (substitute_sub (suc k) s e ∙ ap (λ σ. sub σ e) (sym (put_lift k s)))
substitute_sub k s (pi a b) = ap₂ pi (substitute_sub k s a) (substitute_sub (suc k) s b ∙ ap (λ σ. sub σ b) (sym (put_lift k s)))
substitute_sub k s (castup a e) = ap₂ castup (substitute_sub k s a) (substitute_sub k s e)
substitute_sub k s (castdown e) = ap castdown (substitute_sub k s e)
substitute_sub k s (mu a e) = ap₂ mu (substitute_sub k s a) (substitute_sub (suc k) s e ∙ ap (λ σ. sub σ e) (sym (put_lift k s)))
substitute_sub k s (name i) = refl

-- `s` for index 0, and the rest lowered.
unfoldable pub single : Term → ℕ → Term
single s zero = s
single s (suc i) = var i

put_single : (s : Term) → put 0 s ≡ single s
unfolding put substitute single
put_single s = fun_ext pointwise
  where
    pointwise : (i : ℕ) → put 0 s i ≡ single s i
    pointwise zero = raise_none s
    pointwise (suc i) = rw (leb-suc-zero (suc i), eqb-suc-zero i) (ap var (omega arith))

pub substitute_is_sub : (s t : Term) → substitute 0 s t ≡ sub (single s) t
substitute_is_sub s t = substitute_sub 0 s t ∙ ap (λ σ. sub σ t) (put_single s)

-- What is moved does not hold the index that is put in for.
single_moved : (s t : Term) → sub (single s) (rename suc t) ≡ t
unfolding single
single_moved s t = sub_rename (single s) suc t ∙ sub_var t

pub substitute_raise : (s t : Term) → substitute 0 s (raise 1 0 t) ≡ t
substitute_raise s t = ap (substitute 0 s) (raise_moves t) ∙ substitute_is_sub s (rename suc t) ∙ single_moved s t

-- A substitution goes through `raise`,
pub sub_raise : (σ : ℕ → Term) (t : Term) → sub (lift σ) (raise 1 0 t) ≡ raise 1 0 (sub σ t)
sub_raise σ t = ap (sub (lift σ)) (raise_moves t) ∙ sub_moved σ t ∙ sym (raise_moves (sub σ t))

-- and through `substitute`.
pub sub_substitute : (σ : ℕ → Term) (s t : Term) → sub σ (substitute 0 s t) ≡ substitute 0 (sub σ s) (sub (lift σ) t)
unfolding sub traverse single lift
sub_substitute σ s t =
    ap (sub σ) (substitute_is_sub s t)
    ∙ sub_sub σ (single s) t
    ∙ ap (λ τ. sub τ t) (fun_ext pointwise)
    ∙ sym (sub_sub (single (sub σ s)) (lift σ) t)
    ∙ sym (substitute_is_sub (sub σ s) (sub (lift σ) t))
  where
    pointwise : (i : ℕ) → sub σ (single s i) ≡ sub (single (sub σ s)) (lift σ i)
    pointwise zero = refl
    pointwise (suc i) = sym (single_moved (sub σ s) (σ i))
