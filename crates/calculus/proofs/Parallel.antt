-- Renaming and substitution of all variables at once, by functions `ℕ → ℕ` and `ℕ → Term`. Both are one walk through the
-- term, which under a binder keeps index 0 and moves the rest by one; so two walks in a row are one walk with the composed function.
use Prim.Native.Nat.{ℕ, zero, suc}
use mathlib.Core.Path.{◌≡◌, refl, sym, ◌∙◌, ap, ap₂, fun_ext}
use Rattle.calculus.specs.Term.{Term, var, star, app, lam, pi, castup, castdown, mu, name}

-- The walk: `v` makes a term of what stands for a variable, and `l` takes the function under a binder.
unfoldable pub traverse : {A : Type 0} → (A → Term) → ((ℕ → A) → ℕ → A) → (ℕ → A) → Term → Term
traverse v l f (var i) = v (f i)
traverse v l f star = star
traverse v l f (app g u) = app (traverse v l f g) (traverse v l f u)
traverse v l f (lam a e) = lam (traverse v l f a) (traverse v l (l f) e)
traverse v l f (pi a b) = pi (traverse v l f a) (traverse v l (l f) b)
traverse v l f (castup a e) = castup (traverse v l f a) (traverse v l f e)
traverse v l f (castdown e) = castdown (traverse v l f e)
traverse v l f (mu a e) = mu (traverse v l f a) (traverse v l (l f) e)
traverse v l f (name i) = name i

unfoldable pub lift_index : (ℕ → ℕ) → ℕ → ℕ
lift_index ρ zero = zero
lift_index ρ (suc i) = suc (ρ i)

unfoldable pub rename : (ℕ → ℕ) → Term → Term
rename ρ t = traverse var lift_index ρ t

unfoldable pub lift : (ℕ → Term) → ℕ → Term
lift σ zero = var zero
lift σ (suc i) = rename suc (σ i)

unfoldable pub sub : (ℕ → Term) → Term → Term
sub σ t = traverse (λ s. s) lift σ t

-- One walk after another is a third, where this holds at a variable and goes under a binder.
module _ {A B C : Type 0} (u : A → Term) (k : (ℕ → A) → ℕ → A) (v : B → Term) (l : (ℕ → B) → ℕ → B) (w : C → Term) (m : (ℕ → C) → ℕ → C) where
  abbrev Fuses : (ℕ → A) → (ℕ → B) → (ℕ → C) → Type 0
  Fuses f g h = (i : ℕ) → traverse v l g (u (f i)) ≡ w (h i)

  fusion : ((f : ℕ → A) (g : ℕ → B) (h : ℕ → C) → Fuses f g h → Fuses (k f) (l g) (m h))
      → (t : Term) (f : ℕ → A) (g : ℕ → B) (h : ℕ → C)
      → Fuses f g h
      → traverse v l g (traverse u k f t) ≡ traverse w m h t
  unfolding traverse
  fusion c (var i) f g h p = p i
  fusion c star f g h p = refl
  fusion c (app t s) f g h p = ap₂ app (fusion c t f g h p) (fusion c s f g h p)
  fusion c (lam a e) f g h p = ap₂ lam (fusion c a f g h p) (fusion c e (k f) (l g) (m h) (c f g h p))
  fusion c (pi a e) f g h p = ap₂ pi (fusion c a f g h p) (fusion c e (k f) (l g) (m h) (c f g h p))
  fusion c (castup a e) f g h p = ap₂ castup (fusion c a f g h p) (fusion c e f g h p)
  fusion c (castdown e) f g h p = ap castdown (fusion c e f g h p)
  fusion c (mu a e) f g h p = ap₂ mu (fusion c a f g h p) (fusion c e (k f) (l g) (m h) (c f g h p))
  fusion c (name i) f g h p = refl

pub rename_rename : (ρ ξ : ℕ → ℕ) (t : Term) → rename ρ (rename ξ t) ≡ rename (λ i. ρ (ξ i)) t
unfolding rename traverse lift_index
rename_rename ρ ξ t = fusion var lift_index var lift_index var lift_index under t ξ ρ (λ i. ρ (ξ i)) (λ i. refl)
  where
    under : (f g h : ℕ → ℕ) → ((i : ℕ) → var (g (f i)) ≡ var (h i)) → (i : ℕ) → var (lift_index g (lift_index f i)) ≡ var (lift_index h i)
    under f g h p zero = refl
    under f g h p (suc i) = ap (rename suc) (p i)

pub sub_rename : (σ : ℕ → Term) (ρ : ℕ → ℕ) (t : Term) → sub σ (rename ρ t) ≡ sub (λ i. σ (ρ i)) t
unfolding sub rename traverse lift_index lift
sub_rename σ ρ t = fusion var lift_index (λ s. s) lift (λ s. s) lift under t ρ σ (λ i. σ (ρ i)) (λ i. refl)
  where
    under : (f : ℕ → ℕ) (g h : ℕ → Term) → ((i : ℕ) → g (f i) ≡ h i) → (i : ℕ) → lift g (lift_index f i) ≡ lift h i
    under f g h p zero = refl
    under f g h p (suc i) = ap (rename suc) (p i)

-- A renaming goes under a binder: the moved indices are those that it lifts.
rename_moved : (ρ : ℕ → ℕ) (t : Term) → rename (lift_index ρ) (rename suc t) ≡ rename suc (rename ρ t)
unfolding lift_index
rename_moved ρ t = rename_rename (lift_index ρ) suc t ∙ sym (rename_rename suc ρ t)

rename_sub : (ρ : ℕ → ℕ) (σ : ℕ → Term) (t : Term) → rename ρ (sub σ t) ≡ sub (λ i. rename ρ (σ i)) t
unfolding sub rename traverse lift_index lift
rename_sub ρ σ t = fusion (λ s. s) lift var lift_index (λ s. s) lift under t σ ρ (λ i. rename ρ (σ i)) (λ i. refl)
  where
    under : (f : ℕ → Term) (g : ℕ → ℕ) (h : ℕ → Term) → ((i : ℕ) → rename g (f i) ≡ h i) → (i : ℕ) → rename (lift_index g) (lift f i) ≡ lift h i
    under f g h p zero = refl
    under f g h p (suc i) = rename_moved g (f i) ∙ ap (rename suc) (p i)

pub sub_moved : (σ : ℕ → Term) (t : Term) → sub (lift σ) (rename suc t) ≡ rename suc (sub σ t)
unfolding lift
sub_moved σ t = sub_rename (lift σ) suc t ∙ sym (rename_sub suc σ t)

pub sub_sub : (σ τ : ℕ → Term) (t : Term) → sub σ (sub τ t) ≡ sub (λ i. sub σ (τ i)) t
unfolding sub traverse lift
sub_sub σ τ t = fusion (λ s. s) lift (λ s. s) lift (λ s. s) lift under t τ σ (λ i. sub σ (τ i)) (λ i. refl)
  where
    under : (f g h : ℕ → Term) → ((i : ℕ) → sub g (f i) ≡ h i) → (i : ℕ) → sub (lift g) (lift f i) ≡ lift h i
    under f g h p zero = refl
    under f g h p (suc i) = sub_moved g (f i) ∙ ap (rename suc) (p i)

lift_var : lift var ≡ var
unfolding lift rename traverse
lift_var = fun_ext pointwise
  where
    pointwise : (i : ℕ) → lift var i ≡ var i
    pointwise zero = refl
    pointwise (suc i) = refl

pub sub_var : (t : Term) → sub var t ≡ t
unfolding sub traverse
sub_var (var i) = refl
sub_var star = refl
sub_var (app f u) = ap₂ app (sub_var f) (sub_var u)
sub_var (lam a e) = ap₂ lam (sub_var a) (ap (λ σ. sub σ e) lift_var ∙ sub_var e)
sub_var (pi a b) = ap₂ pi (sub_var a) (ap (λ σ. sub σ b) lift_var ∙ sub_var b)
sub_var (castup a e) = ap₂ castup (sub_var a) (sub_var e)
sub_var (castdown e) = ap castdown (sub_var e)
sub_var (mu a e) = ap₂ mu (sub_var a) (ap (λ σ. sub σ e) lift_var ∙ sub_var e)
sub_var (name i) = refl

-- A renaming is a substitution of variables.
pub rename_is_sub : (ρ : ℕ → ℕ) (t : Term) → rename ρ t ≡ sub (λ i. var (ρ i)) t
rename_is_sub ρ t = sym (sub_var (rename ρ t)) ∙ sub_rename var ρ t
