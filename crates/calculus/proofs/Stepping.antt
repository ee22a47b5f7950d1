-- The function `step` finds just the steps of the relation, with their kinds. By recursion on the term: where the part steps, the whole does by S_APP or
-- S_CASTDOWN; where it does not, only S_BETA or S_CASTDOWNUP is left, and the form of the part tells whether it applies.
use Prim.Native.Nat.{ℕ}
use mathlib.Core.Option.{Option, none, some, none-ne-some}
use mathlib.Core.Path.{◌≡◌, refl, sym, ◌∙◌, ap, subst}
use Rattle.calculus.specs.Term.{Term, var, star, app, lam, pi, castup, castdown, mu, name}
use Rattle.calculus.specs.Book.{View}
use Rattle.calculus.specs.Rules.{◌⊩◌⟶◌, s_beta, s_castdownup, s_app, s_castdown, s_mu, s_name, CanStep, Value, v_star, v_lam, v_pi, v_castup}
use Rattle.calculus.specs.Kinds.{Kind, kind, OneKind}
use Rattle.calculus.specs.Step.{Next, value, stuck, next, under, applied, cancelled, unfolded, step}
use Rattle.calculus.proofs.Reduction.{value_rests}

-- What `step` answers, by what is true of the term.
pub data Finds (v : View) (e : Term) : Next → Type 0 where
  finds_value : Value e → Finds v e value
  finds_stuck : ¬ Value e → ¬ CanStep v e → Finds v e stuck
  finds_next : {k : Kind} {x : Term} (s : v ⊩ e ⟶ x) → kind s ≡ k → Finds v e (next k x)

abbrev IsStuck : Next → Type 0
IsStuck value = ⊥
IsStuck stuck = Unit
IsStuck (next k x) = ⊥

-- Where no rule is for the whole, only a step of the part is a step of the whole.
app_stuck : {v : View} {f u : Term} → IsStuck (applied f u) → ¬ CanStep v f → Finds v (app f u) stuck
unfolding applied
app_stuck {v} {f} {u} i n = finds_stuck (λ v. elim v [ ]) (λ c. n (part i c.1))
  where
    part : {f x : Term} → IsStuck (applied f u) → v ⊩ app f u ⟶ x → CanStep v f
    part i s_beta = absurd i
    part i (s_app {e₁' = f'} h) = (f', h)

castdown_stuck : {v : View} {e : Term} → IsStuck (cancelled e) → ¬ CanStep v e → Finds v (castdown e) stuck
unfolding cancelled
castdown_stuck {v} {e} i n = finds_stuck (λ v. elim v [ ]) (λ c. n (part i c.1))
  where
    part : {e x : Term} → IsStuck (cancelled e) → v ⊩ castdown e ⟶ x → CanStep v e
    part i s_castdownup = absurd i
    part i (s_castdown {e' = e'} h) = (e', h)

applied_finds : {v : View} (f u : Term) → ¬ CanStep v f → Finds v (app f u) (applied f u)
unfolding applied kind
applied_finds (var i) u n = app_stuck tt n
applied_finds star u n = app_stuck tt n
applied_finds (app g s) u n = app_stuck tt n
applied_finds (lam a e) u n = finds_next s_beta refl
applied_finds (pi a b) u n = app_stuck tt n
applied_finds (castup a e) u n = app_stuck tt n
applied_finds (castdown e) u n = app_stuck tt n
applied_finds (mu a e) u n = app_stuck tt n
applied_finds (name i) u n = app_stuck tt n

cancelled_finds : {v : View} (e : Term) → ¬ CanStep v e → Finds v (castdown e) (cancelled e)
unfolding cancelled kind
cancelled_finds (var i) n = castdown_stuck tt n
cancelled_finds star n = castdown_stuck tt n
cancelled_finds (app f u) n = castdown_stuck tt n
cancelled_finds (lam a e) n = castdown_stuck tt n
cancelled_finds (pi a b) n = castdown_stuck tt n
cancelled_finds (castup a e) n = finds_next s_castdownup refl
cancelled_finds (castdown e) n = castdown_stuck tt n
cancelled_finds (mu a e) n = castdown_stuck tt n
cancelled_finds (name i) n = castdown_stuck tt n

-- `under` finds of the whole what is true of it, if what is found of the part is true.
under_finds : {v : View} {e w : Term} {o n : Next} (c : Term → Term)
    → ((x : Term) (s : v ⊩ e ⟶ x) → (r : v ⊩ w ⟶ c x) × (kind r ≡ kind s))
    → (¬ CanStep v e → Finds v w o)
    → Finds v e n
    → Finds v w (under c o n)
unfolding under
under_finds c f g (finds_value w) = g (λ s. value_rests w s.1)
under_finds c f g (finds_stuck a b) = g b
under_finds c f g (finds_next {x = x} s j) = let (r, k) = f x s in finds_next r (k ∙ j)

-- A name steps if the view shows its body.
name_finds : (v : View) (i : ℕ) → Finds v (name i) (unfolded (v i))
unfolding unfolded kind
name_finds v i = on (v i) refl
  where
    hidden : {x : Term} → v i ≡ none → v ⊩ name i ⟶ x → ⊥
    hidden h (s_name k) = none-ne-some _ (sym h ∙ k)

    on : (o : Option Term) → v i ≡ o → Finds v (name i) (unfolded o)
    on none h = finds_stuck (λ w. elim w [ ]) (λ c. hidden h c.1)
    on (some e) h = finds_next (s_name h) refl

pub step_finds : (v : View) (e : Term) → Finds v e (step v e)
unfolding step kind
step_finds v (var i) = finds_stuck (λ w. elim w [ ]) (λ c. elim c.1 [ ])
step_finds v star = finds_value v_star
step_finds v (app f u) = under_finds (λ x. app x u) (λ x s. (s_app s, refl)) (applied_finds f u) (step_finds v f)
step_finds v (lam a e) = finds_value v_lam
step_finds v (pi a b) = finds_value v_pi
step_finds v (castup a e) = finds_value v_castup
step_finds v (castdown e) = under_finds castdown (λ x s. (s_castdown s, refl)) (cancelled_finds e) (step_finds v e)
step_finds v (mu a e) = finds_next s_mu refl
step_finds v (name i) = name_finds v i

-- A step is found, with its kind, by recursion on its derivation.
pub step_next : {v : View} {e x : Term} (s : v ⊩ e ⟶ x) → step v e ≡ next (kind s) x
unfolding step under applied cancelled unfolded kind
step_next s_beta = refl
step_next s_castdownup = refl
step_next (s_app {e₁ = f} {e₂ = u} s) = ap (under (λ x. app x u) (applied f u)) (step_next s)
step_next (s_castdown {e = e} s) = ap (under castdown (cancelled e)) (step_next s)
step_next s_mu = refl
step_next (s_name h) = ap unfolded h

pub value_step : (v : View) {e : Term} → Value e → step v e ≡ value
unfolding step
value_step v v_star = refl
value_step v v_lam = refl
value_step v v_pi = refl
value_step v v_castup = refl

pub stuck_step : (v : View) {e : Term} → ¬ Value e → ¬ CanStep v e → step v e ≡ stuck
stuck_step v {e} a b = on (step_finds v e)
  where
    on : {n : Next} → Finds v e n → n ≡ stuck
    on (finds_value w) = absurd (a w)
    on (finds_stuck c d) = refl
    on (finds_next {x = x} s k) = absurd (b (x, s))

-- What is found is a step of that kind.
pub next_step : (v : View) (e : Term) {x : Term} {k : Kind} → step v e ≡ next k x → (s : v ⊩ e ⟶ x) × (kind s ≡ k)
next_step v e {x} {k} p = on (subst (Finds v e) p (step_finds v e))
  where
    on : Finds v e (next k x) → (s : v ⊩ e ⟶ x) × (kind s ≡ k)
    on (finds_next s j) = (s, j)

-- So the steps from one term have one kind and one next state.
pub one_step : {v : View} {e e' x y : Term} → e ≡ e' → (s : v ⊩ e ⟶ x) (r : v ⊩ e' ⟶ y) → (kind s ≡ kind r) × (x ≡ y)
one_step {v} p s r =
    let same = sym (step_next s) ∙ ap (step v) p ∙ step_next r in
    (cc same, cc same)

pub one_kind : OneKind
one_kind v x y z s r = (one_step refl s r).0
