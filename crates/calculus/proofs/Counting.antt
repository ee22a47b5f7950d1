-- The states of a term with the counts of the steps before them. A first step may be put before them or taken off, since one step
-- more and another may be counted in either order; and each step counts one more in all, so that the states with counts are the states.
use Prim.Native.Nat.{ℕ, suc}
use mathlib.Core.Path.{◌≡◌, refl, sym, ◌∙◌, ap, subst}
use native.Mathlib.Nat.{suc_inj}
use native.Mathlib.Omega.{arith}
use Rattle.calculus.specs.Term.{Term}
use Rattle.calculus.specs.Book.{View}
use Rattle.calculus.specs.Rules.{◌⊩◌⟶◌}
use Rattle.calculus.specs.Kinds.{Kind, by_substitution, by_unfolding, by_cancellation, kind, Counts, counts, counting, total, Counted, counted_none, counted_more}
use Rattle.calculus.specs.Run.{State, state_zero, state_suc}
use Rattle.calculus.specs.Runs.{CountsOfStates}

pub total_counting : (k : Kind) (c : Counts) → total (counting k c) ≡ suc (total c)
unfolding total counting
total_counting by_substitution c = omega arith
total_counting by_unfolding c = omega arith
total_counting by_cancellation c = omega arith

swap : (j k : Kind) (c : Counts) → counting j (counting k c) ≡ counting k (counting j c)
unfolding counting
swap by_substitution by_substitution c = refl
swap by_substitution by_unfolding c = refl
swap by_substitution by_cancellation c = refl
swap by_unfolding by_substitution c = refl
swap by_unfolding by_unfolding c = refl
swap by_unfolding by_cancellation c = refl
swap by_cancellation by_substitution c = refl
swap by_cancellation by_unfolding c = refl
swap by_cancellation by_cancellation c = refl

-- A first step before a state,
pub counted_after : {v : View} {t t' : Term} {c : Counts} {x : Term} (s : v ⊩ t ⟶ t') → Counted v t' c x → Counted v t (counting (kind s) c) x
counted_after s counted_none = counted_more counted_none s
counted_after {v} {t} s (counted_more {c = c} {y = y} h r) =
    subst (λ d. Counted v t d y) (swap (kind r) (kind s) c) (counted_more (counted_after s h) r)

-- and the first step of a state.
pub data First (v : View) (t : Term) (c : Counts) (x : Term) : Type 0 where
  first : {t' : Term} {d : Counts} (s : v ⊩ t ⟶ t') → Counted v t' d x → counting (kind s) d ≡ c → First v t c x

pub first_step : {v : View} {t : Term} {c : Counts} {x : Term} (n : ℕ) → total c ≡ suc n → Counted v t c x → First v t c x
unfolding total
first_step n e counted_none = absurd (omega arith)
first_step n e (counted_more h s) = on h s
  where
    later : {v : View} {t : Term} {c : Counts} {x y : Term} → First v t c x → (s : v ⊩ x ⟶ y) → First v t (counting (kind s) c) y
    later (first {d = d} r h e) s = first r (counted_more h s) (swap (kind r) (kind s) d ∙ ap (counting (kind s)) e)

    on : {v : View} {t : Term} {c : Counts} {x y : Term} → Counted v t c x → (s : v ⊩ x ⟶ y) → First v t (counting (kind s) c) y
    on counted_none s = first s counted_none refl
    on (counted_more h r) s = later (on h r) s

-- The counts of no step.
pub none_counted : (c : Counts) → total c ≡ 0 → c ≡ counts 0 0 0
unfolding total
none_counted c e =
    ap (λ n. counts n c.unfoldings c.cancellations) (omega arith)
    ∙ ap (λ n. counts 0 n c.cancellations) (omega arith)
    ∙ ap (counts 0 0) (omega arith)

pub counts_of_states : CountsOfStates
unfolding total
counts_of_states v t k x = (of_state, λ (c, e, h). subst (λ n. State v t n x) e (to_state h))
  where
    of_state : {k : ℕ} {x : Term} → State v t k x → (c : Counts) × (total c ≡ k) × Counted v t c x
    of_state state_zero = (counts 0 0 0, refl, counted_none)
    of_state (state_suc h s) =
        let (c, e, d) = of_state h in
        (counting (kind s) c, total_counting (kind s) c ∙ ap suc e, counted_more d s)

    to_state : {c : Counts} {x : Term} → Counted v t c x → State v t (total c) x
    to_state counted_none = state_zero
    to_state (counted_more {c = c} {y = y} h s) =
        subst (λ n. State v t n y) (sym (total_counting (kind s) c)) (state_suc (to_state h) s)

-- A first step before a state, and the first step of a state, where the steps are not counted.
pub state_after : {v : View} {t t' : Term} {k : ℕ} {x : Term} → v ⊩ t ⟶ t' → State v t' k x → State v t (suc k) x
state_after s state_zero = state_suc state_zero s
state_after s (state_suc h r) = state_suc (state_after s h) r

pub state_first : {v : View} {t : Term} (k : ℕ) {x : Term} → State v t (suc k) x → (t' : Term) × (v ⊩ t ⟶ t') × State v t' k x
state_first {v} {t} k {x} h = let (c, e, d) = (counts_of_states v t (suc k) x).0 h in on e (first_step k e d)
  where
    on : {c : Counts} → total c ≡ suc k → First v t c x → (t' : Term) × (v ⊩ t ⟶ t') × State v t' k x
    on e (first {t'} {d} s h p) =
        (t', s, (counts_of_states v t' k x).1 (d, suc_inj (sym (total_counting (kind s) d) ∙ ap total p ∙ e), h))
