-- What a run answers, by the one_step relation: the last state is the state after the steps taken, which are so many of each kind,
-- every state up to it fits, the steps are within the grant, and the end is the first that holds there. Only one answer is so. Both by
-- induction on the grant: the states after the first step are the states of the term that it gives. This for any order in which the
-- ends are tested that agrees with `Ends` while a step is left.
use Prim.Native.Nat.{ℕ, zero, suc, ◌≤◌}
use mathlib.Core.Logic.{◌↔◌}
use mathlib.Core.Path.{◌≡◌, refl, sym, ◌∙◌, ap, subst}
use native.Mathlib.Decide.{dec_le}
use native.Mathlib.Nat.{le_of_suc-le-suc, suc_inj}
use native.Mathlib.Omega.{arith}
use Rattle.calculus.specs.Term.{Term, size}
use Rattle.calculus.specs.Words.{longest}
use Rattle.calculus.specs.Book.{View}
use Rattle.calculus.specs.Rules.{◌⊩◌⟶◌}
use Rattle.calculus.specs.Kinds.{kind, Counts, counts, counting, total, Counted, counted_none}
use Rattle.calculus.specs.Step.{Next, next, step}
use Rattle.calculus.specs.Run.{State, state_zero, state_suc, End, Ends, ends_value, ends_stuck, ends_spent, ends_long, Ended, done, one_more, advance, last_end, run_until, run_from}
use Rattle.calculus.proofs.Comparisons.{le_leb, gt_leb}
use Rattle.calculus.proofs.Reduction.{determinism}
use Rattle.calculus.proofs.Counting.{total_counting, counted_after, First, first, first_step, none_counted, counts_of_states, state_after, state_first}
use Rattle.calculus.proofs.Stepping.{Finds, finds_value, finds_stuck, finds_next, step_finds, step_next, value_step, stuck_step}

-- A run of `t` with the grant `g` ends by E at `x`, after `n` steps, which are `c` by kind. `Order` tells its end.
pub record Course (v : View) (Order : ℕ → ℕ → Term → End → Type 0) (g : ℕ) (t : Term) (E : End) (n : ℕ) (c : Counts) (x : Term) : Type 0 where
  pub last : State v t n x
  pub counted : Counted v t c x
  pub adds : total c ≡ n
  pub bounded : (k : ℕ) (y : Term) → k ≤ n → State v t k y → size y ≤ longest
  pub within : n ≤ g
  pub ends : Order g n x E

pub state_unique : {v : View} {t : Term} {k : ℕ} {x y : Term} → State v t k x → State v t k y → x ≡ y
state_unique state_zero state_zero = refl
state_unique {v} (state_suc h s) (state_suc {y = y} k r) = determinism s (subst (λ z. v ⊩ z ⟶ y) (sym (state_unique h k)) r)

-- What is asked of an order of ends, and of `last`, the end that a run tells whose grant is used: a step taken is one granted less; with
-- no step left `last` tells the end; with a step left it is that of `Ends`.
pub record Tested (v : View) (Order : ℕ → ℕ → Term → End → Type 0) (last : Next → End) : Type 0 where
  pub later : {g n : ℕ} {x : Term} {E : End} → Order g n x E ↔ Order (suc g) (suc n) x E
  pub none_left : {x : Term} {E : End} → Order 0 0 x E ↔ (last (step v x) ≡ E)
  pub some_left : {g : ℕ} {x : Term} {E : End} → Order (suc g) 0 x E ↔ Ends v (suc g) 0 x E

abbrev pub Answered : View → (ℕ → ℕ → Term → End → Type 0) → ℕ → Term → Ended → Type 0
Answered v Order g t r = Course v Order g t r.end r.steps r.counts r.state

module _ {v : View} {Order : ℕ → ℕ → Term → End → Type 0} {last : Next → End} (T : Tested v Order last) where
  -- A run that ends where it begins,
  course_here : {g : ℕ} {t : Term} {E : End} → size t ≤ longest → Order g 0 t E → Course v Order g t E 0 (counts 0 0 0) t
  unfolding total
  course_here {t} h e =
      record {
        last = state_zero;
        counted = counted_none;
        adds = refl;
        bounded = λ k y. only k;
        within = omega arith;
        ends = e;
      }
    where
      only : (k : ℕ) {y : Term} → k ≤ 0 → State v t k y → size y ≤ longest
      only zero l state_zero = h
      only (suc k) l s = absurd (omega arith)

  -- and one that steps first.
  course_after : {g n : ℕ} {c : Counts} {t t' x : Term} {E : End}
      → size t ≤ longest
      → (s : v ⊩ t ⟶ t')
      → Course v Order g t' E n c x
      → Course v Order (suc g) t E (suc n) (counting (kind s) c) x
  course_after {n} {c} {t} {t'} h s r =
      record {
        last = state_after s r.last;
        counted = counted_after s r.counted;
        adds = total_counting (kind s) c ∙ ap suc r.adds;
        bounded = λ k y. all k;
        within = omega (arith, r.within);
        ends = T.later.0 r.ends;
      }
    where
      all : (k : ℕ) {y : Term} → k ≤ suc n → State v t k y → size y ≤ longest
      all zero l state_zero = h
      all (suc k) {y} l h =
          let (u, s', h') = state_first k h in
          r.bounded k y (le_of_suc-le-suc l) (subst (λ z. State v z k y) (determinism s' s) h')

  advance_course : {g : ℕ} {t : Term} {m : Next} (go : Term → Ended)
      → size t ≤ longest
      → ((y : Term) → size y ≤ longest → Answered v Order g y (go y))
      → Finds v t m
      → Answered v Order (suc g) t (advance go t m)
  unfolding advance done one_more
  advance_course go h all (finds_value w) = course_here h (T.some_left.1 (ends_value (omega arith) w))
  advance_course go h all (finds_stuck w s) = course_here h (T.some_left.1 (ends_stuck (omega arith) w s))
  advance_course {g} {t} go h all (finds_next {k} {x} s e) = on (dec_le (size x) longest)
    where
      on : Dec (size x ≤ longest) → Answered v Order (suc g) t (advance go t (next k x))
      on (yes l) = rw (le_leb (size x) longest l, ← e) (course_after h s (all x l))
      on (no l) =
          rw (gt_leb (size x) longest (omega arith)) (course_here h (T.some_left.1 (ends_long (omega arith) s (omega arith))))

  pub until_course : (g : ℕ) (t : Term) → size t ≤ longest → Answered v Order g t (run_until (step v) last g t)
  unfolding run_until done
  until_course zero t h = course_here h (T.none_left.1 refl)
  until_course (suc g) t h = advance_course (run_until (step v) last g) h (until_course g) (step_finds v t)

  -- A run that ends where it begins is the run's answer,
  answer_here : (g : ℕ) {t : Term} {E : End} → Order g 0 t E → run_until (step v) last g t ≡ done E t
  unfolding run_until advance
  answer_here zero {t} e = ap (λ E. done E t) (T.none_left.0 e)
  answer_here (suc g) {t} e = on (T.some_left.0 e)
    where
      on : {E : End} → Ends v (suc g) 0 t E → run_until (step v) last (suc g) t ≡ done E t
      on (ends_value h w) = rw (value_step v w) refl
      on (ends_stuck h w s) = rw (stuck_step v w s) refl
      on (ends_spent e s) = absurd (omega arith)
      on (ends_long {y} h s l) = rw (step_next s, gt_leb (size y) longest l) refl

  -- and so is one that steps first, if the rest is.
  course_rest : {g n : ℕ} {c : Counts} {t x : Term} {E : End}
      → Course v Order (suc g) t E (suc n) c x
      → (t' : Term) × (s : v ⊩ t ⟶ t') × (d : Counts) × (counting (kind s) d ≡ c) × (size t' ≤ longest) × Course v Order g t' E n d x
  course_rest {g} {n} {c} {t} {x} {E} r = on (first_step n r.adds r.counted)
    where
      on : First v t c x
          → (t' : Term) × (s : v ⊩ t ⟶ t') × (d : Counts) × (counting (kind s) d ≡ c) × (size t' ≤ longest) × Course v Order g t' E n d x
      on (first {t'} {d} s h e) =
          let many : total d ≡ n = suc_inj (sym (total_counting (kind s) d) ∙ ap total e ∙ r.adds) in (
            t',
            s,
            d,
            e,
            r.bounded 1 t' (omega arith) (state_suc state_zero s),
            record {
              last = (counts_of_states v t' n x).1 (d, many, h);
              counted = h;
              adds = many;
              bounded = λ k y l z. r.bounded (suc k) y (omega arith) (state_after s z);
              within = le_of_suc-le-suc r.within;
              ends = T.later.1 r.ends;
            },
          )

  answer_after : (g : ℕ) {t t' : Term} (s : v ⊩ t ⟶ t')
      → size t' ≤ longest
      → run_until (step v) last (suc g) t ≡ one_more (kind s) (run_until (step v) last g t')
  unfolding run_until advance
  answer_after g {t'} s l = rw (step_next s, le_leb (size t') longest l) refl

  pub until_answer : (g : ℕ) {t : Term} {E : End} (n : ℕ) {c : Counts} {x : Term}
      → Course v Order g t E n c x
      → run_until (step v) last g t ≡ record { end = E; steps = n; counts = c; state = x }
  unfolding done one_more
  until_answer g {t} {E} zero {c} {x} r = rw (none_counted c r.adds) (on r.last r.ends)
    where
      on : {x : Term} → State v t 0 x → Order g 0 x E → run_until (step v) last g t ≡ record { end = E; steps = 0; counts = counts 0 0 0; state = x }
      on state_zero e = answer_here g e
  until_answer zero (suc n) r = absurd (omega (arith, r.within))
  until_answer (suc g) {E} (suc n) {x} r =
      let (t', s, d, e, l, rest) = course_rest r in
      answer_after g s l
      ∙ ap (one_more (kind s)) (until_answer g n rest)
      ∙ ap (λ c. record { end = E; steps = suc n; counts = c; state = x }) e

-- The present order of ends is one.
ends_later : {v : View} {g n : ℕ} {x : Term} {E : End} → Ends v g n x E → Ends v (suc g) (suc n) x E
ends_later (ends_value h v) = ends_value (omega arith) v
ends_later (ends_stuck h v s) = ends_stuck (omega arith) v s
ends_later (ends_spent e s) = ends_spent (ap suc e) s
ends_later (ends_long h s l) = ends_long (omega arith) s l

ends_before : {v : View} {g n : ℕ} {x : Term} {E : End} → Ends v (suc g) (suc n) x E → Ends v g n x E
ends_before (ends_value h v) = ends_value (omega arith) v
ends_before (ends_stuck h v s) = ends_stuck (omega arith) v s
ends_before (ends_spent e s) = ends_spent (suc_inj e) s
ends_before (ends_long h s l) = ends_long (omega arith) s l

-- Where no step is left, the state itself tells the end.
ends_last : {v : View} {x : Term} {m : Next} → Finds v x m → Ends v 0 0 x (last_end m)
unfolding last_end
ends_last (finds_value v) = ends_value (omega arith) v
ends_last (finds_stuck v s) = ends_stuck (omega arith) v s
ends_last (finds_next {x = y} s e) = ends_spent refl (y, s)

last_ends : (v : View) {x : Term} {E : End} → Ends v 0 0 x E → last_end (step v x) ≡ E
unfolding last_end
last_ends v (ends_value h w) = rw (value_step v w) refl
last_ends v (ends_stuck h w s) = rw (stuck_step v w s) refl
last_ends v (ends_spent e s) = rw (step_next s.1) refl
last_ends v (ends_long h s l) = absurd (omega arith)

pub tested : (v : View) → Tested v (Ends v) last_end
tested v =
    record {
      later = (ends_later, ends_before);
      none_left = λ {x}. (last_ends v, λ e. subst (Ends v 0 0 x) e (ends_last (step_finds v x)));
      some_left = (λ e. e, λ e. e);
    }

pub run_course : (v : View) (g : ℕ) (t : Term) → size t ≤ longest → Answered v (Ends v) g t (run_from (step v) g t)
run_course v = until_course (tested v)
