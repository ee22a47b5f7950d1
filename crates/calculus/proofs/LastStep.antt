-- A result on the last step. The earlier order of ends is one as well, so that the earlier run is by the relation what it was; and of a
-- run that ends, the earlier end at the same state follows from the present one.
use Prim.Native.Nat.{ℕ, suc, ◌≤◌}
use mathlib.Core.Bool.{true≢false}
use mathlib.Core.List.{List}
use mathlib.Core.Path.{◌≡◌, refl, sym, ap, subst}
use native.Mathlib.Decide.{dec_le}
use native.Mathlib.Nat.{suc_inj}
use native.Mathlib.Omega.{arith}
use Rattle.calculus.specs.Term.{Term}
use Rattle.calculus.specs.Book.{Book, View, bodies}
use Rattle.calculus.specs.Run.{End, spent, at_value, at_stuck, too_long, Ends, ends_value, ends_stuck, ends_spent, ends_long}
use Rattle.calculus.specs.Outcomes.{grant, Ran}
use Rattle.calculus.specs.Runs.{Runs, caller_refused, work_refused, state_refused, unread, ended}
use Rattle.calculus.specs.Earlier as earlier
use Rattle.calculus.specs.Changes.{Becomes, now_value, now_stuck, still_spent, as_before, OneForOne, EndChanged, refused_alike, ended_alike, LastStep}
use Rattle.calculus.proofs.Reduction.{value_rests}
use Rattle.calculus.proofs.Courses.{Tested}
use Rattle.calculus.proofs.RunDemand.{run_by_demand, run_runs}

ends_later : {v : View} {g n : ℕ} {x : Term} {E : End} → earlier.Ends v g n x E → earlier.Ends v (suc g) (suc n) x E
ends_later (earlier.ends_spent e) = earlier.ends_spent (ap suc e)
ends_later (earlier.ends_value h v) = earlier.ends_value (omega arith) v
ends_later (earlier.ends_stuck h v s) = earlier.ends_stuck (omega arith) v s
ends_later (earlier.ends_long h s l) = earlier.ends_long (omega arith) s l

ends_before : {v : View} {g n : ℕ} {x : Term} {E : End} → earlier.Ends v (suc g) (suc n) x E → earlier.Ends v g n x E
ends_before (earlier.ends_spent e) = earlier.ends_spent (suc_inj e)
ends_before (earlier.ends_value h v) = earlier.ends_value (omega arith) v
ends_before (earlier.ends_stuck h v s) = earlier.ends_stuck (omega arith) v s
ends_before (earlier.ends_long h s l) = earlier.ends_long (omega arith) s l

-- With no step left every run was spent.
spent_first : {v : View} {n : ℕ} {x : Term} {E : End} → earlier.Ends v 0 n x E → spent ≡ E
spent_first (earlier.ends_spent e) = refl
spent_first (earlier.ends_value h v) = absurd (omega arith)
spent_first (earlier.ends_stuck h v s) = absurd (omega arith)
spent_first (earlier.ends_long h s l) = absurd (omega arith)

-- With a step left the two orders agree.
ends_now : {v : View} {g : ℕ} {x : Term} {E : End} → earlier.Ends v (suc g) 0 x E → Ends v (suc g) 0 x E
ends_now (earlier.ends_spent e) = absurd (omega arith)
ends_now (earlier.ends_value h v) = ends_value (omega arith) v
ends_now (earlier.ends_stuck h v s) = ends_stuck (omega arith) v s
ends_now (earlier.ends_long h s l) = ends_long h s l

ends_then : {v : View} {g : ℕ} {x : Term} {E : End} → Ends v (suc g) 0 x E → earlier.Ends v (suc g) 0 x E
ends_then (ends_value h v) = earlier.ends_value (omega arith) v
ends_then (ends_stuck h v s) = earlier.ends_stuck (omega arith) v s
ends_then (ends_spent e s) = absurd (omega arith)
ends_then (ends_long h s l) = earlier.ends_long h s l

tested_earlier : (v : View) → Tested v (earlier.Ends v) earlier.last_end
unfolding earlier.last_end
tested_earlier v =
    record {
      later = (ends_later, ends_before);
      none_left = λ {x}. (spent_first, λ e. subst (earlier.Ends v 0 0 x) e (earlier.ends_spent refl));
      some_left = (ends_now, ends_then);
    }

pub earlier_demand2_run : earlier.Demand2Run
earlier_demand2_run B = run_by_demand (tested_earlier (bodies B))

-- With the grant used the state tells both ends; with a step left they are one.
pub one_for_one : OneForOne
one_for_one v g n x E E' F F' (now_value e u) (now_value f w) = (λ _. refl, λ _. refl)
one_for_one v g n x E E' F F' (now_value e u) (now_stuck f w s) = absurd (w u)
one_for_one v g n x E E' F F' (now_value e u) (still_spent f s) = absurd (value_rests u s.1)
one_for_one v g n x E E' F F' (now_value e u) (as_before l m) = absurd (omega arith)
one_for_one v g n x E E' F F' (now_stuck e u s) (now_value f w) = absurd (u w)
one_for_one v g n x E E' F F' (now_stuck e u s) (now_stuck f w r) = (λ _. refl, λ _. refl)
one_for_one v g n x E E' F F' (now_stuck e u s) (still_spent f r) = absurd (s r)
one_for_one v g n x E E' F F' (now_stuck e u s) (as_before l m) = absurd (omega arith)
one_for_one v g n x E E' F F' (still_spent e s) (now_value f w) = absurd (value_rests w s.1)
one_for_one v g n x E E' F F' (still_spent e s) (now_stuck f w r) = absurd (r s)
one_for_one v g n x E E' F F' (still_spent e s) (still_spent f r) = (λ _. refl, λ _. refl)
one_for_one v g n x E E' F F' (still_spent e s) (as_before l m) = absurd (omega arith)
one_for_one v g n x E E' F F' (as_before l m) (now_value f w) = absurd (omega arith)
one_for_one v g n x E E' F F' (as_before l m) (now_stuck f w r) = absurd (omega arith)
one_for_one v g n x E E' F F' (as_before l m) (still_spent f r) = absurd (omega arith)
one_for_one v g n x E E' F F' (as_before l m) (as_before k q) = (λ e. e, λ e. e)

-- The end that a run had which now ends by E.
abbrev Had : View → ℕ → ℕ → Term → End → Type 0
Had v g n x E = (E₀ : End) × earlier.Ends v g n x E₀ × Becomes v g n x E₀ E

had : {v : View} {g n : ℕ} {x : Term} {E : End} → Ends v g n x E → Had v g n x E
had {v} {g} {n} {x} (ends_value h u) = on (dec_le g n)
  where
    on : Dec (g ≤ n) → Had v g n x at_value
    on (yes l) = (spent, earlier.ends_spent (omega arith), now_value (omega arith) u)
    on (no l) = (at_value, earlier.ends_value (omega arith) u, as_before {E = at_value} (omega arith) (λ e. absurd (true≢false (cc e))))
had {v} {g} {n} {x} (ends_stuck h u s) = on (dec_le g n)
  where
    on : Dec (g ≤ n) → Had v g n x at_stuck
    on (yes l) = (spent, earlier.ends_spent (omega arith), now_stuck (omega arith) u s)
    on (no l) = (at_stuck, earlier.ends_stuck (omega arith) u s, as_before {E = at_stuck} (omega arith) (λ e. absurd (true≢false (cc e))))
had (ends_spent e s) = (spent, earlier.ends_spent e, still_spent e s)
had (ends_long h s l) = (too_long, earlier.ends_long h s l, as_before {E = too_long} h (λ e. absurd (true≢false (cc e))))

abbrev Changed : Book → List ℕ → ℕ → List ℕ → Ran → Ran → Type 0
Changed B = EndChanged (bodies B)

pub last_step : LastStep
last_step B ws budget caller desk W S = on (run_runs B ws budget caller desk W S)
  where
    before : {b c : Ran} → Runs (bodies B) (earlier.Ends (bodies B)) ws budget caller desk W S b → Changed B ws (grant budget caller desk) S b c
        → Changed B ws (grant budget caller desk) S (earlier.run_over B ws budget caller desk W S) c
    before {b} {c} r =
        subst (λ a. Changed B ws (grant budget caller desk) S a c) (sym ((earlier_demand2_run B ws budget caller desk W S b).1 r))

    on : {c : Ran} → Runs (bodies B) (Ends (bodies B)) ws budget caller desk W S c
        → Changed B ws (grant budget caller desk) S (earlier.run_over B ws budget caller desk W S) c
    on (caller_refused i) = before (caller_refused i) refused_alike
    on (work_refused i w) = before (work_refused i w) refused_alike
    on (state_refused i w s) = before (state_refused i w s) refused_alike
    on (unread i w s m) = before (unread i w s m) refused_alike
    on (ended i w s c h q a b l f) = let (E, e, k) = had f in before (ended i w s c h q a b l e) (ended_alike c h k)
