-- Shares of the desk. A run lowers the allowance of its caller by its steps and no other; and what its caller sees of it depends on the
-- desk through that allowance alone. Both then hold of a sequence, call by call.
use Prim.Native.Nat.{ℕ, zero, suc, ◌+◌, ◌-◌, min}
use mathlib.Core.Bool.{Bool, true, false, true≢false}
use mathlib.Core.List.{List, [], ◌∷◌}
use mathlib.Core.Logic.{◌≢◌}
use mathlib.Core.Path.{◌≡◌, refl, sym, ap, ap₂, ◌∙◌}
use native.Mathlib.Omega.{arith}
use lib.Dec.{eqb, eqb→eq, eqb_refl}
use lib.Seq.{get_or-set_other}
use Rattle.calculus.specs.Answer.{Answer, ok, refused}
use Rattle.calculus.specs.Words.{words}
use Rattle.calculus.specs.Book.{View, bodies}
use Rattle.calculus.specs.Step.{step}
use Rattle.calculus.specs.Run.{Ended, Ends, run_from}
use Rattle.calculus.specs.Outcomes.{run_room, begun, cleared, Desk, allowance_of, lowered, Ran, course, ran, run_by}
use Rattle.calculus.specs.Runs.{Runs, caller_refused, work_refused, state_refused, unread, ended}
use Rattle.calculus.specs.Shares.{Call, served, served_all, desk_after, of_caller, own_calls, steps, all_steps, Seen, seen_by, SeesAll, all_seen, Conserved, Shares}
use Rattle.calculus.proofs.Comparisons.{passed}
use Rattle.calculus.proofs.RunDemand.{run_runs}

pub lowered_own : (desk : Desk) (c n : ℕ) → allowance_of (lowered desk c n) c ≡ allowance_of desk c - n
unfolding lowered
lowered_own [] c n = omega arith
lowered_own (a ∷ desk) zero n = refl
lowered_own (a ∷ desk) (suc c) n = lowered_own desk c n

lowered_other : (desk : Desk) (caller c n : ℕ) → c ≢ caller → allowance_of (lowered desk caller n) c ≡ allowance_of desk c
unfolding lowered
lowered_other desk caller c n h = get_or-set_other desk caller c _ 0 h

-- A run of another.
others : (caller c : ℕ) (desk : Desk) (W S : List ℕ) (a : Answer Ended)
    → c ≢ caller
    → allowance_of (ran run_room caller desk W S a).desk c ≡ allowance_of desk c
unfolding ran
others caller c desk W S (ok e) h = lowered_other desk caller c e.steps h
others caller c desk W S (refused r p) h = refl

-- What the caller sees, from its allowance.
ended_view : Ended → List ℕ → List ℕ → ℕ → Seen
ended_view e W S left =
    record {
      answer = ok (record { end = e.end; steps = e.steps; counts = e.counts });
      allowance = left;
      work = cleared run_room W;
      state = begun (words e.state) S;
    }

view : ℕ → List ℕ → List ℕ → Answer Ended → Seen
view allowance W S (ok e) = ended_view e W S (allowance - e.steps)
view allowance W S (refused r p) = record { answer = refused r p; allowance = allowance; work = W; state = S }

viewed : (c : ℕ) (desk : Desk) (W S : List ℕ) (a : Answer Ended) → seen_by c (ran run_room c desk W S a) ≡ view (allowance_of desk c) W S a
unfolding ran ended_view view
viewed c desk W S (ok e) = ap (ended_view e W S) (lowered_own desk c e.steps)
viewed c desk W S (refused r p) = refl

view_of : ℕ → Call → Seen
view_of allowance k =
    view allowance k.work k.state
    (course run_room (run_from (step (bodies []))) k.words (min k.budget allowance) k.caller k.work k.state)

own_view : (desk : Desk) (k : Call) → seen_by k.caller (served desk k) ≡ view_of (allowance_of desk k.caller) k
unfolding run_by view_of
own_view desk k = viewed k.caller desk k.work k.state _

other_left : (c : ℕ) (desk : Desk) (k : Call) → c ≢ k.caller → allowance_of (served desk k).desk c ≡ allowance_of desk c
unfolding run_by
other_left c desk k h = others k.caller c desk k.work k.state _ h

-- A run of its own.
own_left : {v : View} {ws : List ℕ} {budget c : ℕ} {desk : Desk} {W S : List ℕ} {r : Ran}
    → Runs v (Ends v) ws budget c desk W S r
    → allowance_of desk c ≡ allowance_of r.desk c + steps r.answer
unfolding steps
own_left (caller_refused i) = omega arith
own_left (work_refused i w) = omega arith
own_left (state_refused i w s) = omega arith
own_left (unread i w s m) = omega arith
own_left {c = c} {desk} (ended {n = n} i w s t h q a b l f) = rw (lowered_own desk c n) (omega arith)

-- Whose call it is.
data Whose (caller c : ℕ) : Type 0 where
  own : eqb caller c ≡ true → caller ≡ c → Whose caller c
  anothers : eqb caller c ≡ false → c ≢ caller → Whose caller c

whose : (caller c : ℕ) → Whose caller c
whose caller c = on (eqb caller c) refl
  where
    on : (b : Bool) → eqb caller c ≡ b → Whose caller c
    on true e = own e (eqb→eq caller c (rw e tt))
    on false e = anothers e λ q. true≢false (sym (passed (eqb caller c) (rw q (eqb_refl caller))) ∙ e)

-- All that a caller sees, and what is left to it, from its first allowance and its own calls.
views : ℕ → List Call → List Seen
views allowance [] = []
views allowance (k ∷ ks) = view_of allowance k ∷ views (view_of allowance k).allowance ks

remains : ℕ → List Call → ℕ
remains allowance [] = allowance
remains allowance (k ∷ ks) = remains (view_of allowance k).allowance ks

module _ (c : ℕ) where
  own_conserved : (desk : Desk) (k : Call)
      → k.caller ≡ c
      → allowance_of desk c ≡ allowance_of (served desk k).desk c + steps (served desk k).answer
  own_conserved desk k e = rw (← e) (own_left (run_runs [] k.words k.budget k.caller desk k.work k.state))

  own_seen : (desk : Desk) (k : Call) → k.caller ≡ c → seen_by c (served desk k) ≡ view_of (allowance_of desk c) k
  own_seen desk k e = rw (← e) (own_view desk k)

  conserved : (desk : Desk) (ks : List Call) → Conserved c desk ks
  unfolding served_all desk_after of_caller all_steps
  conserved desk [] = omega arith
  conserved desk (k ∷ ks) = on (conserved (served desk k).desk ks) (whose k.caller c)
    where
      on : Conserved c (served desk k).desk ks → Whose k.caller c → Conserved c desk (k ∷ ks)
      on later (own t e) = rw t (omega (arith, own_conserved desk k e, later))
      on later (anothers f h) = rw f (sym (other_left c desk k h) ∙ later)

  all_views : (desk : Desk) (ks : List Call) → all_seen c desk ks ≡ views (allowance_of desk c) (own_calls c ks)
  unfolding served_all of_caller views
  all_views desk [] = refl
  all_views desk (k ∷ ks) = on (all_views (served desk k).desk ks) (whose k.caller c)
    where
      on : all_seen c (served desk k).desk ks ≡ views (allowance_of (served desk k).desk c) (own_calls c ks)
          → Whose k.caller c
          → all_seen c desk (k ∷ ks) ≡ views (allowance_of desk c) (own_calls c (k ∷ ks))
      on later (own t e) =
          let now = own_seen desk k e in
          rw t (ap₂ ◌∷◌ now (later ∙ ap (λ s. views s.allowance (own_calls c ks)) now))
      on later (anothers f h) = rw f (later ∙ ap (λ a. views a (own_calls c ks)) (other_left c desk k h))

  all_remains : (desk : Desk) (ks : List Call) → allowance_of (desk_after desk ks) c ≡ remains (allowance_of desk c) (own_calls c ks)
  unfolding desk_after of_caller remains
  all_remains desk [] = refl
  all_remains desk (k ∷ ks) = all_remains (served desk k).desk ks ∙ on (whose k.caller c)
    where
      on : Whose k.caller c
          → remains (allowance_of (served desk k).desk c) (own_calls c ks) ≡ remains (allowance_of desk c) (own_calls c (k ∷ ks))
      on (own t e) = rw t (ap (λ s. remains s.allowance (own_calls c ks)) (own_seen desk k e))
      on (anothers f h) = rw f (ap (λ a. remains a (own_calls c ks)) (other_left c desk k h))

pub sees_all : SeesAll
sees_all c r s e = (ap (λ x. x.answer) e, ap (λ x. x.allowance) e, ap (λ x. x.work) e, ap (λ x. x.state) e)

pub shares : Shares
shares c desk ks = (
  conserved c desk ks,
  λ desk' ks' a e. record {
    seen = all_views c desk ks ∙ ap₂ views a e ∙ sym (all_views c desk' ks');
    left = all_remains c desk ks ∙ ap₂ remains a e ∙ sym (all_remains c desk' ks');
  },
)
