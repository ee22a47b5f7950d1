-- What a step within the limit says of the calculus. There is no next state, or one that is within the limit, or one over it, and
-- each has its own answer: so where the code found no step there is none, where it did not fit the next state is over the limit,
-- and otherwise the next state lies where it was to be written.
use Prim.Native.Nat.{ℕ, ◌*◌, ◌≤◌, ◌<◌}
use mathlib.Core.Bool.{true≢false}
use mathlib.Core.List.{List}
use mathlib.Core.Logic.{◌⊎◌, ⊎_elim}
use mathlib.Core.Path.{◌≡◌, refl, ap, ◌∙◌}
use native.Mathlib.Omega.{arith}
use lib.ListN.{take}
use lib.Seq.{sets}
use Rattle.std.specs.Prelude.{Result, Ok, Err}
use Rattle.calculus.specs.Term.{Term, size}
use Rattle.calculus.specs.Answer.{refused, no_step}
use Rattle.calculus.specs.Kinds.{Kind}
use Rattle.calculus.specs.Step.{Next, value, stuck, next}
use Rattle.calculus.specs.Infer.{stepped}
use Rattle.term.specs.Kept.{kept}
use Rattle.reduction.specs.declared.stepping.Kind as code
use Rattle.reduction.specs.declared.stepping.Stepped.{Stepped}
use Rattle.reduction.specs.declared.stepping.Halt.{Halt}
use Rattle.reduction.specs.declared.stepping.Halt.TheVariants.{Value, Stuck, Full}
use Rattle.kept.proofs.Stores.{take_sets}
use Rattle.inference.specs.Moving.{Moves}
use Rattle.inference.proofs.Putting.{within_or_over}

pub record Moved (n : Next) (work : List ℕ) (top limit k : ℕ) (after : List ℕ) : Type 0 where
  pub kind : Kind
  pub state : Term
  pub steps : n ≡ next kind state
  pub fits : size state ≤ limit
  pub long : k ≡ size state
  pub stored : after ≡ sets work (2 * top) (kept state)

-- What lies before the next state is as it was.
pub moved_front : {n : Next} {work : List ℕ} {at limit k : ℕ} {after : List ℕ} (top : ℕ)
    → Moved n work at limit k after
    → top ≤ at
    → take (2 * top) after ≡ take (2 * top) work
moved_front {work} {at} top m h =
    ap (take (2 * top)) m.stored ∙ take_sets (2 * top) work (2 * at) (kept m.state) (omega arith)

module _ (work : List ℕ) (top limit : ℕ) {r : Result Stepped Halt} (after : List ℕ) where
  -- The next state is within the limit or over it, and the answer goes by that.
  by_limit : {A : Type 0} (k : Kind) (x : Term)
      → Moves (next k x) work top limit r after
      → ((K : code.Kind) → size x ≤ limit → r ≡ Ok (record { kind = K; length = size x }) → after ≡ sets work (2 * top) (kept x) → A)
      → (limit < size x → r ≡ Err Full → A)
      → A
  unfolding Moves
  by_limit k x m within over = within_or_over x limit (λ h. within m.0 h (m.2 h).0 (m.2 h).1) (λ h. over h (m.3 h))

  pub moved : (n : Next) {s : Stepped} → Moves n work top limit r after → r ≡ Ok s → Moved n work top limit s.length after
  unfolding Moves
  moved value m q = absurd (true≢false (cc (m, q)))
  moved stuck m q = absurd (true≢false (cc (m, q)))
  moved (next k x) m q =
      by_limit k x m (λ K h t w. record { kind = k; state = x; steps = refl; fits = h; long = cc (q, t); stored = w })
      (λ h f. absurd (true≢false (cc (q, f))))

  pub over_limit : (n : Next) {s : Halt} → Moves n work top limit r after → r ≡ Err s → s ≡ Full → (k : Kind) × (x : Term) × (n ≡ next k x) × (limit < size x)
  unfolding Moves
  over_limit value m q e = absurd (true≢false (cc (m, q, e)))
  over_limit stuck m q e = absurd (true≢false (cc (m, q, e)))
  over_limit (next k x) m q e = by_limit k x m (λ K h t w. absurd (true≢false (cc (q, t)))) (λ h f. (k, x, refl, h))

  -- Where there is no next state, the cast is refused.
  pub rests : (p : ℕ) (n : Next) {s : Halt} → Moves n work top limit r after → r ≡ Err s → (s ≡ Value) ⊎ (s ≡ Stuck) → stepped p n ≡ refused no_step p
  unfolding stepped
  rests p value m q e = refl
  rests p stuck m q e = refl
  rests p (next k x) m q e =
      by_limit k x m (λ K h t w. absurd (true≢false (cc (q, t))))
      (λ h f. absurd (⊎_elim (λ v. true≢false (cc (q, f, v))) (λ v. true≢false (cc (q, f, v))) e))
