-- The room of a part, and what the steps and the rewriting ask of what inference hands on. A part has a level less than its node, so
-- that it needs one type's room less; a term in scope of the context within the limit is what the steps and the rewriting ask for,
-- since no context is deeper than 64 annotations.
use Prim.Native.Nat.{ℕ, suc, ◌+◌, ◌*◌, ◌≤◌, ◌<◌}
use mathlib.Core.Bool.{Bool, true}
use mathlib.Core.List.{List}
use mathlib.Core.Path.{◌≡◌, sym, subst, ◌∙◌}
use native.Mathlib.Nat.{suc-mul, mul-le-mul_right}
use native.Mathlib.Omega.{arith}
use lib.ListN.{length}
use Rattle.calculus.specs.Term.{Term, var, star, app, lam, pi, castup, castdown, mu, name, raise, size}
use Rattle.calculus.specs.Words.{words, levels, Scoped, deepest, Worded, longest}
use Rattle.calculus.proofs.Coding.{worded}
use Rattle.calculus.specs.Rules.{Context}
use Rattle.calculus.proofs.Scoping.{scoped_more, step_scoped, Shut}
use Rattle.kept.specs.Rewriting.{Fits}
use Rattle.inference.specs.Inference.{Subject, Roomy}
use Rattle.inference.specs.Moving.{Coded, CodesWithin, next_of}
use Rattle.inference.proofs.Subjects.{subject_long}
use Rattle.calculus.specs.Kinds.{Kind}
use Rattle.calculus.specs.Step.{next}
use Rattle.calculus.proofs.Stepping.{next_step}
use Rattle.calculus.proofs.Found.{raise_scoped}
use Rattle.kept.proofs.InPlace.{raise_size}
use Rattle.book.specs.declared.Reader.{Reader}
use Rattle.book.specs.Layout.{sight, decode}
use Rattle.book.proofs.Entries.{bodies_fitted, sight_bodies}

levels_positive : (e : Term) → 1 ≤ levels e
unfolding levels
levels_positive (var i) = omega arith
levels_positive star = omega arith
levels_positive (app f u) = omega arith
levels_positive (lam a e) = omega arith
levels_positive (pi a b) = omega arith
levels_positive (castup a e) = omega arith
levels_positive (castdown e) = omega arith
levels_positive (mu a e) = omega arith
levels_positive (name i) = omega arith

pub castdown_levels : (e : Term) → levels e < levels (castdown e)
unfolding levels
castdown_levels e = omega arith

module _ {book : List ℕ} {Γ : Context} {e : Term} {term sub places : List ℕ} {depth : ℕ} (S : Subject book Γ e term sub places depth) where
  -- There is a place for one annotation more.
  pub subject_shallow : depth < deepest
  subject_shallow = omega (arith, levels_positive e, S.deep)

  pub own_scope : Scoped (length Γ) e
  own_scope = subst (λ n. Scoped n e) S.around S.scoped

  -- A term in scope of the context is in scope of the deepest one.
  pub deeper_scoped : (τ : Term) → Scoped (length Γ) τ → Scoped deepest τ
  deeper_scoped τ s = scoped_more τ (omega (arith, S.around, subject_shallow)) s

  -- In no annotation's scope it is closed.
  pub closed_scoped : (τ : Term) → Scoped (length Γ) τ → depth ≡ 0 → Scoped 0 τ
  closed_scoped τ s h = subst (λ n. Scoped n τ) (sym S.around ∙ h) s

  -- The subterm itself.
  pub subject_fits : Fits e
  subject_fits = record { short = omega (arith, subject_long S, S.within, S.short); scoped = deeper_scoped e own_scope }

  pub subject_worded : Worded e
  subject_worded = worded deepest e subject_fits.scoped (omega (arith, subject_fits.short))

  -- Its next state, and it raised by one.
  pub next_worded : (who : Reader) {k : Kind} {x : Term} → next_of who book e ≡ next k x → size x ≤ longest → Worded x
  unfolding next_of
  next_worded who {k} {x} h short =
      let B = decode book in
      let closed : Shut (sight who B) = λ i t q. (bodies_fitted B S.holds i t (sight_bodies who B i t q)).0 in
      worded deepest x (step_scoped deepest closed (next_step (sight who B) e h).0 subject_fits.scoped) (omega (arith, short))

  pub raised_worded : Worded (raise 1 0 e)
  raised_worded = worded (suc deepest) (raise 1 0 e) (raise_scoped deepest 0 e subject_fits.scoped) (omega (arith, raise_size 1 0 e, subject_fits.short))

  pub subject_codes : {ws : List ℕ} (closed : Bool) → ws ≡ words e → (closed ≡ true → depth ≡ 0) → Coded ws closed
  subject_codes closed x h =
      record {
        term = e;
        coded = x;
        short = subject_fits.short;
        scoped = subject_fits.scoped;
        shut = λ c. closed_scoped e own_scope (h c);
      }

  pub subject_within : {ws : List ℕ} (closed : Bool) → ws ≡ words e → (closed ≡ true → depth ≡ 0) → CodesWithin book ws closed
  unfolding subject_codes
  subject_within closed x h = record { codes = subject_codes closed x h; named = S.named }

module _ {e : Term} {work : List ℕ} {top limit : ℕ} (R : Roomy e work top limit) where
  -- Two types fit.
  pub room_two : 2 * (top + (limit + limit)) ≤ length work
  room_two = omega (arith, R.room, suc-mul (levels e) limit, mul-le-mul_right limit (levels_positive e))

  -- A part's room, at the same top or behind one type.
  pub roomy_part : {a : Term} {work' : List ℕ} {top' : ℕ}
      → levels a < levels e
      → length work' ≡ length work
      → top' ≤ top + limit
      → Roomy a work' top' limit
  roomy_part h x t =
      record {
        some = R.some;
        allowed = R.allowed;
        room = omega (arith, R.room, suc-mul (levels e) limit, mul-le-mul_right limit h);
      }

  pub roomy_renamed : {d : Term} → e ≡ d → Roomy d work top limit
  roomy_renamed x = subst (λ d. Roomy d work top limit) x R
