-- `locate` tells where a term steps at a view: the redex that it answers stands at that node inside frames. By induction on the term:
-- the redex of a part is the redex of the whole, one frame further in; where the part has none, the form of the part decides. A name is
-- a redex where the view shows something for it.
use Prim.Native.Nat.{ℕ, suc}
use mathlib.Core.Option.{Option, none, some}
use Rattle.std.specs.Prelude.{Result, Ok, Err}
use mathlib.Core.Path.{◌≡◌, refl, ap, subst, ◌∙◌}
use Rattle.calculus.specs.Term.{Term, var, star, app, lam, pi, castup, castdown, mu, name}
use Rattle.calculus.specs.Book.{View}
use Rattle.calculus.specs.Step.{value, stuck, under, applied, cancelled, unfolded, step}
use Rattle.reduction.specs.Stepping.{Around, here, deeper, at_application, at_castdown, at_name, locate}
use Rattle.reduction.specs.declared.stepping.Redex.{Redex}
use Rattle.reduction.specs.declared.stepping.Redex.TheVariants.{Beta, Cancel, Unfold, Name}
use Rattle.reduction.specs.declared.stepping.Rest.{Rest}
use Rattle.reduction.specs.declared.stepping.Rest.TheVariants.{Value, Stuck}
use Rattle.reduction.proofs.Frames.{Frame, applied_to, cast_down, fill, steps_itself, step_fill, around_fill}

-- The part `s` of `t` stands at the node `n` inside frames: whatever is put in its place, `t` becomes a term with it there.
pub record Inside (t : Term) (n : ℕ) (s : Term) : Type 0 where
  pub put : Term → Term
  pub around : (x : Term) → Around t n s x (put x)

abbrev pub Splits : View → Term → Result Redex Rest → Type 0
Splits v t (Err Value) = step v t ≡ value
Splits v t (Err Stuck) = step v t ≡ stuck
Splits v t (Ok (Beta n)) = (a : Term) × (e : Term) × (u : Term) × Inside t n (app (lam a e) u)
Splits v t (Ok (Cancel n)) = (a : Term) × (e : Term) × Inside t n (castdown (castup a e))
Splits v t (Ok (Unfold n)) = (a : Term) × (e : Term) × Inside t n (mu a e)
Splits v t (Ok (Name n)) = (i : ℕ) × (e : Term) × (v i ≡ some e) × Inside t n (name i)

outermost : (t : Term) → Inside t 0 t
outermost t = record { put = λ x. x; around = λ x. here }

one_further : (f : Frame) {t s : Term} {n : ℕ} → Inside t n s → Inside (fill f t) (suc n) s
one_further f i = record { put = λ x. fill f (i.put x); around = λ x. around_fill f (i.around x) }

-- What `locate` says of the node itself.
unfoldable pub at_node : Frame → Term → Result Redex Rest
at_node (applied_to u) t = at_application t
at_node cast_down t = at_castdown t

node_splits : (v : View) (f : Frame) (t : Term) → step v (fill f t) ≡ steps_itself f t → Splits v (fill f t) (at_node f t)
unfolding fill at_node steps_itself at_application at_castdown applied cancelled
node_splits v (applied_to u) (var i) h = h
node_splits v (applied_to u) star h = h
node_splits v (applied_to u) (app g s) h = h
node_splits v (applied_to u) (lam a e) h = (a, e, u, outermost (app (lam a e) u))
node_splits v (applied_to u) (pi a b) h = h
node_splits v (applied_to u) (castup a e) h = h
node_splits v (applied_to u) (castdown e) h = h
node_splits v (applied_to u) (mu a e) h = h
node_splits v (applied_to u) (name i) h = h
node_splits v cast_down (var i) h = h
node_splits v cast_down star h = h
node_splits v cast_down (app g s) h = h
node_splits v cast_down (lam a e) h = h
node_splits v cast_down (pi a b) h = h
node_splits v cast_down (castup a e) h = (a, e, outermost (castdown (castup a e)))
node_splits v cast_down (castdown e) h = h
node_splits v cast_down (mu a e) h = h
node_splits v cast_down (name i) h = h

fill_splits : (v : View) (f : Frame) (t : Term) (r : Result Redex Rest) → Splits v t r → Splits v (fill f t) (deeper r (at_node f t))
unfolding deeper under
fill_splits v f t (Err Value) h = node_splits v f t (step_fill v f t ∙ ap (under (fill f) (steps_itself f t)) h)
fill_splits v f t (Err Stuck) h = node_splits v f t (step_fill v f t ∙ ap (under (fill f) (steps_itself f t)) h)
fill_splits v f t (Ok (Beta n)) h = (h.0, h.1, h.2, one_further f h.3)
fill_splits v f t (Ok (Cancel n)) h = (h.0, h.1, one_further f h.2)
fill_splits v f t (Ok (Unfold n)) h = (h.0, h.1, one_further f h.2)
fill_splits v f t (Ok (Name n)) h = (h.0, h.1, h.2, one_further f h.3)

name_splits : (v : View) (i : ℕ) (o : Option Term) → v i ≡ o → Splits v (name i) (at_name o)
unfolding at_name step unfolded
name_splits v i none h = ap unfolded h
name_splits v i (some e) h = (i, e, h, outermost (name i))

splits : (v : View) (t : Term) → Splits v t (locate v t)
unfolding locate step fill at_node
splits v (var i) = refl
splits v star = refl
splits v (app f u) = fill_splits v (applied_to u) f (locate v f) (splits v f)
splits v (lam a e) = refl
splits v (pi a b) = refl
splits v (castup a e) = refl
splits v (castdown e) = fill_splits v cast_down e (locate v e) (splits v e)
splits v (mu a e) = (a, e, outermost (mu a e))
splits v (name i) = name_splits v i (v i) refl

pub splits_at : (v : View) (t : Term) {r : Result Redex Rest} → locate v t ≡ r → Splits v t r
splits_at v t there = subst (Splits v t) there (splits v t)
