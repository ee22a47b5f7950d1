-- Where a term may step inside: in the function of an application and in the body of a down cast. Both nodes at once are a frame
-- around that part. A step of the part is a step of the whole, by as many frames as there are around it.
use Prim.Native.Nat.{ℕ, suc}
use mathlib.Core.Path.{◌≡◌, refl, ap}
use Rattle.calculus.specs.Term.{Term, app, castdown}
use Rattle.calculus.specs.Words.{Scoped, Named, Worded}
use Rattle.calculus.specs.Book.{View}
use Rattle.calculus.specs.Kinds.{Kind}
use Rattle.calculus.specs.Step.{Next, next, under, applied, cancelled, step}
use Rattle.reduction.specs.Stepping.{Around, here, in_function, in_body}

pub data Frame : Type 0 where
  applied_to : Term → Frame
  cast_down : Frame

unfoldable pub fill : Frame → Term → Term
fill (applied_to u) t = app t u
fill cast_down t = castdown t

-- The word of the node.
unfoldable pub frame_word : Frame → ℕ
frame_word (applied_to u) = 2
frame_word cast_down = 1

-- What a node steps to where its part does not step.
unfoldable pub steps_itself : Frame → Term → Next
steps_itself (applied_to u) t = applied t u
steps_itself cast_down t = cancelled t

pub step_fill : (v : View) (f : Frame) (t : Term) → step v (fill f t) ≡ under (fill f) (steps_itself f t) (step v t)
unfolding fill steps_itself step
step_fill v (applied_to u) t = refl
step_fill v cast_down t = refl

pub around_fill : (f : Frame) {t s x y : Term} {n : ℕ} → Around t n s x y → Around (fill f t) (suc n) s x (fill f y)
unfolding fill
around_fill (applied_to u) r = in_function r
around_fill cast_down r = in_body r

pub step_around : (v : View) {t s x y : Term} {n : ℕ} {k : Kind} → Around t n s x y → step v s ≡ next k x → step v t ≡ next k y
unfolding step under
step_around v here h = h
step_around v (in_function {f = f} {u = u} r) h = ap (under (λ g. app g u) (applied f u)) (step_around v r h)
step_around v (in_body {e = e} r) h = ap (under castdown (cancelled e)) (step_around v r h)

pub scoped_inside : {t s x y : Term} {n : ℕ} → Around t n s x y → (m : ℕ) → Scoped m t → Scoped m s
unfolding Scoped
scoped_inside here m h = h
scoped_inside (in_function r) m h = scoped_inside r m h.0
scoped_inside (in_body r) m h = scoped_inside r m h

pub named_inside : {t s x y : Term} {n : ℕ} → Around t n s x y → (m : ℕ) → Named m t → Named m s
unfolding Named
named_inside here m h = h
named_inside (in_function r) m h = named_inside r m h.0
named_inside (in_body r) m h = named_inside r m h

pub worded_inside : {t s x y : Term} {n : ℕ} → Around t n s x y → Worded t → Worded s
unfolding Worded
worded_inside here h = h
worded_inside (in_function r) h = worded_inside r h.0
worded_inside (in_body r) h = worded_inside r h
