-- One step as a function. Believed only through the theorem that it is the relation of `Rules`, and tells the step's kind.
use Rattle.std.proofs.Math.Option.{Option, none, some}
use Rattle.calculus.specs.Term.{Term, var, star, app, lam, pi, castup, castdown, mu, name, substitute}
use Rattle.calculus.specs.Book.{View}
use Rattle.calculus.specs.Kinds.{Kind, by_substitution, by_unfolding, by_cancellation}

-- What a term does: it is a value, it is stuck, or it has a next state, by a step of some kind.
pub data Next : Type 0 where
  value : Next
  stuck : Next
  next : Kind → Term → Next

-- The next state under a constructor `c`; where there is none, what the constructor itself does.
unfoldable pub under : (Term → Term) → Next → Next → Next
under c otherwise value = otherwise
under c otherwise stuck = otherwise
under c otherwise (next k e) = next k (c e)

-- S_BETA, where the function is an abstraction.
unfoldable pub applied : Term → Term → Next
applied (var i) u = stuck
applied star u = stuck
applied (app f x) u = stuck
applied (lam a e) u = next by_substitution (substitute 0 u e)
applied (pi a b) u = stuck
applied (castup a e) u = stuck
applied (castdown e) u = stuck
applied (mu a e) u = stuck
applied (name i) u = stuck

-- S_CASTDOWNUP, where the body is an up cast.
unfoldable pub cancelled : Term → Next
cancelled (var i) = stuck
cancelled star = stuck
cancelled (app f u) = stuck
cancelled (lam a e) = stuck
cancelled (pi a b) = stuck
cancelled (castup a e) = next by_cancellation e
cancelled (castdown e) = stuck
cancelled (mu a e) = stuck
cancelled (name i) = stuck

-- A name, by what stands for it.
unfoldable pub unfolded : Option Term → Next
unfolded none = stuck
unfolded (some e) = next by_unfolding e

-- "Nothing else steps: no argument, no part under a binder, no annotation, no body of an up cast."
unfoldable pub step : View → Term → Next
step v (var i) = stuck
step v star = value
step v (app f u) = under (λ f'. app f' u) (applied f u) (step v f)
step v (lam a e) = value
step v (pi a b) = value
step v (castup a e) = value
step v (castdown e) = under castdown (cancelled e) (step v e)
step v (mu a e) = next by_unfolding (substitute 0 (mu a e) e)
step v (name i) = unfolded (v i)
