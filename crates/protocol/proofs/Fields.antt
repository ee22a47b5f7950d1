-- What the letters in front of the numbers are: the topic, where there is none yet, or the verb.
use Prim.Native.Nat.{ℕ}
use mathlib.Core.Bool.{true, false}
use mathlib.Core.Path.{◌≡◌, refl}
use borrow.Author.Tests.{eq-eqb, ne_eqb}
use Rattle.protocol.specs.Requests.{known, desk_topic, named}
use Rattle.protocol.specs.declared.request.Request.{Request}

module _ (q : Request) (l : ℕ) (d : l ≡ desk_topic) where
  pub named_topic : q.topic ≡ 0 → known q 0 l q.verb q.values q.numbers ≡ named q l
  unfolding named
  named_topic t = rw (eq-eqb l desk_topic d, eq-eqb q.topic 0 t) refl

  pub named_again : (q.topic ≡ 0 → ⊥) → known q 1 q.topic l q.values q.numbers ≡ named q l
  unfolding named
  named_again t = rw (eq-eqb l desk_topic d, ne_eqb q.topic 0 t) refl
