-- Bytes that are taken line by line. What was taken so far, and whatever is taken of the bytes that are left, are together taken of all:
-- each turn adds a line at the end of what was taken, or ends it.
use Prim.Native.Nat.{ℕ, suc, ◌+◌, ◌≤◌, ◌<◌}
use mathlib.Core.Bool.{true, false}
use mathlib.Core.List.{List, []}
use mathlib.Core.Path.{◌≡◌, sym, ap, subst, ◌∙◌}
use native.Mathlib.Omega.{arith}
use native.Mathlib.Numerals.{add-one}
use lib.ListN.{length, drop, length-drop, drop_of_length-le}
use Rattle.std.specs.Prelude.{None, IsSome}
use Rattle.protocol.specs.Requests.{Line, line_of, field_end, fed_line, line_length}
use Rattle.protocol.specs.declared.request.Request.{Request}
use Rattle.session.specs.Sessions.{Place, place, with_request, line_end, line_read, Answers, Takes, unended, stopped, further, Turns, Lasts, counted_out, last, again}
use Rattle.session.specs.declared.Session.{Session}

-- A request at its end is answered.
pub answers_line : {N : ℕ} (s : Session) (ws W page : List ℕ) {q : Request} {us : List ℕ} {r : Place}
    → line_of q us ≡ field_end s.request ws
    → Answers N (place (with_request s q) us W page) r
    → Answers N (line_end (place s ws W page)) r
unfolding line_end
answers_line {N} s ws W page {r = r} e h =
    subst (λ (l : Line). Answers N (place (with_request s l.request) l.words W page) r) e h

-- What the bytes of a line leave.
pub reads_line : (s : Session) (ws W page bs : List ℕ) {q : Request} {us : List ℕ}
    → line_of q us ≡ fed_line (line_of s.request ws) bs
    → place (with_request s q) us W page ≡ line_read bs (place s ws W page)
unfolding line_read
reads_line s ws W page bs e = ap (λ (l : Line). place (with_request s l.request) l.words W page) e

-- `Taken N bs p rest q`: all of the bytes but the rest are taken, and `q` is come to.
pub record Taken (N : ℕ) (bs : List ℕ) (p : Place) (rest : List ℕ) (q : Place) : Type 0 where
  pub within : length rest ≤ length bs
  pub then : (r : Place) → Takes N rest q r → Takes N bs p r

pub taken_none : {N : ℕ} (bs : List ℕ) (p : Place) → Taken N bs p bs p
taken_none bs p = record { within = omega arith; then = λ r t. t }

-- All is taken.
nothing_more : {N : ℕ} (p : Place) → Takes N [] p p
unfolding line_read fed_line line_length
nothing_more p = unended {bs = []} {p = p} (omega arith)

module _ {N : ℕ} {bs rest : List ℕ} {p q : Place} (h : Taken N bs p rest q) where
  pub taken_all : length rest ≤ 0 → Takes N bs p q
  taken_all l = h.then q (subst (λ b. Takes N b q q) (sym (drop_of_length-le rest l)) (nothing_more q))

  -- The next line, as far as it is there.
  module _ {m : Place} {at : ℕ} (e : m ≡ line_read rest q) (n : at ≡ line_length rest) where
    pub taken_unended : length rest ≤ at → Takes N bs p m
    taken_unended l = h.then m (subst (Takes N rest q) (sym e) (unended (omega (arith, n))))

    module _ (l : at < length rest) {r : Place} (a : Answers N (line_end m) r) where
      answers : Answers N (line_end (line_read rest q)) r
      answers = subst (λ x. Answers N (line_end x) r) e a

      feed : line_length rest < length rest
      feed = omega (arith, n)

      pub taken_stopped : IsSome r.session.output.error → Takes N bs p r
      taken_stopped x = h.then r (stopped feed answers x)

      pub taken_further : r.session.output.error ≡ None → Taken N bs p (drop (at + 1) rest) r
      taken_further x =
          let behind : drop (at + 1) rest ≡ drop (suc (line_length rest)) rest = ap (λ k. drop k rest) (add-one at ∙ ap suc n) in
          record {
            within = omega (arith, length-drop (at + 1) rest, h.within);
            then = λ s t. h.then s (further feed answers x (subst (λ b. Takes N b r s) behind t));
          }

-- Turns that were made, with whatever is made from here on.
pub record Lasted (N : ℕ) (p q : Place) : Type 0 where
  pub then : (r : Place) → Lasts N q r → Lasts N p r

pub lasted_none : {N : ℕ} (p : Place) → Lasted N p p
lasted_none p = record { then = λ r l. l }

module _ {N : ℕ} {p q r : Place} (h : Lasted N p q) where
  pub lasted_over : Turns N q true r → Lasts N p r
  lasted_over t = h.then r (last t)

  pub lasted_again : Turns N q false r → Lasted N p r
  lasted_again t = record { then = λ s l. h.then s (again t l) }

pub lasted_out : {N : ℕ} {p q : Place} → Lasted N p q → Lasts N p q
lasted_out {q = q} h = h.then q counted_out
