-- What stands around a part inside frames. The kept words of the whole are those of the frames' nodes, those of the part, and
-- those behind it. With another part in its place the words behind stay, and the frames' lengths are moved by the difference of
-- the two parts, which is that of the two wholes. So the new whole is in a slice once the new part, what stands behind, and the
-- frames' nodes are stored, in this order; and where one of them lacks room, so does the whole.
use Prim.Native.Nat.{ℕ, ◌+◌, ◌-◌, ◌*◌, ◌/◌, ◌≤◌, ◌<◌}
use Rattle.std.specs.Prelude.{Option, None, Some, Result, Ok, Err}
use Rattle.std.specs.Option.{ok_or}
use Rattle.std.specs.Result.{IsErrAnd}
use Rattle.std.proofs.lemmas.Result.{err_from_is_err_and}
use mathlib.Core.List.{List, [], ◌∷◌, ◌++◌, append_assoc}
use mathlib.Core.Path.{◌≡◌, refl, sym, ap, ap₂, ◌∙◌, subst}
use native.Mathlib.Omega.{arith}
use lib.ListN.{length, take, drop, length-append}
use lib.Seq.{sets, sets-eq, length-sets, length-take-le, take_at, drop_at}
use Rattle.calculus.specs.Term.{Term, app, castdown, size}
use Rattle.calculus.specs.Words.{longest}
use Rattle.calculus.proofs.Stores.{sets_append}
use Rattle.term.specs.Kept.{keep, kept, Lies}
use Rattle.term.proofs.Keeping.{keep_append, kept_length, lies_within}
use Rattle.term.proofs.Finding.{from_on}
use Rattle.reduction.specs.declared.stepping.Kind.{Kind}
use Rattle.reduction.specs.declared.stepping.Halt.{Halt}
use Rattle.reduction.specs.declared.stepping.Halt.TheVariants as halt
use Rattle.reduction.specs.declared.stepping.Stepped.{Stepped}
use Rattle.kept.specs.Writing.{Puts, Writes}
use Rattle.reduction.specs.Stepping.{Around, here, in_function, in_body, Arrives, moved, Movable}
use Rattle.kept.proofs.Composed.{put_place, put_length}
use Rattle.reduction.proofs.Moving.{moved_length}

-- The two words of each frame's node.
before : {t s x y : Term} {n : ℕ} → Around t n s x y → List ℕ
before here = []
before (in_function {f = f} {u = u} r) = 2 ∷ size (app f u) ∷ before r
before (in_body {e = e} r) = 1 ∷ size (castdown e) ∷ before r

-- What stands behind the part, before the words `k`.
behind : {t s x y : Term} {n : ℕ} → Around t n s x y → List ℕ → List ℕ
behind here k = k
behind (in_function {u = u} r) k = behind r (keep u k)
behind (in_body r) k = behind r k

before_length : {t s x y : Term} {n : ℕ} (r : Around t n s x y) → length (before r) ≡ 2 * n
unfolding before
before_length here = refl
before_length (in_function r) = omega (arith, before_length r)
before_length (in_body r) = omega (arith, before_length r)

pub same_difference : {t s x y : Term} {n : ℕ} → Around t n s x y → size y + size s ≡ size t + size x
unfolding size
same_difference (here {s = s} {x = x}) = omega arith
same_difference (in_function r) = omega (arith, same_difference r)
same_difference (in_body r) = omega (arith, same_difference r)

keep_old : {t s x y : Term} {n : ℕ} (r : Around t n s x y) (k : List ℕ) → keep t k ≡ before r ++ keep s (behind r k)
unfolding keep before behind
keep_old here k = refl
keep_old (in_function {f = f} {u = u} r) k = ap (λ ws. 2 ∷ size (app f u) ∷ ws) (keep_old r (keep u k))
keep_old (in_body {e = e} r) k = ap (λ ws. 1 ∷ size (castdown e) ∷ ws) (keep_old r k)

-- From what ends at `old` to what ends at `new`.
module _ {s x : Term} (old new : ℕ) (h : new + size s ≡ old + size x) where
  keep_new : {t y : Term} {n : ℕ} (r : Around t n s x y) (k : List ℕ) → keep y k ≡ moved old new (before r) ++ keep x (behind r k)
  unfolding keep moved before behind
  keep_new here k = refl
  keep_new (in_function {f = f} {u = u} {g = g} r) k =
      let length : size (app g u) ≡ size (app f u) + new - old = omega (arith, h, same_difference (in_function {u = u} r)) in
      ap₂ (λ l ws. 2 ∷ l ∷ ws) length (keep_new r (keep u k))
  keep_new (in_body {e = e} {g = g} r) k =
      let length : size (castdown g) ≡ size (castdown e) + new - old = omega (arith, h, same_difference (in_body r)) in
      ap₂ (λ l ws. 1 ∷ l ∷ ws) length (keep_new r k)

  before_movable : {t y : Term} {n : ℕ} (r : Around t n s x y) → size t ≤ longest → Movable old new (before r)
  unfolding before Movable size
  before_movable here l = tt
  before_movable (in_function {u = u} r) l =
      (l, omega (arith, h, same_difference (in_function {u = u} r)), before_movable r (omega arith))
  before_movable (in_body r) l = (l, omega (arith, h, same_difference (in_body r)), before_movable r (omega arith))

-- Stores from the start of a slice up to others behind them are one run with these.
sets_front : (l a b : List ℕ) (n : ℕ)
    → length a ≡ n
    → n + length b ≤ length l
    → sets (sets l n b) 0 a ≡ sets l 0 (a ++ b)
sets_front l a b n h room =
    ap (λ m. sets m 0 a) (sets-eq b l n room ∙ append_assoc (take n l) b (drop (n + length b) l))
    ∙ sets-eq a (take n l ++ rest) 0 (omega (arith, length-append (take n l) rest, passed))
    ∙ ap (λ m. a ++ m) (drop_at (take n l) rest (0 + length a) (omega (arith, passed)))
    ∙ sym (append_assoc a b (drop (n + length b) l))
    ∙ ap (λ k. (a ++ b) ++ drop k l) sum
    ∙ sym (sets-eq (a ++ b) l 0 (omega (arith, sum)))
  where
    rest : List ℕ
    rest = b ++ drop (n + length b) l

    passed : length (take n l) ≡ n
    passed = length-take-le n l (omega arith)

    sum : n + length b ≡ 0 + length (a ++ b)
    sum = omega (arith, length-append a b)

module _ {t s x y : Term} {n : ℕ} (r : Around t n s x y) {state : List ℕ} (coded : state ≡ kept t) where
  split : state ≡ before r ++ keep s (behind r [])
  unfolding kept
  split = coded ∙ keep_old r []

  front : take (2 * n) state ≡ before r
  front = ap (take (2 * n)) split ∙ take_at (before r) (keep s (behind r [])) (2 * n) (before_length r)

  rest : drop (2 * (n + size s)) state ≡ behind r []
  rest =
      ap (drop (2 * (n + size s))) (split ∙ ap (λ l. before r ++ l) (keep_append s (behind r [])) ∙ sym assoc)
      ∙ drop_at (before r ++ kept s) (behind r []) (2 * (n + size s))
      (omega (arith, length-append (before r) (kept s), before_length r, kept_length s))
    where
      assoc : (before r ++ kept s) ++ behind r [] ≡ before r ++ (kept s ++ behind r [])
      assoc = append_assoc (before r) (kept s) (behind r [])

  pub around_lies : Lies s state n
  around_lies =
      record {
        rest = behind r [];
        begins = ap (drop (2 * n)) split ∙ drop_at (before r) (keep s (behind r [])) (2 * n) (before_length r);
      }

  pub around_length : length state ≡ 2 * size t
  around_length = ap length coded ∙ kept_length t

  pub around_within : n + size s ≤ size t
  around_within = omega (arith, lies_within around_lies, around_length)

  -- What the moving of the lengths asks.
  pub around_movable : (old new : ℕ) → new + size s ≡ old + size x → size t ≤ longest → Movable old new (take (2 * n) state)
  around_movable old new h short = rw front (before_movable old new h r short)

  -- What takes more room than there is lacks it with all around it.
  pub lacks_room : {K : Kind} (out : List ℕ) → length out < 2 * (n + size x) → Arrives K y out (Err halt.Full) out
  lacks_room out lacks =
      record { fits = λ all. absurd (omega (arith, around_within, same_difference r)); full = λ _. (refl, refl) }

  -- The new part does not fit.
  pub part_lacks : {first out : List ℕ} {K : Kind} → Puts (kept x) first n None out → Arrives K y first (Err halt.Full) out
  part_lacks {first} {out} p =
      let never : 2 * n + length (kept x) ≤ length first → ⊥ = λ h. (let (end, is, place, stored) = p.fits h in cc is) in
      record {
        fits = λ all. absurd (never (omega (arith, all, around_within, same_difference r, kept_length x)));
        full = λ _. (refl, put_length p);
      }

  module _ {first out : List ℕ} {end : ℕ} (p : Puts (kept x) first n (Some end) out) {old : ℕ} (ends : old ≡ n + size s)
      {c : Option ℕ} {mid : List ℕ} (w : Writes (take (length state - 2 * old) (drop (2 * old) state)) out (2 * end) c mid) where
    difference : end + size s ≡ old + size x
    difference = omega (arith, (put_place p).0, kept_length x)

    whole : kept y ≡ moved old end (before r) ++ (kept x ++ behind r [])
    unfolding kept
    whole = keep_new old end difference r [] ∙ ap (λ l. moved old end (before r) ++ l) (keep_append x (behind r []))

    leading : length (moved old end (before r)) ≡ 2 * n
    leading = moved_length old end (before r) ∙ before_length r

    count : 2 * end + length (behind r []) ≡ 2 * size y
    count =
        omega (
          arith,
          kept_length y,
          ap length whole,
          length-append (moved old end (before r)) (kept x ++ behind r []),
          length-append (kept x) (behind r []),
          leading,
          (put_place p).0,
        )

    wrote : Writes (behind r []) out (2 * end) c mid
    wrote =
        let place : 2 * old ≡ 2 * (n + size s) = ap (λ k. 2 * k) ends in
        subst (λ e. Writes e out (2 * end) c mid) (from_on state (2 * old) ∙ ap (λ k. drop k state) place ∙ rest) w

    -- What stands behind does not fit.
    pub rest_lacks : {K : Kind} → c ≡ None → Arrives K y first (Err halt.Full) mid
    rest_lacks none =
        let never : 2 * end + length (behind r []) ≤ length out → ⊥ = λ h. cc (none, (wrote.fits h).0) in
        let lacks : length out < 2 * end + length (behind r []) = omega arith in
        let same = put_length p in
        record {
          fits = λ all. absurd (omega (arith, count, same, lacks));
          full = λ _. (refl, ap length (wrote.full lacks).1 ∙ same);
        }

    -- All of it fits.
    module _ {last : ℕ} (to : c ≡ Some last) where
      fitted : 2 * end + length (behind r []) ≤ length out
      fitted =
          let never : length out < 2 * end + length (behind r []) → ⊥ = λ h. cc (to, (wrote.full h).0) in
          omega arith

      stored : mid ≡ sets first (2 * n) (kept x ++ behind r [])
      stored =
          (wrote.fits fitted).1
          ∙ ap₂ (λ l k. sets l k (behind r [])) (put_place p).1 (put_place p).0
          ∙ sym (sets_append first (2 * n) (kept x) (behind r []))

      pub rest_length : length mid ≡ length first
      rest_length = ap length stored ∙ length-sets first (2 * n) (kept x ++ behind r [])

      pub whole_arrives : {K : Kind} {after : List ℕ}
          → after ≡ sets mid 0 (moved old end (take (2 * n) state))
          → Arrives K y first (Ok (record { kind = K; length = last / 2 })) after
      whole_arrives {K} {after} led =
          let place : last ≡ 2 * end + length (behind r []) = cc (to, (wrote.fits fitted).0) in
          let half : last / 2 ≡ size y = omega (arith, place, count) in
          record {
            fits = λ _. (ap (λ n. Ok (record { kind = K; length = n })) half, led ∙ all);
            full = λ h. absurd (omega (arith, fitted, count, put_length p));
          }
        where
          all : sets mid 0 (moved old end (take (2 * n) state)) ≡ sets first 0 (kept y)
          all =
              ap₂ (λ l e. sets l 0 (moved old end e)) stored front
              ∙ sets_front first (moved old end (before r)) (kept x ++ behind r []) (2 * n) leading
              (omega (arith, fitted, (put_place p).0, put_length p, length-append (kept x) (behind r [])))
              ∙ ap (sets first 0) (sym whole)

-- At the exit of a `?` on what answers a place, where it answers none.
pub at_exit : {A : Type 0} (o : Option A) (r : Result Stepped Halt) {e : Halt}
    → Err e ≡ ok_or o halt.Full
    → IsErrAnd r (λ h. h ≡ e)
    → (o ≡ None) × (r ≡ Err halt.Full)
at_exit None r h told = let (y, is, same) = err_from_is_err_and r told in (refl, cc (h, is, same))
at_exit (Some a) r h told = absurd (cc h)
