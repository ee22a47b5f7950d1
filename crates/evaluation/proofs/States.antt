-- A state at the front of one of two buffers, through one step over a book. Storing a closed term's kept words from the start of a
-- slice puts it there, and leaves what lies behind the room for a state. A step does so with the next state, in the buffer that the
-- state is not in; what the book shows is closed and names what is in the book, so the next state does too.
use Prim.Native.Nat.{ℕ, ◌*◌, ◌≤◌}
use mathlib.Core.Bool.{Bool, true, false, not}
use mathlib.Core.List.{List, ◌++◌}
use Rattle.std.specs.Prelude.{Result}
use mathlib.Core.Path.{◌≡◌, refl, sym, ◌∙◌, ap, subst}
use native.Mathlib.Omega.{arith}
use lib.Dec.{lit≤}
use lib.ListN.{length, take, drop}
use lib.Seq.{sets, drop_at, length-take-le, take-append-le}
use Rattle.calculus.specs.Term.{Term, size}
use Rattle.calculus.specs.Words.{words, Readable, longest, deepest}
use Rattle.calculus.specs.Book.{Book, bodies}
use Rattle.calculus.specs.Step as calculus
use Rattle.calculus.specs.Outcomes.{begun}
use Rattle.calculus.proofs.Coding.{words_length, worded}
use Rattle.calculus.proofs.Stepping.{next_step}
use Rattle.calculus.proofs.Scoping.{scoped_more}
use Rattle.calculus.specs.Infer.{Fitted}
use Rattle.calculus.proofs.Found.{step_fitted}
use Rattle.term.specs.Kept.{kept}
use Rattle.term.proofs.Keeping.{kept_length}
use Rattle.book.specs.Layout as layout
use Rattle.book.specs.declared.Reader.TheVariants as reader
use Rattle.book.proofs.Entries.{bodies_fitted}
use Rattle.reduction.specs.Stepping.{Keeps, HeldWithin, Steps, TellsOver}
use Rattle.reduction.specs.declared.stepping.Stepped.{Stepped}
use Rattle.reduction.specs.declared.stepping.Halt.{Halt}
use Rattle.kept.proofs.Begun.{sets_begun, take_begun, drop_begun}
use Rattle.evaluation.specs.Courses.{buffer, Holds, Advances}

-- What finding the redex asks of the state; its indices are few, so they have words.
pub keeps : (B : Book) {slice : List ℕ} {count : ℕ} {x : Term} → Holds (length B) slice count x → Keeps B x (take (2 * count) slice)
keeps B {x} h = record { coded = h.front; has_words = worded 0 x h.closed (omega (arith, h.short)); named = h.named }

-- What a step asks.
abbrev pub held_within : (B : Book) {book slice : List ℕ} {count : ℕ} {x : Term}
    → layout.Holds B book
    → Holds (length B) slice count x
    → HeldWithin book (take (2 * count) slice) true
held_within B {x} held h =
    record {
      lent = B;
      holds = held;
      term = x;
      keeps = keeps B h;
      short = h.short;
      scoped = scoped_more {m = 0} {n = deepest} x (lit≤ tt) h.closed;
      shut = λ _. h.closed;
    }

pub held_length : {N : ℕ} {slice : List ℕ} {count : ℕ} {x : Term} → Holds N slice count x → 2 * count ≡ length (take (2 * count) slice)
held_length {x} h = omega (arith, ap length h.front, kept_length x, h.extent)

-- Either of the two buffers has room for a state.
pub buffer_room : (lent : Bool) (work other : List ℕ)
    → 2 * longest ≤ length work
    → length other ≡ 2 * longest
    → 2 * longest ≤ length (buffer lent work other)
unfolding buffer
buffer_room true work other l e = l
buffer_room false work other l e = omega arith

-- Which of the buffers it is.
pub in_lent : {N : ℕ} {lent : Bool} (work other : List ℕ) {count : ℕ} {x : Term}
    → lent ≡ true
    → Holds N (buffer lent work other) count x
    → Holds N work count x
unfolding buffer
in_lent {N} work other {count} {x} e h = subst (λ b. Holds N (buffer b work other) count x) e h

pub in_other : {N : ℕ} {lent : Bool} (work other : List ℕ) {count : ℕ} {x : Term}
    → lent ≡ false
    → Holds N (buffer lent work other) count x
    → Holds N other count x
unfolding buffer
in_other {N} work other {count} {x} e h = subst (λ b. Holds N (buffer b work other) count x) e h

-- A closed term's kept words are stored from the start of a slice.
module _ (slice : List ℕ) {after : List ℕ} (x : Term) (short : size x ≤ longest) (room : 2 * longest ≤ length slice)
    (e : after ≡ sets slice 0 (kept x)) where
  begins : after ≡ begun (kept x) slice
  begins = e ∙ sets_begun slice (kept x) (omega (arith, kept_length x))

  pub stored_held : {N : ℕ} → Fitted N 0 x → Holds N after (size x) x
  stored_held (closed, named) =
      record {
        front = ap (take (2 * size x)) begins ∙ rw (← kept_length x) (take_begun slice (kept x));
        extent = refl;
        short = short;
        closed = closed;
        named = named;
      }

  pub stored_behind : drop (2 * longest) after ≡ drop (2 * longest) slice
  stored_behind = ap (drop (2 * longest)) begins ∙ drop_begun (2 * longest) slice (kept x) (omega (arith, kept_length x))

-- A term that was read is noted.
pub noted_held : {N : ℕ} (ws : List ℕ) {t : Term} (slice : List ℕ) {after : List ℕ}
    → ws ≡ words t
    → Readable N t
    → 2 * longest ≤ length slice
    → after ≡ sets slice 0 (kept t)
    → Holds N after (length ws) t
noted_held ws {t} slice h r l e = rw (h, words_length t) (stored_held slice t r.short l e (r.closed, r.named))

-- A step of the state `x`, written into a slice `out` as long as the room for a state, which it leaves as `after`. The buffer
-- `next` begins with that.
advanced : (B : Book) {book slice : List ℕ} {count : ℕ} {x : Term} (out after next : List ℕ) (r : Result Stepped Halt)
    → length out ≡ 2 * longest
    → ((n : ℕ) → n ≤ longest → take (2 * n) next ≡ take (2 * n) after)
    → layout.Holds B book
    → Holds (length B) slice count x
    → Steps (calculus.step (bodies B) x) out r after
    → Advances (length B) (calculus.step (bodies B) x) r next
unfolding Steps Advances
advanced B {x} out after next r room begins held h = on (calculus.step (bodies B) x) refl
  where
    on : (n : calculus.Next) → calculus.step (bodies B) x ≡ n → Steps n out r after → Advances (length B) n r next
    on calculus.value e s = s.0
    on calculus.stuck e s = s.0
    on (calculus.next k y) e (K, kind, a) = (
      K,
      kind,
      λ l.
          let (told, written) = a.fits (omega arith) in
          let fits = step_fitted (length B) 0 (bodies_fitted B held) (next_step (bodies B) x e).0 (h.closed, h.named) in
          let there = stored_held out y l (omega arith) written fits in
          (told, record { front = begins (size y) l ∙ there.front; extent = refl; short = l; closed = fits.0; named = fits.1 }),
      λ l. (a.full (omega arith)).0,
    )

-- What a step of the state in the one buffer leaves in both.
abbrev pub Moves : List ℕ → Bool → List ℕ → List ℕ → ℕ → Result Stepped Halt → List ℕ → List ℕ → Type 0
Moves book lent work other count r work' other' =
    ((B : Book) (x : Term)
    → layout.Holds B book
    → Holds (length B) (buffer lent work other) count x
    → Advances (length B) (calculus.step (bodies B) x) r (buffer (not lent) work' other'))
    × ((buffer lent work' other' ≡ buffer lent work other) × (drop (2 * longest) work' ≡ drop (2 * longest) work))

pub from_lent : {lent : Bool} (book work other : List ℕ) (count : ℕ) (r : Result Stepped Halt) (after : List ℕ)
    → lent ≡ true
    → length other ≡ 2 * longest
    → TellsOver reader.Everybody book (take (2 * count) work) other r after
    → Moves book lent work other count r work after
unfolding buffer
from_lent book work other count r after e room s =
    subst (λ b. Moves book b work other count r work after) (sym e)
    (λ B x held h. advanced B other after after r room (λ n l. refl) held h (s B x held (keeps B h)), (refl, refl))

pub from_other : {lent : Bool} (book work other : List ℕ) (count : ℕ) (r : Result Stepped Halt) (after : List ℕ)
    → lent ≡ false
    → 2 * longest ≤ length work
    → length after ≡ length (take (2 * longest) work)
    → TellsOver reader.Everybody book (take (2 * count) other) (take (2 * longest) work) r after
    → Moves book lent work other count r (after ++ drop (2 * longest) work) other
unfolding buffer
from_other book work other count r after e room same s =
    let n : length (take (2 * longest) work) ≡ 2 * longest = length-take-le (2 * longest) work room in
    let rest = drop (2 * longest) work in
    subst (λ b. Moves book b work other count r (after ++ rest) other) (sym e) (
      λ B x held h.
          advanced B (take (2 * longest) work) after (after ++ rest) r n (λ k l. take-append-le (2 * k) after rest (omega arith)) held h
          (s B x held (keeps B h)),
      (refl, drop_at after rest (2 * longest) (same ∙ n)),
    )
