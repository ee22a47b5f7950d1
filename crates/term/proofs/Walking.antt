-- The walk over subterms. Over the words of a term it goes as far as the term is long, whatever follows: each word asks for just
-- the parts that stand behind it. The words of j + k subterms are those of j, and behind them those of k. What reading accepts is
-- such words, so the walk finds its way in every accepted list.
use Prim.Native.Nat.{ℕ, zero, suc, ◌+◌, ◌-◌, ◌≤◌, ◌<◌}
use mathlib.Core.Bool.{true≢false}
use mathlib.Core.List.{List, [], ◌∷◌}
use mathlib.Core.Path.{◌≡◌, refl, ap, ◌∙◌}
use native.Mathlib.Nat.{zero-add, suc-add, add_assoc}
use native.Mathlib.Numerals.{one-add, add-one}
use native.Mathlib.Omega.{arith}
use lib.ListN.{length, get_or, drop}
use lib.Seq.{drop-cons}
use Rattle.calculus.specs.Term.{Term, var, star, app, lam, pi, castup, castdown, mu, name, size}
use Rattle.calculus.specs.Words.{emit, words, Readable}
use Rattle.calculus.specs.Answer.{Answer, Reason, ok, refused}
use Rattle.calculus.specs.Meaning.{meaning, binds}
use Rattle.calculus.specs.Scan.{read}
use Rattle.calculus.proofs.ReadBack.{read_sound}
use Rattle.term.specs.Word.{arity}
use Rattle.term.specs.Walk.{span}
use Rattle.term.specs.Subterms.{outcome}
use Rattle.term.proofs.Words.{no_parts}

pub span_le : (ws : List ℕ) (k : ℕ) → span ws k ≤ length ws
unfolding span
span_le [] k = omega arith
span_le (w ∷ ws) zero = omega arith
span_le (w ∷ ws) (suc k) = omega (arith, span_le ws (arity w + k))

pub span_none : (ws : List ℕ) → span ws 0 ≡ 0
unfolding span
span_none [] = refl
span_none (w ∷ ws) = refl

-- One word further: where there is one, it adds its parts to the subterms left.
pub span_step : (ws : List ℕ) (p k : ℕ)
    → p < length ws
    → 0 < k
    → span (drop p ws) k ≡ 1 + span (drop (p + 1) ws) (k + arity (get_or ws p 0) - 1)
unfolding span
span_step ws p zero inside some = absurd (omega arith)
span_step ws p (suc k) inside some =
    let left : suc k + arity (get_or ws p 0) - 1 ≡ arity (get_or ws p 0) + k = omega arith in
    rw (drop-cons ws p 0 inside, add-one p, left) (omega arith)

pub span_add : (ws : List ℕ) (j k : ℕ) → span ws (j + k) ≡ span ws j + span (drop (span ws j) ws) k
unfolding span
span_add [] j k = refl
span_add (w ∷ ws) zero k = rw (zero-add k, zero-add (span (w ∷ ws) k)) refl
span_add (w ∷ ws) (suc j) k =
    rw
    (suc-add j k, suc-add (span ws (arity w + j)) (span (drop (span ws (arity w + j)) ws) k), ← add_assoc (arity w) j k)
    (ap suc (span_add ws (arity w + j) k))

-- The walk over a term and on to `n` more.
abbrev Passed : Term → Type 0
Passed t = (k : List ℕ) (n : ℕ) → span (emit t k) (suc n) ≡ size t + span k n

-- A word before the words of its parts, of which there are none, one or two.
no_part : (w : ℕ) → arity w ≡ 0 → (k : List ℕ) (n : ℕ) → span (w ∷ k) (suc n) ≡ 1 + span k n
unfolding span
no_part w none k n = rw (none, zero-add n) (omega arith)

one_part : (w : ℕ) (e : Term)
    → arity w ≡ 1
    → Passed e
    → (k : List ℕ) (n : ℕ)
    → span (w ∷ emit e k) (suc n) ≡ suc (size e) + span k n
unfolding span
one_part w e one he k n = rw (one, one-add n) (omega (arith, he k n))

two_parts : (w : ℕ) (a e : Term)
    → arity w ≡ 2
    → Passed a
    → Passed e
    → (k : List ℕ) (n : ℕ)
    → span (w ∷ emit a (emit e k)) (suc n) ≡ suc (size a + size e) + span k n
unfolding span
two_parts w a e two ha he k n =
    let more : 2 + n ≡ suc (suc n) = omega arith in
    rw (two, more) (omega (arith, ha (emit e k) (suc n), he k n))

passed : (t : Term) → Passed t
unfolding emit size arity meaning binds
passed (var i) = no_part (16 + i) (no_parts (16 + i) (omega arith))
passed star = no_part 0 refl
passed (castdown e) = one_part 1 e refl (passed e)
passed (app f u) = two_parts 2 f u refl (passed f) (passed u)
passed (castup a e) = two_parts 3 a e refl (passed a) (passed e)
passed (lam a e) = two_parts 4 a e refl (passed a) (passed e)
passed (pi a b) = two_parts 5 a b refl (passed a) (passed b)
passed (mu a e) = two_parts 6 a e refl (passed a) (passed e)
passed (name i) = no_part (2048 + i) (no_parts (2048 + i) (omega arith))

pub span_emit : (t : Term) (k : List ℕ) → span (emit t k) 1 ≡ size t
span_emit t k = passed t k 0 ∙ omega (arith, span_none k)

-- A list that is not refused is read as a term, and is the words of that term.
pub read_term : (ws : List ℕ) → outcome (read ws) ≡ ok tt → (t : Term) × (read ws ≡ ok t)
read_term ws = on (read ws)
  where
    on : (x : Answer Term) → outcome x ≡ ok tt → (t : Term) × (x ≡ ok t)
    on (ok t) h = (t, refl)
    on (refused r p) h = absurd (true≢false cc)

pub reads_term : (ws : List ℕ) → outcome (read ws) ≡ ok tt → (t : Term) × (ws ≡ words t) × Readable 0 t
reads_term ws h =
    let (t, e) = read_term ws h in
    let (coded, readable) = read_sound ws t e in
    (t, coded, readable)

-- One that is refused is refused as the calculus reads it.
pub reads_refusal : (ws : List ℕ) {r : Reason} {p : ℕ} → outcome (read ws) ≡ refused r p → read ws ≡ refused r p
reads_refusal ws {r} {p} h = on (read ws) h
  where
    on : (x : Answer Term) → outcome x ≡ refused r p → x ≡ refused r p
    on (ok t) h = absurd (true≢false cc)
    on (refused s q) h = cc
