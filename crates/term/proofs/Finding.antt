-- Where the parts of a term stand in its words. Behind a node's own word stand the words of its parts, one after another, as many
-- as the word says, so that the walk over the first finds the second. That the words found there are the part's is `PartWords`
-- of the calculus.
use Prim.Native.Nat.{ℕ, zero, suc, ◌+◌, ◌-◌, ◌≤◌, ◌<◌}
use mathlib.Core.Bool.{true, false, true≢false}
use mathlib.Core.List.{List, [], ◌∷◌}
use mathlib.Core.Path.{◌≡◌, refl, sym, ◌∙◌}
use native.Mathlib.Omega.{arith}
use lib.ListN.{length, get_or, take, drop, length-drop}
use lib.Seq.{take_all, drop_at, drop-drop}
use Rattle.std.specs.Prelude.{Result, Ok, Err}
use Rattle.std.specs.Result.{is_err}
use Rattle.calculus.specs.Term.{Term, var, star, app, lam, pi, castup, castdown, mu, name, size}
use Rattle.calculus.specs.Words.{emit, words}
use Rattle.calculus.specs.Answer.{ok}
use Rattle.calculus.specs.Meaning.{meaning, binds}
use Rattle.calculus.specs.Scan.{read}
use Rattle.calculus.specs.Outcomes.{absent, parts, nth_part, found_in, found}
use Rattle.calculus.proofs.Coding.{emit_append, words_length}
use Rattle.calculus.proofs.ReadBack.{read_sound}
use Rattle.term.specs.declared.refusal.Refusal.{Refusal}
use Rattle.term.specs.Reasons.{answer_of}
use Rattle.term.specs.Word.{arity}
use Rattle.term.specs.Walk.{span}
use Rattle.term.specs.Subterms.{outcome}
use Rattle.term.proofs.Walking.{span_emit, read_term, reads_refusal}
use Rattle.term.proofs.Words.{no_parts}

-- The words of terms, one after another.
emits : List Term → List ℕ
emits [] = []
emits (t ∷ ts) = emit t (emits ts)

-- The first of some terms in their words, the second, and a number for which there is none.
nth_first : (es : List Term) (place : ℕ)
    → 1 ≤ length es
    → nth_part es 1 place ≡ record { start = place; extent = span (emits es) 1 }
unfolding nth_part emits
nth_first [] place h = absurd (omega arith)
nth_first (e ∷ es) place h = rw (span_emit e (emits es)) refl

nth_second : (es : List Term) (place : ℕ)
    → 2 ≤ length es
    → nth_part es 2 place ≡ record { start = place + span (emits es) 1; extent = span (drop (span (emits es) 1) (emits es)) 1 }
unfolding nth_part emits
nth_second [] place h = absurd (omega arith)
nth_second (a ∷ []) place h = absurd (omega arith)
nth_second (a ∷ e ∷ es) place h =
    rw (span_emit a (emits (e ∷ es)), behind, span_emit e (emits es)) refl
  where
    behind : drop (size a) (emit a (emits (e ∷ es))) ≡ emits (e ∷ es)
    behind = rw (emit_append a (emits (e ∷ es))) (drop_at (words a) (emits (e ∷ es)) (size a) (words_length a))

nth_none : (es : List Term) (k place : ℕ) → (1 ≤ k → length es < k) → nth_part es k place ≡ absent
unfolding nth_part
nth_none [] k place h = refl
nth_none (e ∷ es) zero place h = refl
nth_none (e ∷ es) (suc zero) place h = absurd (omega (arith, h (omega arith)))
nth_none (e ∷ es) (suc (suc k)) place h = nth_none es (suc k) (place + size e) λ _. omega (arith, h (omega arith))

-- A list that is read: its own word, and behind it the words of the term's parts.
record Node (ws : List ℕ) : Type 0 where
  below : List Term
  some : 1 ≤ length ws
  many : arity (get_or ws 0 0) ≡ length below
  behind : drop 1 ws ≡ emits below
  placed : (k : ℕ) → found ws k ≡ nth_part below k 1

node : (t : Term) → (w : ℕ) × (words t ≡ w ∷ emits (parts t)) × (arity w ≡ length (parts t))
unfolding words emit emits parts arity meaning binds
node (var i) = (_, refl, no_parts (16 + i) (omega arith))
node star = (_, refl, refl)
node (app f u) = (_, refl, refl)
node (lam a e) = (_, refl, refl)
node (pi a b) = (_, refl, refl)
node (castup a e) = (_, refl, refl)
node (castdown e) = (_, refl, refl)
node (mu a e) = (_, refl, refl)
node (name i) = (_, refl, no_parts (2048 + i) (omega arith))

read_node : (ws : List ℕ) (t : Term) → read ws ≡ ok t → Node ws
unfolding found found_in
read_node ws t e =
    let (w, begins, many) = node t in
    let same : ws ≡ w ∷ emits (parts t) = (read_sound ws t e).0 ∙ begins in
    record {
      below = parts t;
      some = rw same (omega arith);
      many = rw same many;
      behind = rw same refl;
      placed = λ k. rw e refl;
    }

accepted : (ws : List ℕ) → ok tt ≡ outcome (read ws) → Node ws
accepted ws h = let (t, e) = read_term ws (sym h) in read_node ws t e

-- In a list that is refused nothing is found.
pub found_refused : (ws : List ℕ) (k : ℕ) (r : Result (Unit {0}) Refusal)
    → true ≡ is_err r
    → answer_of r ≡ outcome (read ws)
    → absent ≡ found ws k
unfolding found found_in
found_refused ws k (Ok u) e h = absurd (true≢false e)
found_refused ws k (Err r) e h = rw (reads_refusal ws (sym h)) refl

pub not_refused : (r : Result (Unit {0}) Refusal) → false ≡ is_err r → ok tt ≡ answer_of r
not_refused (Ok u) e = refl
not_refused (Err r) e = absurd (true≢false (sym e))

module _ (ws : List ℕ) (e : ok tt ≡ outcome (read ws)) where
  pub inhabited : 1 ≤ length ws
  inhabited = (accepted ws e).some

  pub found_first : 1 ≤ arity (get_or ws 0 0) → record { start = 1; extent = span (drop 1 ws) 1 } ≡ found ws 1
  found_first h =
      let n = accepted ws e in
      rw (n.behind, n.placed 1) (sym (nth_first n.below 1 (omega (arith, n.many))))

  pub found_second : 2 ≤ arity (get_or ws 0 0)
      → record { start = 1 + span (drop 1 ws) 1; extent = span (drop (1 + span (drop 1 ws) 1) ws) 1 } ≡ found ws 2
  found_second h =
      let n = accepted ws e in
      rw
      (← drop-drop (span (drop 1 ws) 1) 1 ws, n.behind, n.placed 2)
      (sym (nth_second n.below 1 (omega (arith, n.many))))

  pub found_none : (k : ℕ) → (1 ≤ k → arity (get_or ws 0 0) < k) → absent ≡ found ws k
  found_none k h =
      let n = accepted ws e in
      rw (n.placed k) (sym (nth_none n.below k 1 λ some. omega (arith, h some, n.many)))

-- The part of a slice from a place on.
pub from_on : (ws : List ℕ) (p : ℕ) → take (length ws - p) (drop p ws) ≡ drop p ws
from_on ws p = take_all (length ws - p) (drop p ws) (omega (arith, length-drop p ws))

pub in_tail : (ws : List ℕ) (p n : ℕ) → p ≤ length ws → n ≤ length (take (length ws - p) (drop p ws)) → p + n ≤ length ws
in_tail ws p n low h = omega (arith, rw (from_on ws p) at h, length-drop p ws)
