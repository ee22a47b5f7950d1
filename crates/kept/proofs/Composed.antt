-- What is put by two calls, one behind the other, is the words of both; where the first or the second does not fit, neither do
-- both. So the words of a node, put with a length that is not known yet, those of its parts, and then the length, are the kept
-- words of the term.
use Prim.Native.Nat.{ℕ, suc, ◌+◌, ◌*◌, ◌-◌, ◌≤◌}
use mathlib.Core.List.{List, [], ◌∷◌, ◌++◌, append_assoc}
use mathlib.Core.Path.{◌≡◌, refl, sym, ap, ap₂, subst, ◌∙◌}
use native.Mathlib.Decide.{dec_le}
use native.Mathlib.Numerals.{add-one}
use native.Mathlib.Omega.{arith}
use borrow.Rule.Slice.PartMut.{put_mid}
use Rattle.std.specs.Prelude.{Option, None, Some}
use lib.ListN.{length, take, drop, set, length-append, length-set}
use lib.Seq.{sets, length-sets, sets-eq, set-set, length-take-le, take_at, drop_at}
use Rattle.calculus.specs.Term.{Term, castdown, size}
use Rattle.calculus.proofs.Stores.{sets_append}
use Rattle.term.specs.Kept.{keep, kept}
use Rattle.term.proofs.Nodes.{Two, keep_two}
use Rattle.term.proofs.Keeping.{keep_append, kept_length}
use Rattle.kept.specs.Writing.{Puts}
use Rattle.kept.proofs.Stores.{set_sets}

module _ {e out : List ℕ} {at : ℕ} {r : Option ℕ} {after : List ℕ} (p : Puts e out at r after) where
  pub put_length : length after ≡ length out
  put_length = on (dec_le (2 * at + length e) (length out))
    where
      on : Dec (2 * at + length e ≤ length out) → length after ≡ length out
      on (yes h) = let (end, is, place, stored) = p.fits h in ap length stored ∙ length-sets out (2 * at) e
      on (no h) = (p.full (omega arith)).1

  pub puts_as : {e₂ : List ℕ} → e ≡ e₂ → Puts e₂ out at r after
  puts_as same = subst (λ l. Puts l out at r after) same p

-- Where they do not fit, nothing longer does.
pub puts_short : {e e₂ out : List ℕ} {at : ℕ} {r : Option ℕ} {after : List ℕ}
    → r ≡ None
    → Puts e out at None after
    → length e ≤ length e₂
    → Puts e₂ out at r after
puts_short {e} {e₂} {out} {at} none p long =
    let never : 2 * at + length e ≤ length out → ⊥ = λ h. (let (end, is, place, stored) = p.fits h in cc is) in
    record { fits = λ l. absurd (never (omega arith)); full = λ l. (none, put_length p) }

-- A place that is answered tells that the words fit, and so what was written.
module _ {e out : List ℕ} {at end : ℕ} {after : List ℕ} (p : Puts e out at (Some end) after) where
  put_fits : 2 * at + length e ≤ length out
  put_fits = on (dec_le (2 * at + length e) (length out))
    where
      on : Dec (2 * at + length e ≤ length out) → 2 * at + length e ≤ length out
      on (yes h) = h
      on (no h) = absurd (cc ((p.full (omega arith)).0))

  pub put_place : (2 * end ≡ 2 * at + length e) × (after ≡ sets out (2 * at) e)
  put_place =
      let (there, is, place, stored) = p.fits put_fits in
      let same : end ≡ there = cc is in
      (omega (arith, same, place), stored)

  pub put_room : 2 * end ≤ length after
  put_room = omega (arith, put_fits, put_length p, put_place.0)

  pub puts_then : {e₂ : List ℕ} {s : Option ℕ} {last : List ℕ} → Puts e₂ after end s last → Puts (e ++ e₂) out at s last
  puts_then {e₂} {s} {last} q =
      let sum = length-append e e₂ in
      let same = put_length p in
      let (place, stored) = put_place in
      record {
        fits = λ l.
            let (to, is, far, written) = q.fits (omega (arith, l, sum, same, place)) in (
              to,
              is,
              omega (arith, far, place, sum),
              written ∙ rw (place, stored, sets_append out (2 * at) e e₂) refl,
            );
        full = λ l.
            let (none, kept) = q.full (omega (arith, l, sum, same, place)) in
            (none, kept ∙ same);
      }

  -- What was written stands between what was before and behind it. So it can be replaced in place, by as many words.
  around : after ≡ take (2 * at) out ++ (e ++ drop (2 * at + length e) out)
  around =
      put_place.1
      ∙ sets-eq e out (2 * at) put_fits
      ∙ append_assoc (take (2 * at) out) e (drop (2 * at + length e) out)

  front : length (take (2 * at) out) ≡ 2 * at
  front = length-take-le (2 * at) out (omega (arith, put_fits))

  behind : drop (2 * at) after ≡ e ++ drop (2 * at + length e) out
  behind = ap (drop (2 * at)) around ∙ drop_at (take (2 * at) out) (e ++ drop (2 * at + length e) out) (2 * at) front

  count : length e ≡ 2 * end - 2 * at
  count = omega (arith, put_place.0)

  pub put_taken : take (2 * end - 2 * at) (drop (2 * at) after) ≡ e
  put_taken =
      ap (take (2 * end - 2 * at)) behind ∙ take_at e (drop (2 * at + length e) out) (2 * end - 2 * at) count

  pub puts_replaced : {e₂ : List ℕ}
      → length e₂ ≡ length e
      → Puts e₂ out at (Some end) (put_mid (2 * at) (2 * end - 2 * at) after e₂)
  puts_replaced {e₂} same =
      let place = put_place.0 in
      let first : take (2 * at) after ≡ take (2 * at) out =
      ap (take (2 * at)) around ∙ take_at (take (2 * at) out) (e ++ drop (2 * at + length e) out) (2 * at) front
      in
      let last : drop (2 * end - 2 * at) (drop (2 * at) after) ≡ drop (2 * at + length e₂) out =
      ap (drop (2 * end - 2 * at)) behind
      ∙ drop_at e (drop (2 * at + length e) out) (2 * end - 2 * at) count
      ∙ ap (λ n. drop (2 * at + n) out) (sym same)
      in
      record {
        fits = λ l. (
          end,
          refl,
          omega (arith, place, same),
          ap₂ (λ x y. x ++ (e₂ ++ y)) first last
              ∙ sym (append_assoc (take (2 * at) out) e₂ (drop (2 * at + length e₂) out))
              ∙ sym (sets-eq e₂ out (2 * at) l),
        );
        full = λ l. absurd (omega (arith, same, put_fits));
      }

-- The second word of a run of stores may be stored last.
sets_second : (l : List ℕ) (at w v n : ℕ) (e : List ℕ) → set (sets l at (w ∷ v ∷ e)) (at + 1) n ≡ sets l at (w ∷ n ∷ e)
sets_second l at w v n e =
    ap (λ i. set (sets l at (w ∷ v ∷ e)) i n) (add-one at)
    ∙ set_sets (set (set l at w) (suc at) v) (suc at) n (suc (suc at)) e (omega arith)
    ∙ ap (λ k. sets k (suc (suc at)) e) (set-set (set l at w) (suc at) v n)

puts_second : {w v : ℕ} {e out : List ℕ} {at : ℕ} {r : Option ℕ} {after : List ℕ} (n : ℕ)
    → Puts (w ∷ v ∷ e) out at r after
    → Puts (w ∷ n ∷ e) out at r (set after (2 * at + 1) n)
puts_second {w} {v} {e} {out} {at} {r} {after} n p =
    record {
      fits = λ h.
          let (end, is, place, stored) = p.fits h in
          (end, is, place, ap (λ l. set l (2 * at + 1) n) stored ∙ sets_second out (2 * at) w v n e);
      full = λ h. ((p.full h).0, length-set after (2 * at + 1) n ∙ (p.full h).1);
    }

-- The kept words of a term are those of its node, and then `e`, which are those of its parts.
pub record Spelled (t : Term) (w : ℕ) (e : List ℕ) : Type 0 where
  pub spells : kept t ≡ w ∷ size t ∷ e

pub spelled_length : {t : Term} {w : ℕ} {e : List ℕ} → Spelled t w e → length (kept t) ≡ 2 + length e
spelled_length s = ap length s.spells ∙ omega arith

-- All the words of a term are put but for the length of its node. It is whole when that is set to the number of nodes put.
pub record Composes (t : Term) (w : ℕ) (out : List ℕ) (at end : ℕ) (after : List ℕ) : Type 0 where
  pub parts : List ℕ
  pub spelled : Spelled t w parts
  pub puts : Puts (w ∷ 1 ∷ parts) out at (Some end) after

pub puts_node : {t : Term} {w : ℕ} {out : List ℕ} {at end : ℕ} {after : List ℕ}
    → Composes t w out at end after
    → Puts (kept t) out at (Some end) (set after (2 * at + 1) (end - at))
puts_node {t} {at = at} {end = end} c =
    let count : end - at ≡ size t = omega (arith, (put_place c.puts).0, spelled_length c.spelled, kept_length t) in
    rw (c.spelled.spells, count) (puts_second (size t) c.puts)

pub spelled_one : (e : Term) → Spelled (castdown e) 1 (kept e)
unfolding kept keep
spelled_one e = record { spells = refl }

pub spelled_two : {c : Term → Term → Term} {w k : ℕ} → Two c w k → (a b : Term) → Spelled (c a b) w (kept a ++ kept b)
unfolding kept
spelled_two {c} {w} two a b =
    record { spells = keep_two two a b [] ∙ ap (λ ws. w ∷ size (c a b) ∷ ws) (keep_append a (kept b)) }
