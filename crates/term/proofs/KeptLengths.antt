-- What the kept words of a term say at each of its nodes. A subterm lies in the kept words at the place where it stands in the
-- plain ones, since each part does; so the length there is its size. The plain words are the first of each two that are kept:
-- behind the same number of nodes they begin with the words of the same subterm, and the walk finds its size too.
use Prim.Native.Nat.{ℕ, zero, suc, ◌+◌, ◌*◌, ◌<◌}
use mathlib.Core.List.{List, [], ◌∷◌}
use mathlib.Core.Path.{◌≡◌, refl, sym, ap, ◌∙◌, subst}
use native.Mathlib.Nat.{zero-add, add-zero, add_assoc}
use native.Mathlib.Numerals.{add-one}
use native.Mathlib.Omega.{arith}
use lib.ListN.{length, drop, get_or}
use Rattle.calculus.specs.Term.{Term, castdown, size}
use Rattle.calculus.specs.Words.{emit, words}
use Rattle.calculus.specs.Parts.{PartAt, castdown_1, app_1, app_2, castup_1, castup_2, lam_1, lam_2, pi_1, pi_2, mu_1, mu_2}
use Rattle.calculus.proofs.Coding.{words_length, size_positive}
use Rattle.term.specs.Kept.{kept, Lies, word_at, length_at, Stands, itself, in_part, second_node, walked_second, KeptLengths}
use Rattle.term.specs.Walk.{span}
use Rattle.term.proofs.Walking.{span_emit}
use Rattle.term.proofs.Nodes.{Two, two_app, two_castup, two_lam, two_pi, two_mu}
use Rattle.term.proofs.Keeping.{spelled, keep_spelled, kept_spelled, kept_length, lies_within, lies_length, lies_whole, lies_first, lies_second, lies_body}

-- Two words a node: of the plain words the one at a place, and those behind it.
twice : (n : ℕ) → 2 * suc n ≡ suc (suc (2 * n))
twice n = omega arith

pub spelled_word : (ws : List ℕ) (n : ℕ) → n < length (spelled ws) → get_or (spelled ws) n 0 ≡ get_or ws (2 * n) 0
unfolding spelled
spelled_word [] n h = refl
spelled_word (w ∷ []) n h = absurd (omega arith)
spelled_word (w ∷ l ∷ ws) zero h = refl
spelled_word (w ∷ l ∷ ws) (suc n) h = rw (twice n) (spelled_word ws n (omega arith))

spelled_behind : (ws : List ℕ) (n : ℕ) → spelled (drop (2 * n) ws) ≡ drop n (spelled ws)
unfolding spelled
spelled_behind [] zero = refl
spelled_behind [] (suc n) = rw (twice n) refl
spelled_behind (w ∷ []) zero = refl
spelled_behind (w ∷ []) (suc n) = rw (twice n) refl
spelled_behind (w ∷ l ∷ ws) zero = refl
spelled_behind (w ∷ l ∷ ws) (suc n) = rw (twice n) (spelled_behind ws n)

-- A part by the number of parts of its node.
data Part : Term → ℕ → Term → ℕ → Type 0 where
  the_body : {e : Term} → Part (castdown e) 1 e 1
  the_first : {c : Term → Term → Term} {w k : ℕ} {a b : Term} → Two c w k → Part (c a b) 1 a 1
  the_second : {c : Term → Term → Term} {w k : ℕ} {a b : Term} → Two c w k → Part (c a b) 2 b (1 + size a)

part : {t s : Term} {k p : ℕ} → PartAt t k s p → Part t k s p
part castdown_1 = the_body
part app_1 = the_first two_app
part app_2 = the_second two_app
part castup_1 = the_first two_castup
part castup_2 = the_second two_castup
part lam_1 = the_first two_lam
part lam_2 = the_second two_lam
part pi_1 = the_first two_pi
part pi_2 = the_second two_pi
part mu_1 = the_first two_mu
part mu_2 = the_second two_mu

at_first : {t s : Term} {k p : ℕ} → Part t k s p → k ≡ 1 → p ≡ 1
at_first the_body h = refl
at_first (the_first two) h = refl
at_first (the_second two) h = absurd (omega arith)

-- A second part stands behind the first.
at_second : {t s : Term} {k p : ℕ} {slice : List ℕ} {n : ℕ}
    → Part t k s p
    → k ≡ 2
    → Lies t slice n
    → (a : Term) × Lies a slice (n + 1) × (p ≡ 1 + size a)
at_second the_body h l = absurd (omega arith)
at_second (the_first two) h l = absurd (omega arith)
at_second (the_second {a} two) h l = (a, lies_first two l, refl)

lies_part : {t s : Term} {k p : ℕ} {slice : List ℕ} {n : ℕ} → Part t k s p → Lies t slice n → Lies s slice (n + p)
lies_part the_body l = lies_body l
lies_part (the_first two) l = lies_first two l
lies_part {slice} {n} (the_second {a} {b} two) l = subst (Lies b slice) (add_assoc n 1 (size a)) (lies_second two l)

lies_stands : {t e : Term} {p : ℕ} {slice : List ℕ} {n : ℕ} → Stands t e p → Lies t slice n → Lies e slice (n + p)
lies_stands {t} {slice} {n} itself l = subst (Lies t slice) (sym (add-zero n)) l
lies_stands {e} {slice} {n} (in_part {p} {q} at below) l =
    subst (Lies e slice) (add_assoc n p q) (lies_stands below (lies_part (part at) l))

module _ (t : Term) {e : Term} {n : ℕ} (l : Lies e (kept t) n) where
  lies_walked : span (drop n (words t)) 1 ≡ size e
  lies_walked = ap (λ ws. span ws 1) begins ∙ span_emit e (spelled l.rest)
    where
      begins : drop n (words t) ≡ emit e (spelled l.rest)
      begins =
          ap (drop n) (sym (kept_spelled t))
          ∙ sym (spelled_behind (kept t) n)
          ∙ ap spelled l.begins
          ∙ keep_spelled e l.rest

  lies_plain : word_at (kept t) n ≡ get_or (words t) n 0
  lies_plain = sym (spelled_word (kept t) n inside) ∙ ap (λ ws. get_or ws n 0) (kept_spelled t)
    where
      inside : n < length (spelled (kept t))
      inside = omega (arith, ap length (kept_spelled t), words_length t, kept_length t, lies_within l, size_positive e)

pub kept_lengths : KeptLengths
kept_lengths t e n stands =
    record {
      word = lies_plain t l;
      extent = lies_length l;
      walked = lies_length l ∙ sym (lies_walked t l);
      first = λ s p at. omega (arith, at_first (part at) refl);
      second = λ s p at. second s p (at_second (part at) refl l);
    }
  where
    l : Lies e (kept t) n
    l = subst (Lies e (kept t)) (zero-add n) (lies_stands stands (lies_whole refl))

    second : (s : Term) (p : ℕ)
        → (a : Term) × Lies a (kept t) (n + 1) × (p ≡ 1 + size a)
        → (n + p ≡ second_node (kept t) n) × (second_node (kept t) n ≡ walked_second (words t) n)
    second s p (a, la, h) =
        let kept_size : length_at (kept t) (suc n) ≡ size a = rw (add-one n) at (lies_length la) in
        let walk_size : span (drop (suc n) (words t)) 1 ≡ size a = rw (add-one n) at (lies_walked t la) in
        (omega arith, omega arith)
