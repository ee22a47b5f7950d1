-- Kept terms: two words a node. So a term kept at a node of a slice has its word and its length there, its first part at the next
-- node, its second behind the first; and a list begins with the kept words of one term only, of those whose indices have words of their
-- own.
use Prim.Native.Nat.{ℕ, ◌+◌, ◌*◌, ◌≤◌}
use mathlib.Core.List.{List, [], ◌∷◌, ◌++◌}
use mathlib.Core.Path.{◌≡◌, refl, sym, ap, ◌∙◌}
use native.Mathlib.Nat.{add-zero}
use native.Mathlib.Omega.{arith}
use lib.ListN.{length, take, drop, get_or, length-drop}
use lib.Seq.{drop-drop, get_or-drop, drop-append_seam, take-append_seam}
use Rattle.calculus.specs.Term.{Term, var, star, app, lam, pi, castup, castdown, mu, name, size}
use Rattle.calculus.specs.Words.{emit, words, Worded}
use Rattle.calculus.proofs.Coding.{words_injective, size_positive}
use Rattle.term.specs.Kept.{keep, kept, Lies, word_at, length_at}
use Rattle.term.proofs.Nodes.{Two, keep_two}

-- Whatever the two words of a node are.
behind_node : {w n : ℕ} {j k : List ℕ} → j ≡ k → ◌≡◌ {A = List ℕ} (w ∷ n ∷ j) (w ∷ n ∷ k)
behind_node {w} {n} h = ap (λ ws. w ∷ n ∷ ws) h

keep_before : (t : Term) (j k : List ℕ) → keep t (j ++ k) ≡ keep t j ++ k
unfolding keep
keep_before (var i) j k = refl
keep_before star j k = refl
keep_before (app f u) j k = behind_node (ap (keep f) (keep_before u j k) ∙ keep_before f (keep u j) k)
keep_before (lam a e) j k = behind_node (ap (keep a) (keep_before e j k) ∙ keep_before a (keep e j) k)
keep_before (pi a b) j k = behind_node (ap (keep a) (keep_before b j k) ∙ keep_before a (keep b j) k)
keep_before (castup a e) j k = behind_node (ap (keep a) (keep_before e j k) ∙ keep_before a (keep e j) k)
keep_before (castdown e) j k = behind_node (keep_before e j k)
keep_before (mu a e) j k = behind_node (ap (keep a) (keep_before e j k) ∙ keep_before a (keep e j) k)
keep_before (name i) j k = refl

pub keep_append : (t : Term) (k : List ℕ) → keep t k ≡ kept t ++ k
unfolding kept
keep_append t k = keep_before t [] k

pub keep_length : (t : Term) (k : List ℕ) → length (keep t k) ≡ 2 * size t + length k
unfolding keep size
keep_length (var i) k = omega arith
keep_length star k = omega arith
keep_length (app f u) k = omega (arith, keep_length f (keep u k), keep_length u k)
keep_length (lam a e) k = omega (arith, keep_length a (keep e k), keep_length e k)
keep_length (pi a b) k = omega (arith, keep_length a (keep b k), keep_length b k)
keep_length (castup a e) k = omega (arith, keep_length a (keep e k), keep_length e k)
keep_length (castdown e) k = omega (arith, keep_length e k)
keep_length (mu a e) k = omega (arith, keep_length a (keep e k), keep_length e k)
keep_length (name i) k = omega arith

pub kept_length : (t : Term) → length (kept t) ≡ 2 * size t
unfolding kept
kept_length t = omega (arith, keep_length t [])

-- Of the two words of a node the first is its word, the second its length.
first_word : {t : Term} {slice : List ℕ} {n : ℕ} (l : Lies t slice n) → word_at slice n ≡ get_or (keep t l.rest) 0 0
first_word {t} {slice} {n} l =
    ap (λ k. get_or slice k 0) (sym (add-zero (2 * n))) ∙ sym (get_or-drop (2 * n) slice 0 0) ∙ ap (λ ws. get_or ws 0 0) l.begins

keep_size : (t : Term) (k : List ℕ) → get_or (keep t k) 1 0 ≡ size t
unfolding keep size
keep_size (var i) k = refl
keep_size star k = refl
keep_size (app f u) k = refl
keep_size (lam a e) k = refl
keep_size (pi a b) k = refl
keep_size (castup a e) k = refl
keep_size (castdown e) k = refl
keep_size (mu a e) k = refl
keep_size (name i) k = refl

-- The plain words again: the first of each two.
unfoldable pub spelled : List ℕ → List ℕ
spelled [] = []
spelled (w ∷ []) = []
spelled (w ∷ l ∷ ws) = w ∷ spelled ws

pub keep_spelled : (t : Term) (k : List ℕ) → spelled (keep t k) ≡ emit t (spelled k)
unfolding keep spelled emit
keep_spelled (var i) k = refl
keep_spelled star k = refl
keep_spelled (app f u) k = ap (λ ws. 2 ∷ ws) (keep_spelled f (keep u k) ∙ ap (emit f) (keep_spelled u k))
keep_spelled (lam a e) k = ap (λ ws. 4 ∷ ws) (keep_spelled a (keep e k) ∙ ap (emit a) (keep_spelled e k))
keep_spelled (pi a b) k = ap (λ ws. 5 ∷ ws) (keep_spelled a (keep b k) ∙ ap (emit a) (keep_spelled b k))
keep_spelled (castup a e) k = ap (λ ws. 3 ∷ ws) (keep_spelled a (keep e k) ∙ ap (emit a) (keep_spelled e k))
keep_spelled (castdown e) k = ap (λ ws. 1 ∷ ws) (keep_spelled e k)
keep_spelled (mu a e) k = ap (λ ws. 6 ∷ ws) (keep_spelled a (keep e k) ∙ ap (emit a) (keep_spelled e k))
keep_spelled (name i) k = refl

pub kept_spelled : (t : Term) → spelled (kept t) ≡ words t
unfolding kept words spelled
kept_spelled t = keep_spelled t []

pub kept_injective : (s t : Term) → Worded s → Worded t → kept s ≡ kept t → s ≡ t
kept_injective s t hs ht h = words_injective s t hs ht (sym (kept_spelled s) ∙ ap spelled h ∙ kept_spelled t)

-- Of a term that lies in a slice.
pub lies_within : {t : Term} {slice : List ℕ} {n : ℕ} → Lies t slice n → 2 * (n + size t) ≤ length slice
lies_within {t} {slice} {n} l =
    omega (arith, length-drop (2 * n) slice, ap length l.begins, keep_length t l.rest, size_positive t)

pub lies_length : {t : Term} {slice : List ℕ} {n : ℕ} → Lies t slice n → length_at slice n ≡ size t
lies_length {t} {slice} {n} l = sym (get_or-drop (2 * n) slice 1 0) ∙ ap (λ ws. get_or ws 1 0) l.begins ∙ keep_size t l.rest

pub lies_whole : {t : Term} {slice : List ℕ} → slice ≡ kept t → Lies t slice 0
unfolding kept
lies_whole {t} {slice} h = record { rest = []; begins = h }

pub lies_taken : {t : Term} {slice : List ℕ} {n : ℕ} → Lies t slice n → take (2 * size t) (drop (2 * n) slice) ≡ kept t
lies_taken {t} {slice} {n} l =
    ap (take (2 * size t)) (l.begins ∙ keep_append t l.rest)
    ∙ ap (λ m. take m (kept t ++ l.rest)) (sym (kept_length t))
    ∙ take-append_seam (kept t) l.rest

-- The first part lies at the next node, the second behind it.
further : (m n : ℕ) (slice : List ℕ) → drop (2 * m) (drop (2 * n) slice) ≡ drop (2 * (n + m)) slice
further m n slice =
    let sum : 2 * n + 2 * m ≡ 2 * (n + m) = omega arith in
    drop-drop (2 * m) (2 * n) slice ∙ ap (λ k. drop k slice) sum

behind_keep : (t : Term) (k : List ℕ) → drop (2 * size t) (keep t k) ≡ k
behind_keep t k =
    ap (drop (2 * size t)) (keep_append t k) ∙ ap (λ m. drop m (kept t ++ k)) (sym (kept_length t)) ∙ drop-append_seam (kept t) k

module _ {c : Term → Term → Term} {w k : ℕ} (two : Two c w k) {a b : Term} {slice : List ℕ} {n : ℕ} (l : Lies (c a b) slice n) where
  pub lies_word : word_at slice n ≡ w
  lies_word = first_word l ∙ ap (λ ws. get_or ws 0 0) (keep_two two a b l.rest)

  first_begins : drop (2 * (n + 1)) slice ≡ keep a (keep b l.rest)
  first_begins = sym (further 1 n slice) ∙ ap (drop 2) (l.begins ∙ keep_two two a b l.rest)

  pub lies_first : Lies a slice (n + 1)
  lies_first = record { rest = keep b l.rest; begins = first_begins }

  pub lies_second : Lies b slice (n + 1 + size a)
  lies_second =
      record {
        rest = l.rest;
        begins = sym (further (size a) (n + 1) slice) ∙ ap (drop (2 * size a)) first_begins ∙ behind_keep a (keep b l.rest);
      }

pub lies_body : {e : Term} {slice : List ℕ} {n : ℕ} → Lies (castdown e) slice n → Lies e slice (n + 1)
unfolding keep
lies_body {e} {slice} {n} l = record { rest = l.rest; begins = sym (further 1 n slice) ∙ ap (drop 2) l.begins }

pub lies_castdown : {e : Term} {slice : List ℕ} {n : ℕ} → Lies (castdown e) slice n → word_at slice n ≡ 1
unfolding keep
lies_castdown l = first_word l

pub lies_star : {slice : List ℕ} {n : ℕ} → Lies star slice n → word_at slice n ≡ 0
unfolding keep
lies_star l = first_word l

pub lies_variable : {i : ℕ} {slice : List ℕ} {n : ℕ} → Lies (var i) slice n → word_at slice n ≡ 16 + i
unfolding keep
lies_variable l = first_word l

pub lies_name : {i : ℕ} {slice : List ℕ} {n : ℕ} → Lies (name i) slice n → word_at slice n ≡ 2048 + i
unfolding keep
lies_name l = first_word l

-- A list begins with the kept words of one term only.
keep_one : (s t : Term) (j k : List ℕ) → Worded s → Worded t → keep s j ≡ keep t k → s ≡ t
keep_one s t j k hs ht h = kept_injective s t hs ht (sym (taken s j) ∙ ap (λ n. take (2 * n) (keep s j)) same ∙ ap (take (2 * size t)) h ∙ taken t k)
  where
    same : size s ≡ size t
    same = sym (keep_size s j) ∙ ap (λ ws. get_or ws 1 0) h ∙ keep_size t k

    taken : (r : Term) (l : List ℕ) → take (2 * size r) (keep r l) ≡ kept r
    taken r l = ap (take (2 * size r)) (keep_append r l) ∙ ap (λ m. take m (kept r ++ l)) (sym (kept_length r)) ∙ take-append_seam (kept r) l

pub lies_one : {s t : Term} {slice : List ℕ} {n : ℕ} → Worded s → Worded t → Lies s slice n → Lies t slice n → s ≡ t
lies_one {s} {t} hs ht l m = keep_one s t l.rest m.rest hs ht (sym l.begins ∙ m.begins)
