-- Plain words kept from their end: each word with the length of the subterm that begins there, which is found by the lengths of
-- the nodes behind it. Of the words of a term these are the kept words, as the walk over a subterm goes as far as it is long.
use Prim.Native.Nat.{ℕ, zero, suc, ◌+◌, ◌*◌, ◌-◌, ◌≤◌, ◌<◌, min}
use mathlib.Core.List.{List, [], ◌∷◌, ◌++◌}
use mathlib.Core.Logic.{⊎_elim}
use mathlib.Core.Path.{◌≡◌, refl, sym, ap, ap₂, ◌∙◌}
use native.Mathlib.Nat.{add-zero, add-sub_cancel_left, eq-or-lt_of_le}
use native.Mathlib.Numerals.{add-one}
use native.Mathlib.Omega.{arith}
use lib.ListN.{length, take, drop, get_or, set, length-append, length-take, drop_of_length-le, get_or-append}
use lib.Seq.{sets, sets-eq, drop-nil, drop-cons, drop-length, length-take-le, get_or-append-add}
use Rattle.calculus.specs.Term.{Term, var, star, app, lam, pi, castup, castdown, mu, name, size}
use Rattle.calculus.specs.Words.{emit, words}
use Rattle.calculus.specs.Meaning.{meaning, binds}
use Rattle.term.specs.Kept.{keep, kept, length_at}
use Rattle.term.specs.Walk.{span}
use Rattle.term.specs.Word.{arity, shape_of}
use Rattle.term.specs.declared.word.Shape.{Shape}
use Rattle.term.proofs.Walking.{span_emit}
use Rattle.kept.proofs.Stores.{set_sets}

-- The kept words of any plain words.
unfoldable pub noted_words : List ℕ → List ℕ
noted_words [] = []
noted_words (w ∷ ws) = w ∷ span (w ∷ ws) 1 ∷ noted_words ws

-- Of the words of a term.
node : {w n : ℕ} (ws : List ℕ) {js : List ℕ} → span (w ∷ ws) 1 ≡ n → noted_words ws ≡ js → noted_words (w ∷ ws) ≡ w ∷ n ∷ js
unfolding noted_words
node {w} ws e h = ap₂ (λ n js. w ∷ n ∷ js) e h

noted_keep : (t : Term) (k : List ℕ) → noted_words (emit t k) ≡ keep t (noted_words k)
unfolding emit keep size
noted_keep (var i) k = node _ (span_emit (var i) k) refl
noted_keep star k = node _ (span_emit star k) refl
noted_keep (app f u) k = node _ (span_emit (app f u) k) (noted_keep f (emit u k) ∙ ap (keep f) (noted_keep u k))
noted_keep (lam a e) k = node _ (span_emit (lam a e) k) (noted_keep a (emit e k) ∙ ap (keep a) (noted_keep e k))
noted_keep (pi a b) k = node _ (span_emit (pi a b) k) (noted_keep a (emit b k) ∙ ap (keep a) (noted_keep b k))
noted_keep (castup a e) k = node _ (span_emit (castup a e) k) (noted_keep a (emit e k) ∙ ap (keep a) (noted_keep e k))
noted_keep (castdown e) k = node _ (span_emit (castdown e) k) (noted_keep e k)
noted_keep (mu a e) k = node _ (span_emit (mu a e) k) (noted_keep a (emit e k) ∙ ap (keep a) (noted_keep e k))
noted_keep (name i) k = node _ (span_emit (name i) k) refl

pub noted_kept : (t : Term) → noted_words (words t) ≡ kept t
unfolding words kept noted_words
noted_kept t = noted_keep t []

-- Two words for each, the second the length.
noted_length : (ws : List ℕ) → length (noted_words ws) ≡ 2 * length ws
unfolding noted_words
noted_length [] = refl
noted_length (w ∷ ws) = omega (arith, noted_length ws)

noted_at : (ws : List ℕ) (j : ℕ) → get_or (noted_words ws) (2 * j + 1) 0 ≡ span (drop j ws) 1
unfolding noted_words span
noted_at [] j = rw (drop-nil {A = ℕ} j) refl
noted_at (w ∷ ws) zero = refl
noted_at (w ∷ ws) (suc j) =
    let next : 2 * suc j + 1 ≡ suc (suc (2 * j + 1)) = omega arith in
    rw next (noted_at ws j)

-- A word of a run of stores.
get_d_sets : (l : List ℕ) (i : ℕ) (e : List ℕ) (j : ℕ)
    → i + length e ≤ length l
    → j < length e
    → get_or (sets l i e) (i + j) 0 ≡ get_or e j 0
get_d_sets l i e j room inside =
    let front : length (take i l) ≡ i = length-take-le i l (omega arith) in
    ap (λ m. get_or m (i + j) 0) (sets-eq e l i room)
    ∙ get_or-append (take i l ++ e) (drop (i + length e) l) 0 (i + j) (omega (arith, length-append (take i l) e, front))
    ∙ ap (λ n. get_or (take i l ++ e) (n + j) 0) (sym front)
    ∙ get_or-append-add (take i l) e j 0

-- Before the first node is noted, and when all are.
pub noted_none : (plain l : List ℕ) (at i : ℕ) → l ≡ sets l i (noted_words (drop (at + length plain - at) plain))
unfolding noted_words
noted_none plain l at i = rw (add-sub_cancel_left at (length plain), drop-length plain) refl

pub noted_all : (t : Term) (l plain : List ℕ) (at n : ℕ) {out : List ℕ}
    → plain ≡ words t
    → n ≡ at
    → out ≡ sets l (2 * n) (noted_words (drop (n - at) plain))
    → out ≡ sets l (2 * at) (kept t)
noted_all t l plain at n e same h =
    let all : n - at ≡ 0 = omega arith in
    h
    ∙ ap₂ (λ i k. sets l (2 * i) (noted_words (drop k plain))) same all
    ∙ ap (sets l (2 * at)) (ap noted_words e ∙ noted_kept t)

-- One node more, before those that are noted already.
pub noted_before : (l plain : List ℕ) (at n extent : ℕ) {out : List ℕ}
    → (at < n) × (n ≤ at + length plain)
    → out ≡ sets l (2 * n) (noted_words (drop (n - at) plain))
    → extent ≡ span (get_or plain (n - 1 - at) 0 ∷ drop (n - at) plain) 1
    → set (set out (2 * (n - 1)) (get_or plain (n - 1 - at) 0)) (2 * (n - 1) + 1) extent
    ≡ sets l (2 * (n - 1)) (noted_words (drop (n - 1 - at) plain))
unfolding noted_words
noted_before l plain at n extent inside h e =
    let i = 2 * (n - 1) in
    let w = get_or plain (n - 1 - at) 0 in
    let ws = drop (n - at) plain in
    let ns = noted_words ws in
    let second : 2 * n ≡ suc (suc i) = omega arith in
    let rest : suc (n - 1 - at) ≡ n - at = omega arith in
    ap (λ m. set (set m i w) (i + 1) extent) (h ∙ ap (λ k. sets l k ns) second)
    ∙ ap (λ m. set m (i + 1) extent) (set_sets l i w (suc (suc i)) ns (omega arith))
    ∙ set_sets (set l i w) (i + 1) extent (suc (suc i)) ns (omega arith)
    ∙ ap₂ (λ k x. sets (set (set l i w) k x) (suc (suc i)) ns) (add-one i) e
    ∙ ap (λ k. sets l i (noted_words k)) (sym (drop-cons plain (n - 1 - at) 0 (omega arith) ∙ ap (λ k. w ∷ drop k plain) rest))

behind_all : (ws : List ℕ) (j : ℕ) → length ws ≤ j → span (drop j ws) 1 ≡ 0
unfolding span
behind_all ws j h = rw (drop_of_length-le ws h) refl

-- The length that is noted at a node is how far the walk from it goes; from behind the last it goes no further.
module _ (l ws : List ℕ) (n end : ℕ) {out : List ℕ}
    (ends : end ≡ n + length ws)
    (room : 2 * end ≤ length l)
    (h : out ≡ sets l (2 * n) (noted_words ws)) where
  pub noted_span : (j p : ℕ) {r : ℕ}
      → j ≤ length ws
      → p ≡ n + j
      → (p < end → r ≡ length_at out p) × (end ≤ p → r ≡ 0)
      → r ≡ span (drop j ws) 1
  noted_span j p {r} inside place said = ⊎_elim behind before (eq-or-lt_of_le up)
    where
      up : p ≤ end
      up = omega arith

      behind : p ≡ end → r ≡ span (drop j ws) 1
      behind e = said.1 (omega arith) ∙ sym (behind_all ws j (omega arith))

      before : p < end → r ≡ span (drop j ws) 1
      before b =
          let there : 2 * p + 1 ≡ 2 * n + (2 * j + 1) = omega arith in
          let long = noted_length ws in
          said.0 b
          ∙ ap₂ (λ k m. get_or m k 0) there h
          ∙ get_d_sets l (2 * n) (noted_words ws) (2 * j + 1) (omega arith) (omega arith)
          ∙ noted_at ws j

-- The length of a node by the number of its parts.
pub span_node : (s : Shape) (w : ℕ) (ws : List ℕ)
    → shape_of s ≡ binds (meaning w)
    → span (w ∷ ws) 1 ≡ 1 + span ws (min s.parts 2)
unfolding span arity
span_node s w ws h =
    let parts : arity w ≡ min s.parts 2 = sym (ap length h) ∙ length-take s.parts (0 ∷ s.bound ∷ []) in
    rw (add-zero (arity w), parts) (omega arith)
