-- Raising in place. It keeps every length, so the term raised stands where the term stood: a leaf changes its word at most, and a
-- node is raised where its parts are, one after the other. A part without variables stands raised there already.
use Prim.Native.Nat.{ℕ, suc, ◌+◌, ◌-◌, ◌*◌, ◌≤◌, ◌<◌}
use mathlib.Core.List.{List, [], ◌∷◌, ◌++◌, append_assoc, append-nil}
use mathlib.Core.Path.{◌≡◌, refl, sym, ap, ap₂, ◌∙◌, subst}
use native.Mathlib.Omega.{arith}
use borrow.Author.Tests.{lt-ltb, le-ltb}
use lib.ListN.{length, take, drop, get_or, set, take-append-drop, drop_of_length-le}
use lib.Seq.{sets, sets-eq, set-get_or, get_or-set_other, drop-set-lt, drop-drop}
use Rattle.calculus.specs.Term.{Term, var, star, castdown, name, size, raise}
use Rattle.calculus.specs.Words.{Worded, deepest}
use Rattle.calculus.specs.Meaning.{binds, meaning}
use Rattle.calculus.proofs.Coding.{size_positive, worded}
use Rattle.calculus.proofs.Scoping.{scoped_more}
use Rattle.calculus.proofs.Stores.{sets_append}
use Rattle.term.specs.Kept.{keep, kept, Lies, word_at, length_at}
use Rattle.term.proofs.Nodes.{Two, View, a_variable, a_star, a_name, one_part, two_parts, view, keep_two, size_two, raise_two, binds_two}
use Rattle.term.proofs.Keeping.{keep_append, kept_length, lies_within, lies_length, lies_taken, lies_word, lies_castdown}
use Rattle.term.proofs.Keeping.{lies_star, lies_variable, lies_name, lies_whole}
use Rattle.kept.specs.Rewriting.{clear_run, FirstVariables, Fits, Subject, Surveyed}
use Rattle.kept.proofs.Clear.{Built, of_variable, of_star, of_name, of_one, of_two, built, raise_clear, surveyed_clear}
use Rattle.kept.proofs.Clear.{surveyed_first, surveyed_second, surveyed_body, subject_first, subject_second}
use Rattle.kept.proofs.Clear.{subject_body}

raised_size : {t : Term} → Built t → (n d : ℕ) → size (raise n d t) ≡ size t
unfolding size raise
raised_size (of_variable i) n d = refl
raised_size of_star n d = refl
raised_size (of_name i) n d = refl
raised_size (of_one p) n d = ap suc (raised_size p n d)
raised_size (of_two {c} {w} {k} {a} {b} two p q) n d =
    ap size (raise_two two n d a b)
    ∙ size_two two (raise n d a) (raise n (d + k) b)
    ∙ omega (arith, size_two two a b, raised_size p n d, raised_size q n (d + k))

pub raise_size : (n d : ℕ) (t : Term) → size (raise n d t) ≡ size t
raise_size n d t = raised_size (built t) n d

raise_length : (n d : ℕ) (t : Term) → length (kept (raise n d t)) ≡ 2 * size t
raise_length n d t = omega (arith, kept_length (raise n d t), raise_size n d t)

-- Stores. What stands behind them is as it was,
pub drop_sets : (n : ℕ) (l : List ℕ) (at : ℕ) (e : List ℕ) → at + length e ≤ n → drop n (sets l at e) ≡ drop n l
drop_sets n l at [] h = refl
drop_sets n l at (w ∷ e) h =
    drop_sets n (set l at w) (suc at) e (omega (arith, h)) ∙ drop-set-lt n l at w (omega (arith, h))

-- a word that is stored where it stands changes nothing,
store_same : (l : List ℕ) (i w : ℕ) → get_or l i 0 ≡ w → set l i w ≡ l
store_same l i w h = ap (set l i) (sym h) ∙ set-get_or l i 0

-- nor does a term that is stored where it lies.
pub stores_same : {t : Term} {slice : List ℕ} {n : ℕ} → Lies t slice n → sets slice (2 * n) (kept t) ≡ slice
stores_same {t} {slice} {n} l =
    sets-eq (kept t) slice (2 * n) (omega (arith, lies_within l, kept_length t))
    ∙ append_assoc (take (2 * n) slice) (kept t) (drop (2 * n + length (kept t)) slice)
    ∙ ap (λ r. take (2 * n) slice ++ r) there
    ∙ take-append-drop (2 * n) slice
  where
    there : kept t ++ drop (2 * n + length (kept t)) slice ≡ drop (2 * n) slice
    there =
        ap₂ (λ x m. x ++ drop (2 * n + m) slice) (sym (lies_taken l)) (kept_length t)
        ∙ ap (λ r. take (2 * size t) (drop (2 * n) slice) ++ r) (sym (drop-drop (2 * size t) (2 * n) slice))
        ∙ take-append-drop (2 * size t) (drop (2 * n) slice)

module _ (slice : List ℕ) (n : ℕ) where
  length_there : get_or slice (suc (2 * n)) 0 ≡ length_at slice n
  length_there = ap (λ i. get_or slice i 0) (omega arith)

  -- A word that is changed where the length of the node is 1.
  store_leaf : (w : ℕ) → length_at slice n ≡ 1 → set slice (2 * n) w ≡ sets slice (2 * n) (w ∷ 1 ∷ [])
  store_leaf w h =
      let other = get_or-set_other slice (2 * n) (suc (2 * n)) w 0 (omega arith) in
      sym (store_same (set slice (2 * n) w) (suc (2 * n)) 1 (other ∙ length_there ∙ h))

  -- A node whose word and length are stored where they stand: only what is stored behind it counts.
  store_node : (w s : ℕ) (ws : List ℕ)
      → word_at slice n ≡ w
      → length_at slice n ≡ s
      → sets slice (2 * n) (w ∷ s ∷ ws) ≡ sets slice (2 * (n + 1)) ws
  store_node w s ws h j =
      let behind : suc (suc (2 * n)) ≡ 2 * (n + 1) = omega arith in
      ap (λ l. sets (set l (suc (2 * n)) s) (suc (suc (2 * n))) ws) (store_same slice (2 * n) w h)
      ∙ ap₂ (λ l i. sets l i ws) (store_same slice (suc (2 * n)) s (length_there ∙ j)) behind

-- The terms of one node.
data Leaf : Term → Type 0 where
  variable_leaf : (i : ℕ) → Leaf (var i)
  star_leaf : Leaf star
  name_leaf : (i : ℕ) → Leaf (name i)

leaf : {t : Term} → View t → size t ≡ 1 → Leaf t
unfolding size
leaf (a_variable i) h = variable_leaf i
leaf a_star h = star_leaf
leaf (a_name i) h = name_leaf i
leaf (one_part e) h = absurd (omega (arith, h, size_positive e))
leaf (two_parts two a b) h = absurd (omega (arith, h, size_two two a b, size_positive a))

leaf_raised : {t : Term} {slice : List ℕ} {n : ℕ} → Leaf t → (by d : ℕ)
    → Lies t slice n
    → 16 + d ≤ word_at slice n
    → word_at slice n < 2048
    → set slice (2 * n) (word_at slice n + by) ≡ sets slice (2 * n) (kept (raise by d t))
unfolding kept keep raise size
leaf_raised {slice = slice} {n = n} (variable_leaf i) by d l h low =
    let word : word_at slice n + by ≡ 16 + (i + by) = omega (arith, lies_variable l) in
    rw
    (le-ltb i d (omega (arith, h, lies_variable l)))
    (ap (set slice (2 * n)) word ∙ store_leaf slice n (16 + (i + by)) (lies_length l))
leaf_raised star_leaf by d l h low = absurd (omega (arith, h, lies_star l))
leaf_raised (name_leaf i) by d l h low = absurd (omega (arith, low, lies_name l))

leaf_same : {t : Term} {slice : List ℕ} {n : ℕ} → Leaf t → (by d : ℕ)
    → Lies t slice n
    → word_at slice n < 16 + d
    → raise by d t ≡ t
unfolding raise
leaf_same (variable_leaf i) by d l h = rw (lt-ltb i d (omega (arith, h, lies_variable l))) refl
leaf_same star_leaf by d l h = refl
leaf_same (name_leaf i) by d l h = refl

-- From 2,048 on a word is a name, which is the same raised: a variable has a word below.
leaf_named : {t : Term} {slice : List ℕ} {n : ℕ} → Leaf t → (by d : ℕ)
    → Lies t slice n
    → Worded t
    → 2048 ≤ word_at slice n
    → raise by d t ≡ t
unfolding raise Worded
leaf_named (variable_leaf i) by d l has h = absurd (omega (arith, h, has, lies_variable l))
leaf_named star_leaf by d l has h = refl
leaf_named (name_leaf i) by d l has h = refl

-- A leaf at a node, by the word that is looked at there.
module _ {t : Term} {slice : List ℕ} {n : ℕ} where
  pub free_raised : (by d : ℕ)
      → Lies t slice n
      → size t ≡ 1
      → 16 + d ≤ word_at slice n
      → word_at slice n < 2048
      → set slice (2 * n) (word_at slice n + by) ≡ sets slice (2 * n) (kept (raise by d t))
  free_raised by d l one = leaf_raised (leaf (view t) one) by d l

  pub bound_raised : (by d : ℕ)
      → Lies t slice n
      → size t ≡ 1
      → word_at slice n < 16 + d
      → slice ≡ sets slice (2 * n) (kept (raise by d t))
  bound_raised by d l one h =
      sym (stores_same l) ∙ ap (λ x. sets slice (2 * n) (kept x)) (sym (leaf_same (leaf (view t) one) by d l h))

  pub name_raised : (by d : ℕ)
      → Lies t slice n
      → Worded t
      → size t ≡ 1
      → 2048 ≤ word_at slice n
      → slice ≡ sets slice (2 * n) (kept (raise by d t))
  name_raised by d l has one h =
      sym (stores_same l) ∙ ap (λ x. sets slice (2 * n) (kept x)) (sym (leaf_named (leaf (view t) one) by d l has h))

  -- A part that is passed over.
  pub clear_raised : {first : List ℕ} (by d : ℕ)
      → Lies t slice n
      → Surveyed t slice n first
      → n + size t ≤ get_or first n 0
      → slice ≡ sets slice (2 * n) (kept (raise by d t))
  clear_raised by d l v h =
      sym (stores_same l) ∙ ap (λ x. sets slice (2 * n) (kept x)) (sym (raise_clear by d (surveyed_clear l v h)))

-- What is known of a subterm that stands behind a change.
module _ {t : Term} {slice : List ℕ} {n : ℕ} (at : ℕ) (ws : List ℕ) (behind : at + length ws ≤ 2 * n) where
  pub lies_after : Lies t slice n → Lies t (sets slice at ws) n
  lies_after l = record { rest = l.rest; begins = drop_sets (2 * n) slice at ws behind ∙ l.begins }

  pub subject_after : {d : ℕ} → Subject t slice n d → Subject t (sets slice at ws) n d
  subject_after s = record { lies = lies_after s.lies; scoped = s.scoped; near = s.near }

  pub surveyed_after : {first : List ℕ} → Surveyed t slice n first → Surveyed t (sets slice at ws) n first
  surveyed_after {first} v =
      record {
        to = v.to;
        reach = v.reach;
        within = v.within;
        firsts = record {
          wide = v.firsts.wide;
          each = λ m low high.
              v.firsts.each m low high
              ∙ ap (λ l. m + clear_run l (v.to - m)) (sym (drop_sets (2 * m) slice at ws (omega (arith, behind, low))));
        };
      }

-- `Second by slice n d first e a k m`: the second part of the node `e` at `n`, whose first part is `a`. It stands at `m`, under
-- `k` binders more; with both parts raised where they stand, the node is.
pub record Second (by : ℕ) (slice : List ℕ) (n d : ℕ) (first : List ℕ) (e a : Term) (k m : ℕ) : Type 0 where
  pub part : Term
  pub subject : Subject part (sets slice (2 * (n + 1)) (kept (raise by d a))) m (d + k)
  pub surveyed : Surveyed part (sets slice (2 * (n + 1)) (kept (raise by d a))) m first
  pub whole : sets (sets slice (2 * (n + 1)) (kept (raise by d a))) (2 * m) (kept (raise by (d + k) part))
      ≡ sets slice (2 * n) (kept (raise by d e))

-- `Parted by slice n d first e`: the first part of the node `e` at `n`; and what there is besides, by what the word tells.
pub record Parted (by : ℕ) (slice : List ℕ) (n d : ℕ) (first : List ℕ) (e : Term) : Type 0 where
  pub part : Term
  pub subject : Subject part slice (n + 1) d
  pub surveyed : Surveyed part slice (n + 1) first
  pub alone : length (binds (meaning (word_at slice n))) ≤ 1
      → sets slice (2 * (n + 1)) (kept (raise by d part)) ≡ sets slice (2 * n) (kept (raise by d e))
  pub second : (k m : ℕ)
      → m ≡ n + 1 + size part
      → binds (meaning (word_at slice n)) ≡ 0 ∷ k ∷ []
      → Second by slice n d first e part k m

whole_one : {slice : List ℕ} {n : ℕ} (by d : ℕ) (e : Term)
    → Lies (castdown e) slice n
    → sets slice (2 * (n + 1)) (kept (raise by d e)) ≡ sets slice (2 * n) (kept (raise by d (castdown e)))
unfolding kept keep raise size
whole_one {slice} {n} by d e l =
    let long = lies_length l ∙ ap suc (sym (raise_size by d e)) in
    sym (store_node slice n 1 (suc (size (raise by d e))) (kept (raise by d e)) (lies_castdown l) long)

kept_two : {c : Term → Term → Term} {w k : ℕ} → Two c w k → (by d : ℕ) (a b : Term)
    → kept (raise by d (c a b)) ≡ w ∷ size (c a b) ∷ (kept (raise by d a) ++ kept (raise by (d + k) b))
unfolding kept
kept_two {c} {w} {k} two by d a b =
    let a' = raise by d a in
    let b' = raise by (d + k) b in
    let long = ap size (sym (raise_two two by d a b)) ∙ raise_size by d (c a b) in
    ap kept (raise_two two by d a b)
    ∙ keep_two two a' b' []
    ∙ ap₂ (λ s ws. w ∷ s ∷ ws) long (keep_append a' (keep b' []))

module _ {c : Term → Term → Term} {w k : ℕ} (two : Two c w k) {a b : Term} {slice : List ℕ} {n : ℕ} (by d : ℕ) where
  whole_two : Lies (c a b) slice n
      → sets (sets slice (2 * (n + 1)) (kept (raise by d a))) (2 * (n + 1 + size a)) (kept (raise by (d + k) b))
      ≡ sets slice (2 * n) (kept (raise by d (c a b)))
  whole_two l =
      let a' = kept (raise by d a) in
      let b' = kept (raise by (d + k) b) in
      let place : 2 * (n + 1 + size a) ≡ 2 * (n + 1) + length a' = omega (arith, raise_length by d a) in
      ap (λ i. sets (sets slice (2 * (n + 1)) a') i b') place
      ∙ sym (sets_append slice (2 * (n + 1)) a' b')
      ∙ sym (store_node slice n w (size (c a b)) (a' ++ b') (lies_word two l) (lies_length l))
      ∙ ap (sets slice (2 * n)) (sym (kept_two two by d a b))

  second_two : {first : List ℕ} {m : ℕ}
      → Subject (c a b) slice n d
      → Surveyed (c a b) slice n first
      → m ≡ n + 1 + size a
      → Second by slice n d first (c a b) a k m
  second_two s v h =
      let behind : 2 * (n + 1) + length (kept (raise by d a)) ≤ 2 * (n + 1 + size a) = omega (arith, raise_length by d a) in
      rw
      h
      record {
        part = b;
        subject = subject_after (2 * (n + 1)) (kept (raise by d a)) behind (subject_second two s);
        surveyed = surveyed_after (2 * (n + 1)) (kept (raise by d a)) behind (surveyed_second two v);
        whole = whole_two s.lies;
      }

binds_castdown : binds (meaning 1) ≡ 0 ∷ []
unfolding binds meaning
binds_castdown = refl

parted_view : {e : Term} {slice : List ℕ} {n d : ℕ} {first : List ℕ} (by : ℕ)
    → View e
    → Subject e slice n d
    → Surveyed e slice n first
    → 1 < size e
    → Parted by slice n d first e
unfolding size
parted_view by (a_variable i) s v h = absurd (omega (arith, h))
parted_view by a_star s v h = absurd (omega (arith, h))
parted_view by (a_name i) s v h = absurd (omega (arith, h))
parted_view {d = d} by (one_part e) s v h =
    let one = ap (λ w. binds (meaning w)) (lies_castdown s.lies) ∙ binds_castdown in
    record {
      part = e;
      subject = subject_body s;
      surveyed = surveyed_body v;
      alone = λ _. whole_one by d e s.lies;
      second = λ k m _ j. absurd (omega (arith, ap length (sym one ∙ j)));
    }
parted_view {slice = slice} {n = n} {d = d} {first = first} by (two_parts {c} {w} {k} two a b) s v h =
    let both = ap (λ x. binds (meaning x)) (lies_word two s.lies) ∙ binds_two two in
    record {
      part = a;
      subject = subject_first two s;
      surveyed = surveyed_first two v;
      alone = λ few. absurd (omega (arith, few, ap length both));
      second = λ k' m is j.
          subst
          (λ x. Second by slice n d first (c a b) a x m)
          (ap (λ ks. get_or ks 1 0) (sym both ∙ j))
          (second_two two by d s v is);
    }

pub parted : {e : Term} {slice : List ℕ} {n d : ℕ} {first : List ℕ} (by : ℕ)
    → Subject e slice n d
    → Surveyed e slice n first
    → 1 < size e
    → Parted by slice n d first e
parted {e} by s v h = parted_view by (view e) s v h

-- The indices of a subject have words: it stands under few variables and binders.
pub subject_worded : {e : Term} {slice : List ℕ} {n d : ℕ} → Subject e slice n d → Worded e
subject_worded {e} {d = d} s = worded (suc deepest + d) e s.scoped (omega (arith, s.near))

pub fits_worded : {e : Term} → Fits e → Worded e
fits_worded {e} f = worded deepest e f.scoped (omega (arith, f.short))

-- The whole slice.
module _ {e : Term} {slice : List ℕ} (coded : slice ≡ kept e) where
  pub subject_whole : Fits e → Subject e slice 0 0
  subject_whole f =
      record {
        lies = lies_whole coded;
        scoped = scoped_more e (omega arith) f.scoped;
        near = omega (arith, f.short);
      }

  pub surveyed_whole : {to : ℕ} {first : List ℕ}
      → to ≡ size e
      → Fits e
      → FirstVariables slice 0 to first
      → Surveyed e slice 0 first
  surveyed_whole {to} h f v = record { to = to; reach = omega (arith, h); within = omega (arith, h, f.short); firsts = v }

pub raised_whole : {slice : List ℕ} (e : Term)
    → slice ≡ kept e
    → (by d : ℕ)
    → sets slice (2 * 0) (kept (raise by d e)) ≡ kept (raise by d e)
raised_whole {slice} e coded by d =
    let after = kept (raise by d e) in
    let long : length slice ≡ length after = omega (arith, ap length coded, kept_length e, raise_length by d e) in
    sets-eq after slice 0 (omega (arith, long))
    ∙ ap (λ r. after ++ r) (drop_of_length-le slice {i = 0 + length after} (omega (arith, long)))
    ∙ append-nil after
