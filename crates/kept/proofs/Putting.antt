-- What substitution makes of the nodes of a kept term: of a variable by its index, of a leaf that it leaves, and of a node with
-- parts. A node is known by its word, which tells the parts.
use Prim.Native.Nat.{ℕ, ◌+◌, ◌*◌, ◌-◌, ◌≤◌, ◌<◌}
use mathlib.Core.Bool.{true≢false}
use mathlib.Core.List.{List, [], ◌∷◌, ◌++◌}
use mathlib.Core.Path.{◌≡◌, refl, sym, ap, ap₂, ◌∙◌}
use native.Mathlib.Decide.{dec_le}
use native.Mathlib.Omega.{arith}
use borrow.Author.Tests.{lt-ltb, le-ltb, eq-eqb, ne_eqb}
use lib.ListN.{length, take, drop, get_or, length-append, length-take}
use Rattle.calculus.specs.Term.{Term, var, star, castdown, name, size, raise, substitute}
use Rattle.calculus.specs.Words.{Scoped, Worded}
use Rattle.calculus.specs.Meaning.{a_variable, a_name, binds, meaning}
use Rattle.calculus.proofs.Bridge.{raise_none}
use Rattle.calculus.proofs.Coding.{size_positive}
use Rattle.calculus.proofs.Meanings.{no_binds}
use Rattle.term.specs.declared.word.Meaning.{Meaning}
use Rattle.term.specs.declared.word.Meaning.TheVariants.{Star, CastDown, Application, CastUp, Abstraction, Product, Recursion, Variable, Nothing, Name}
use Rattle.term.specs.Kept.{keep, kept, Lies, word_at}
use Rattle.term.specs.declared.word.Shape.{Shape}
use Rattle.term.specs.Word.{meaning_of, shape_of}
use Rattle.term.proofs.Nodes.{Two, View, a_variable as a-var, a_star, a_name, one_part, two_parts, raise_two, size_two}
use Rattle.term.proofs.Nodes.{substitute_two, scoped_two, binds_two, word_two}
use Rattle.term.proofs.Keeping.{kept_length, lies_taken, lies_word, lies_castdown, lies_star, lies_variable, lies_name}
use Rattle.term.proofs.Words.{named, beyond, variable, variable_index}
use Rattle.kept.specs.Rewriting.{Subject, Surveyed}
use Rattle.kept.proofs.Clear.{Built, of_variable, of_star, of_name, of_one, of_two, built}
use Rattle.kept.proofs.Clear.{subject_first, subject_second, subject_body}
use Rattle.kept.proofs.Clear.{surveyed_first, surveyed_second, surveyed_body}
use Rattle.kept.proofs.InPlace.{raise_size}
use Rattle.kept.proofs.Composed.{Spelled, spelled_length, spelled_one, spelled_two}

-- Raising keeps the length, and a term whose variables are all bound.
pub kept_raised_length : (n d : ℕ) (t : Term) → length (kept (raise n d t)) ≡ length (kept t)
kept_raised_length n d t = kept_length (raise n d t) ∙ ap (λ m. 2 * m) (raise_size n d t) ∙ sym (kept_length t)

raised_in_scope : {t : Term} (n d : ℕ) → Built t → Scoped d t → raise n d t ≡ t
unfolding raise Scoped
raised_in_scope n d (of_variable i) h = rw (lt-ltb i d h) refl
raised_in_scope n d of_star h = refl
raised_in_scope n d (of_name i) h = refl
raised_in_scope n d (of_one b) h = ap castdown (raised_in_scope n d b h)
raised_in_scope n d (of_two {c} {w} {k} {a} {b} two p q) h =
    let (first, second) = scoped_two two d a b h in
    raise_two two n d a b ∙ ap₂ c (raised_in_scope n d p first) (raised_in_scope n (d + k) q second)

raise_closed : (n : ℕ) (t : Term) → Scoped 0 t → raise n 0 t ≡ t
raise_closed n t h = raised_in_scope n 0 (built t) h

-- What stands for a variable.
module _ (d : ℕ) (u : Term) (i : ℕ) where
  pub kept_below : i < d → kept (substitute d u (var i)) ≡ (16 + i) ∷ 1 ∷ []
  unfolding kept keep substitute
  kept_below h = rw (lt-ltb i d h) refl

  pub kept_above : d < i → kept (substitute d u (var i)) ≡ (16 + i - 1) ∷ 1 ∷ []
  unfolding kept keep substitute
  kept_above h =
      let lower : 16 + (i - 1) ≡ 16 + i - 1 = omega arith in
      rw (le-ltb i d (omega arith), ne_eqb i d (λ x. omega arith)) (ap (λ w. w ∷ 1 ∷ []) lower)

  pub substitute_here : i ≡ d → substitute d u (var i) ≡ raise d 0 u
  unfolding substitute
  substitute_here h = rw (le-ltb i d (omega arith), eq-eqb i d h) refl

  -- The argument as it stands where it is closed, and under no binder.
  pub substitute_closed : i ≡ d → Scoped 0 u → substitute d u (var i) ≡ u
  substitute_closed h closed = substitute_here h ∙ raise_closed d u closed

  pub substitute_outermost : i ≡ d → d ≡ 0 → substitute d u (var i) ≡ u
  substitute_outermost h none = substitute_here h ∙ ap (λ m. raise m 0 u) none ∙ raise_none u

-- A leaf stays if its word is below those of the free variables, or from 2,048 on, where it is a name.
pub leaf_stays : {e : Term} → View e → (d : ℕ) (u : Term) {slice : List ℕ} {n : ℕ}
    → Lies e slice n
    → Worded e
    → size e ≡ 1
    → (16 + d ≤ word_at slice n → 2048 ≤ word_at slice n)
    → substitute d u e ≡ e
unfolding substitute size Worded
leaf_stays (a-var i) d u {slice} {n} l has one h =
    let never : 16 + d ≤ word_at slice n → ⊥ = λ free. omega (arith, h free, has, lies_variable l) in
    rw (lt-ltb i d (omega (arith, lies_variable l, never))) refl
leaf_stays a_star d u l has one h = refl
leaf_stays (a_name i) d u l has one h = refl
leaf_stays (one_part e) d u l has one h = absurd (omega (arith, one, size_positive e))
leaf_stays (two_parts two a b) d u l has one h = absurd (omega (arith, one, size_two two a b, size_positive a))

pub kept_single : {e : Term} → View e → {slice : List ℕ} {n : ℕ}
    → Lies e slice n
    → size e ≡ 1
    → kept e ≡ word_at slice n ∷ 1 ∷ []
unfolding kept keep size
kept_single (a-var i) l one = ap (λ w. w ∷ 1 ∷ []) (sym (lies_variable l))
kept_single a_star l one = ap (λ w. w ∷ 1 ∷ []) (sym (lies_star l))
kept_single (a_name i) l one = ap (λ w. w ∷ 1 ∷ []) (sym (lies_name l))
kept_single (one_part e) l one = absurd (omega (arith, one, size_positive e))
kept_single (two_parts two a b) l one = absurd (omega (arith, one, size_two two a b, size_positive a))

pub kept_leaf : {e : Term} → View e → (d : ℕ) (u : Term) {slice : List ℕ} {n : ℕ}
    → Lies e slice n
    → Worded e
    → size e ≡ 1
    → (16 + d ≤ word_at slice n → 2048 ≤ word_at slice n)
    → kept (substitute d u e) ≡ word_at slice n ∷ 1 ∷ []
kept_leaf v d u l has one h = ap kept (leaf_stays v d u l has one h) ∙ kept_single v l one

-- The words of a subterm, as a part of the slice.
pub part_taken : {e : Term} {slice : List ℕ} {n m : ℕ}
    → Lies e slice n
    → m ≡ size e
    → take (2 * (n + m) - 2 * n) (drop (2 * n) slice) ≡ kept e
part_taken {e} {slice} {n} {m} l long =
    let count : 2 * (n + m) - 2 * n ≡ 2 * size e = omega (arith, long) in
    ap (λ k. take k (drop (2 * n) slice)) count ∙ lies_taken l

-- The index of a word that means a variable is below 2,032, since the words from 2,048 on mean none.
pub index_small : (w i : ℕ) → a_variable i ≡ meaning w → i < 2032
index_small w i m = omega (arith, never, variable_index w i m)
  where
    no_name : (j : ℕ) → a_variable i ≡ a_name j → ⊥
    no_name j e = absurd (true≢false (cc e))

    on : 2048 ≤ w → Dec (2080 ≤ w) → ⊥
    on h (yes l) = absurd (true≢false (cc (m ∙ beyond w l)))
    on h (no l) = no_name (w - 2048) (m ∙ named w h (omega arith))

    never : 2048 ≤ w → ⊥
    never h = on h (dec_le 2080 w)

-- A word that means no variable is below 16 or from 2,048 on, since those between are variables.
no_variable : (m : Meaning) (j : ℕ) → ((i : ℕ) → m ≡ Variable i → ⊥) → meaning_of m ≡ a_variable j → ⊥
no_variable Star j f e = absurd (true≢false cc)
no_variable CastDown j f e = absurd (true≢false cc)
no_variable Application j f e = absurd (true≢false cc)
no_variable CastUp j f e = absurd (true≢false cc)
no_variable Abstraction j f e = absurd (true≢false cc)
no_variable Product j f e = absurd (true≢false cc)
no_variable Recursion j f e = absurd (true≢false cc)
no_variable (Variable i) j f e = f i refl
no_variable Nothing j f e = absurd (true≢false cc)
no_variable (Name i) j f e = absurd (true≢false cc)

pub other_word : (w : ℕ) (m : Meaning)
    → meaning_of m ≡ meaning w
    → ((i : ℕ) → m ≡ Variable i → ⊥)
    → 16 ≤ w
    → 2048 ≤ w
other_word w m is not low = omega (arith, never)
  where
    never : w < 2048 → ⊥
    never h = no_variable m (w - 16) not (is ∙ variable w low h)

-- The term at a node by what its word means.
module _ {slice : List ℕ} {n : ℕ} where
  pub is_variable : {e : Term} → View e → Lies e slice n → (i : ℕ) → a_variable i ≡ meaning (word_at slice n) → e ≡ var i
  is_variable (a-var j) l i m = ap var (omega (arith, lies_variable l, variable_index (word_at slice n) i m))
  is_variable a_star l i m = absurd (omega (arith, lies_star l, variable_index (word_at slice n) i m))
  is_variable (a_name j) l i m =
      let w = word_at slice n in
      absurd (omega (arith, lies_name l, variable_index w i m, index_small w i m))
  is_variable (one_part e) l i m = absurd (omega (arith, lies_castdown l, variable_index (word_at slice n) i m))
  is_variable (two_parts two a b) l i m =
      absurd (omega (arith, lies_word two l, (word_two two).1, variable_index (word_at slice n) i m))

-- The parts of the word at a node, which are those of the term there.
abbrev pub parts_at : List ℕ → ℕ → List ℕ
parts_at slice n = binds (meaning (word_at slice n))

module _ {slice : List ℕ} {n : ℕ} where
  variable_parts : (i : ℕ) → Lies (var i) slice n → parts_at slice n ≡ []
  variable_parts i l = ap (λ w. binds (meaning w)) (lies_variable l) ∙ no_binds (16 + i) (omega arith)

  name_parts : (i : ℕ) → Lies (name i) slice n → parts_at slice n ≡ []
  name_parts i l = ap (λ w. binds (meaning w)) (lies_name l) ∙ no_binds (2048 + i) (omega arith)

  star_parts : Lies star slice n → parts_at slice n ≡ []
  unfolding binds meaning
  star_parts l = ap (λ w. binds (meaning w)) (lies_star l)

  one_parts : {e : Term} → Lies (castdown e) slice n → parts_at slice n ≡ 0 ∷ []
  unfolding binds meaning
  one_parts l = ap (λ w. binds (meaning w)) (lies_castdown l)

  both_parts : {c : Term → Term → Term} {w k : ℕ} (two : Two c w k) {a b : Term}
      → Lies (c a b) slice n
      → parts_at slice n ≡ 0 ∷ k ∷ []
  both_parts two l = ap (λ w. binds (meaning w)) (lies_word two l) ∙ binds_two two

  pub no_parts_leaf : {e : Term} → View e → Lies e slice n → parts_at slice n ≡ [] → size e ≡ 1
  unfolding size
  no_parts_leaf (a-var i) l none = refl
  no_parts_leaf a_star l none = refl
  no_parts_leaf (a_name i) l none = refl
  no_parts_leaf (one_part e) l none = absurd (omega (arith, ap length (sym none ∙ one_parts l)))
  no_parts_leaf (two_parts two a b) l none = absurd (omega (arith, ap length (sym none ∙ both_parts two l)))

pub shape_some : (s : Shape) → (s.parts ≡ 0 → ⊥) → shape_of s ≡ [] → ⊥
shape_some s some none = omega (arith, some, length-take s.parts (0 ∷ s.bound ∷ []), ap length none)

-- `SecondPart slice n d first e a k m`: the second part of the node `e` at `n`, whose first part is `a`. It stands at `m`, under
-- `k` binders more; what is put for both is what is put for the node, behind its own two words.
pub record SecondPart (slice : List ℕ) (n d : ℕ) (first : List ℕ) (e a : Term) (k m : ℕ) : Type 0 where
  pub part : Term
  pub subject : Subject part slice m (d + k)
  pub surveyed : Surveyed part slice m first
  pub spelled : (u : Term)
      → Spelled (substitute d u e) (word_at slice n) (kept (substitute d u a) ++ kept (substitute (d + k) u part))

-- `FirstPart slice n d first e`: the first part of the node `e` at `n`; and what there is besides, by what the word tells.
pub record FirstPart (slice : List ℕ) (n d : ℕ) (first : List ℕ) (e : Term) : Type 0 where
  pub part : Term
  pub subject : Subject part slice (n + 1) d
  pub surveyed : Surveyed part slice (n + 1) first
  pub longer : (u : Term) → 2 + length (kept (substitute d u part)) ≤ length (kept (substitute d u e))
  pub alone : length (parts_at slice n) ≤ 1
      → (u : Term)
      → Spelled (substitute d u e) (word_at slice n) (kept (substitute d u part))
  pub second : (k m : ℕ)
      → m ≡ n + 1 + size part
      → parts_at slice n ≡ 0 ∷ k ∷ []
      → SecondPart slice n d first e part k m

module _ {slice : List ℕ} {n : ℕ} (d : ℕ) where
  spelled_body : (e u : Term)
      → Lies (castdown e) slice n
      → Spelled (substitute d u (castdown e)) (word_at slice n) (kept (substitute d u e))
  unfolding substitute
  spelled_body e u l = rw (lies_castdown l) (spelled_one (substitute d u e))

  spelled_both : {c : Term → Term → Term} {w k : ℕ} (two : Two c w k) (a b u : Term)
      → Lies (c a b) slice n
      → Spelled (substitute d u (c a b)) (word_at slice n) (kept (substitute d u a) ++ kept (substitute (d + k) u b))
  spelled_both {k = k} two a b u l =
      rw (lies_word two l, substitute_two two d u a b) (spelled_two two (substitute d u a) (substitute (d + k) u b))

module _ {slice : List ℕ} {n d : ℕ} {first : List ℕ} where
  pub first_part : {e : Term}
      → View e
      → Subject e slice n d
      → Surveyed e slice n first
      → (parts_at slice n ≡ [] → ⊥)
      → FirstPart slice n d first e
  first_part (a-var i) s v some = absurd (some (variable_parts i s.lies))
  first_part a_star s v some = absurd (some (star_parts s.lies))
  first_part (a_name i) s v some = absurd (some (name_parts i s.lies))
  first_part (one_part e) s v some =
      record {
        part = e;
        subject = subject_body s;
        surveyed = surveyed_body v;
        longer = λ u. omega (arith, spelled_length (spelled_body d e u s.lies));
        alone = λ _ u. spelled_body d e u s.lies;
        second = λ k m _ both. absurd (omega (arith, ap length (sym both ∙ one_parts s.lies)));
      }
  first_part (two_parts {c} {w} {k} two a b) s v some =
      record {
        part = a;
        subject = subject_first two s;
        surveyed = surveyed_first two v;
        longer = λ u.
            let both = length-append (kept (substitute d u a)) (kept (substitute (d + k) u b)) in
            omega (arith, spelled_length (spelled_both d two a b u s.lies), both);
        alone = λ few. absurd (omega (arith, few, ap length (both_parts two s.lies)));
        second = λ j m place both.
            let same : k ≡ j = ap (λ ks. get_or ks 1 0) (sym (both_parts two s.lies) ∙ both) in
            rw (place, ← same)
            record {
              part = b;
              subject = subject_second two s;
              surveyed = surveyed_second two v;
              spelled = λ u. spelled_both d two a b u s.lies;
            };
      }
