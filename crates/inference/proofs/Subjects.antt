-- The parts of a subterm are subjects of inference themselves: the words behind a node's first word begin with its first part, and
-- those behind that with its second; a part's place is the node's and the words before the part; places that are written from `depth`
-- on change nothing for the annotations around.
use Prim.Native.Nat.{ℕ, suc, ◌+◌, ◌-◌, ◌≤◌}
use mathlib.Core.List.{List, [], ◌∷◌}
use mathlib.Core.Path.{◌≡◌, sym, ap, subst, ◌∙◌}
use native.Mathlib.Nat.{le_refl}
use native.Mathlib.Numerals.{add-one}
use native.Mathlib.Omega.{arith}
use lib.ListN.{length, take, drop, get_or, set, length-drop, length-set}
use lib.Seq.{take_at, drop_at, drop-drop, take-take, take-set-le, get_or-take, get_or-set_same}
use Rattle.calculus.specs.Term.{Term, castdown, size}
use Rattle.calculus.specs.Words.{emit, words, levels, Scoped, Named, longest, deepest}
use Rattle.calculus.specs.Rules.{Context}
use Rattle.calculus.specs.Infer.{FittedContext}
use Rattle.book.specs.Layout.{entries}
use Rattle.calculus.proofs.Coding.{emit_append, emit_length, words_length, size_positive}
use Rattle.term.proofs.Finding.{from_on}
use Rattle.inference.specs.Inference.{Subject, Placed}
use Rattle.inference.proofs.Nodes.{Two, two_size, two_levels, two_emit, first_scoped, second_scoped, under_scoped, parts_named}

-- The words from the `k`th on, as the code takes them.
abbrev pub behind : ℕ → List ℕ → List ℕ
behind k ws = take (length ws - k) (drop k ws)

pub behind_length : (k : ℕ) (ws : List ℕ) → length (behind k ws) ≡ length ws - k
behind_length k ws = ap length (from_on ws k) ∙ length-drop k ws

-- The words that begin with a term's: as many as it is long are its own.
pub begun_words : (e : Term) (n : ℕ) (rest : List ℕ) {ws : List ℕ} → ws ≡ emit e rest → n ≡ size e → take n ws ≡ words e
begun_words e n rest x long = ap (take n) (x ∙ emit_append e rest) ∙ take_at (words e) rest n (words_length e ∙ sym long)

-- Only the places below `depth` matter.
placed_kept : (term : List ℕ) (Γ : Context) (places places' : List ℕ) (depth : ℕ)
    → length Γ ≤ depth
    → take depth places' ≡ take depth places
    → Placed term Γ places
    → Placed term Γ places'
unfolding Placed
placed_kept term [] places places' depth h x p = tt
placed_kept term (a ∷ Γ) places places' depth h x p =
    ((p.0.0, rw same p.0.1), rw same p.1, placed_kept term Γ places places' depth (omega arith) x p.2)
  where
    same : get_or places' (length Γ) 0 ≡ get_or places (length Γ) 0
    same =
        sym (get_or-take depth places' (length Γ) 0 h)
        ∙ ap (λ ps. get_or ps (length Γ) 0) x
        ∙ get_or-take depth places (length Γ) 0 h

-- The places below `depth`, after one was written at `depth` and others from `depth` + 1 on.
pub still : (depth place : ℕ) (places before after : List ℕ)
    → take depth before ≡ take depth places
    → take (depth + 1) after ≡ take (depth + 1) (set before depth place)
    → take depth after ≡ take depth places
still depth place places before after x y =
    sym (take-take depth (depth + 1) after (omega arith))
    ∙ ap (take depth) y
    ∙ take-take depth (depth + 1) (set before depth place) (omega arith)
    ∙ take-set-le depth before depth place (le_refl depth)
    ∙ x

module _ {book : List ℕ} {Γ : Context} {e : Term} {term sub places : List ℕ} {depth : ℕ} (S : Subject book Γ e term sub places depth) where
  pub subject_long : size e ≤ length sub
  subject_long = omega (arith, ap length S.begins, emit_length e S.rest)

  pub subject_some : 1 ≤ length sub
  subject_some = omega (arith, subject_long, size_positive e)

  -- The place behind the first word is one of the longest term's.
  pub place_short : length term - length sub + 1 ≤ longest
  place_short = omega (arith, subject_some, S.within, S.short)

  -- Where the words from the `k`th on stand.
  further : (k : ℕ) → k ≤ length sub → length term - length (behind k sub) ≡ (length term - length sub) + k
  further k h = omega (arith, behind_length k sub, S.within)

  -- A subject among the words from the `k`th on.
  at_end : {Γ' : Context} {a : Term} {places' : List ℕ} {depth' : ℕ} (k : ℕ) (r : List ℕ)
      → k ≤ length sub
      → drop k sub ≡ emit a r
      → depth' ≡ length Γ'
      → length places' ≡ deepest
      → Placed term Γ' places'
      → FittedContext (entries book) Γ'
      → Scoped depth' a
      → Named (entries book) a
      → depth' + levels a ≤ deepest
      → Subject book Γ' a term (behind k sub) places' depth'
  at_end k r h x d v p w s n l =
      record {
        rest = r;
        begins = from_on sub k ∙ x;
        ends =
            from_on sub k
            ∙ ap (drop k) S.ends
            ∙ drop-drop k (length term - length sub) term
            ∙ ap (λ n. drop n term) (sym (further k h));
        within = omega (arith, behind_length k sub, S.within);
        short = S.short;
        around = d;
        wide = v;
        placed = p;
        holds = S.holds;
        fitted = w;
        scoped = s;
        named = n;
        deep = l;
      }

  -- The same, with places that are the same below `depth`.
  pub replaced : {places' : List ℕ}
      → take depth places' ≡ take depth places
      → length places' ≡ length places
      → Subject book Γ e term sub places' depth
  replaced {places'} x l =
      record {
        rest = S.rest;
        begins = S.begins;
        ends = S.ends;
        within = S.within;
        short = S.short;
        around = S.around;
        wide = l ∙ S.wide;
        placed = placed_kept term Γ places places' depth (omega (arith, S.around)) x S.placed;
        holds = S.holds;
        fitted = S.fitted;
        scoped = S.scoped;
        named = S.named;
        deep = S.deep;
      }

  -- What stands behind the first word and behind the first part.
  module _ {k : ℕ} {a b : Term} (h : Two k e a b) where
    first_words : drop 1 sub ≡ emit a (emit b S.rest)
    first_words = ap (drop 1) S.begins ∙ two_emit h S.rest

    second_words : drop (1 + size a) sub ≡ emit b S.rest
    second_words =
        sym (drop-drop (size a) 1 sub)
        ∙ ap (drop (size a)) (first_words ∙ emit_append a (emit b S.rest))
        ∙ drop_at (words a) (emit b S.rest) (size a) (words_length a)

    pub subject_parts : suc (size a + size b) ≤ length sub
    subject_parts = omega (arith, subject_long, two_size h)

    pub first : Subject book Γ a term (behind 1 sub) places depth
    first =
        at_end 1 (emit b S.rest) (omega (arith, subject_long, two_size h)) first_words S.around S.wide S.placed
        S.fitted (first_scoped h depth S.scoped) (parts_named h _ S.named).0 (omega (arith, two_levels h, S.deep))

    pub place_second : (from : ℕ) → from ≡ 1 + size a → length term - length (behind from sub) ≡ suc (length term - length sub) + size a
    place_second from x = omega (arith, further from (omega (arith, subject_long, two_size h)))

  pub place_first : length term - length (behind 1 sub) ≡ suc (length term - length sub)
  place_first = omega (arith, further 1 subject_some)

-- The body of a down cast.
pub inside : {book : List ℕ} {Γ : Context} {e : Term} {term sub places : List ℕ} {depth : ℕ}
    → Subject book Γ (castdown e) term sub places depth
    → Subject book Γ e term (behind 1 sub) places depth
unfolding emit levels Scoped Named
inside S =
    at_end S 1 S.rest (subject_some S) (ap (drop 1) S.begins) S.around S.wide S.placed S.fitted S.scoped
    S.named (omega (arith, S.deep))

module _ {book : List ℕ} {Γ : Context} {e a b : Term} {term sub places : List ℕ} {depth : ℕ} (S : Subject book Γ e term sub places depth) where
  pub second : (from : ℕ) → Two 0 e a b → from ≡ 1 + size a → Subject book Γ b term (behind from sub) places depth
  second from h x =
      at_end S from S.rest (omega (arith, subject_long S, two_size h)) (ap (λ n. drop n sub) x ∙ second_words S h) S.around
      S.wide S.placed S.fitted (second_scoped h depth S.scoped) (parts_named h _ S.named).1 (omega (arith, two_levels h, S.deep))

  -- The same under the first part, whose place is written.
  pub under : (from place : ℕ)
      → Two 1 e a b
      → from ≡ 1 + size a
      → place ≡ length term - length sub + 1
      → Subject book (a ∷ Γ) b term (behind from sub) (set places depth place) (depth + 1)
  unfolding Placed FittedContext
  under from place h x y =
      at_end S from S.rest (omega (arith, subject_long S, two_size h)) (ap (λ n. drop n sub) x ∙ second_words S h)
      (omega (arith, S.around)) (length-set places depth place ∙ S.wide)
      ((emit b S.rest, ap (λ n. drop n term) at_place ∙ begins), omega (arith, at_place, subject_long S, two_size h, S.within), others)
      ((own_first, (parts_named h _ S.named).0), S.fitted) (rw add-one (under_scoped h depth S.scoped)) (parts_named h _ S.named).1 (omega (arith, two_levels h, S.deep))
    where
      at_place : get_or (set places depth place) (length Γ) 0 ≡ length term - length sub + 1
      at_place = ap (λ n. get_or (set places depth place) n 0) (sym S.around) ∙ get_or-set_same places depth place 0 (omega (arith, two_levels h, S.deep, S.wide)) ∙ y

      begins : drop (length term - length sub + 1) term ≡ emit a (emit b S.rest)
      begins = sym (drop-drop 1 (length term - length sub) term) ∙ ap (drop 1) (sym S.ends) ∙ first_words S h

      own_first : Scoped (length Γ) a
      own_first = subst (λ n. Scoped n a) S.around (first_scoped h depth S.scoped)

      others : Placed term Γ (set places depth place)
      others =
          placed_kept term Γ places (set places depth place) depth (omega (arith, S.around))
          (take-set-le depth places depth place (le_refl depth)) S.placed

-- A part's own words.
pub part_words : {book : List ℕ} {Γ : Context} {e : Term} {term places : List ℕ} {depth : ℕ} (sub : List ℕ) (from n : ℕ)
    → Subject book Γ e term (behind from sub) places depth
    → n ≡ size e
    → take n (drop from sub) ≡ words e
part_words {e = e} sub from n S x = begun_words e n S.rest (sym (from_on sub from) ∙ S.begins) x

-- A subject by another name.
pub renamed : {book : List ℕ} {Γ : Context} {e e' : Term} {term sub places : List ℕ} {depth : ℕ}
    → Subject book Γ e term sub places depth
    → e ≡ e'
    → Subject book Γ e' term sub places depth
renamed {book} {Γ} {term = term} {sub} {places} {depth} S x = subst (λ d. Subject book Γ d term sub places depth) x S
