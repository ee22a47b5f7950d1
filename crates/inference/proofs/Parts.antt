-- The two parts of a node whose first part has to be of type star: once it is, the second part is a subject of inference, beside it or
-- under it; and once that is typed too, all that the node's own tests ask for is known.
use Prim.Native.Nat.{ℕ, suc, ◌+◌, ◌-◌, ◌*◌, ◌≤◌, ◌<◌}
use mathlib.Core.List.{List, ◌∷◌}
use mathlib.Core.Path.{◌≡◌, sym, ap, ◌∙◌}
use native.Mathlib.Nat.{le_refl}
use native.Mathlib.Omega.{arith}
use lib.ListN.{length, take, drop, set, length-set}
use lib.Seq.{take-take}
use Rattle.calculus.specs.Term.{Term, star, size}
use Rattle.calculus.specs.Answer.{Answer, ok}
use Rattle.calculus.specs.Words.{words, longest, Worded}
use Rattle.calculus.specs.Rules.{Context}
use Rattle.calculus.proofs.Coding.{size_positive, words_length}
use Rattle.term.specs.Kept.{kept}
use Rattle.inference.specs.Inference.{judge, Subject, star_typed}
use Rattle.inference.proofs.Nodes.{Two, two_size}
use Rattle.inference.proofs.Subjects.{behind, subject_long, subject_parts, first, second, under, replaced, still, place_first, place_second, part_words}
use Rattle.inference.proofs.Passing.{Part, starred}
use Rattle.inference.proofs.Types.{type_fits, type_worded}
use Rattle.book.specs.declared.Reader.{Reader}

-- Both parts `a` and `b` of a node at `p` are typed, the second in the context Δ; its type lies at `from`.
pub record Both (who : Reader) (book : List ℕ) (L : ℕ) (Γ Δ : Context) (p : ℕ) (a b : Term) (places : List ℕ) (depth : ℕ) (work : List ℕ) (top from n more m : ℕ) (after places' : List ℕ) : Type 0 where
  pub type : Term
  pub annotation : judge who book L Γ (suc p) a ≡ ok star
  pub body : judge who book L Δ (suc p + size a) b ≡ ok type
  pub read : n ≡ size a
  pub further : more ≡ size b
  pub long : m ≡ size type
  pub fits : size type ≤ L
  pub has_words : L ≤ longest → Worded type
  pub lies : take (2 * m) (drop (2 * from) after) ≡ kept type
  pub front : take (2 * top) after ≡ take (2 * top) work
  pub context : take depth places' ≡ take depth places
  pub wide : length places' ≡ length places

module _ {book : List ℕ} {Γ : Context} {e a : Term} {term sub places : List ℕ} {depth : ℕ} (S : Subject book Γ e term sub places depth) (who : Reader) (L : ℕ)
    {work : List ℕ} {top n m₁ : ℕ} {mid places₁ : List ℕ}
    (A : Part (star_typed who book L Γ (length term - length (behind 1 sub)) a) a places depth work top n m₁ mid places₁) where
  is_star : judge who book L Γ (length term - length (behind 1 sub)) a ≡ ok star
  is_star = (starred who book L Γ (length term - length (behind 1 sub)) a A.found).0

  pub annotation_found : judge who book L Γ (suc (length term - length sub)) a ≡ ok star
  annotation_found = rw (← place_first S) is_star

  behind_annotation : 1 + n ≡ 1 + size a
  behind_annotation = ap (λ k. 1 + k) A.read

  pub second_place : {k : ℕ} {b : Term} → Two k e a b → length term - length (behind (1 + n) sub) ≡ suc (length term - length sub) + size a
  second_place h = place_second S h (1 + n) behind_annotation

  pub annotation_words : {k : ℕ} {b : Term} → Two k e a b → take (1 + n - 1) (drop 1 sub) ≡ words a
  annotation_words h = part_words sub 1 (1 + n - 1) (first S h) (omega (arith, A.read))

  -- What noting it asks.
  pub annotation_asked : {k : ℕ} {b : Term} {out : ℕ} (at : ℕ)
      → Two k e a b
      → 2 * (at + n) ≤ out
      → (2 * (at + length (take (1 + n - 1) (drop 1 sub))) ≤ out)
      × (length (take (1 + n - 1) (drop 1 sub)) ≤ longest)
      × ((t : Term) × (take (1 + n - 1) (drop 1 sub) ≡ words t))
  annotation_asked at h room =
      let own = annotation_words h in
      let long = ap length own ∙ words_length a in
      (omega (arith, A.read), omega (arith, subject_long S, two_size h, S.within, S.short), (a, own))

  -- The words reach beyond the first part.
  pub reaches : {k : ℕ} {b : Term} → Two k e a b → (1 + n < length sub) × (length sub ≤ longest)
  reaches {b} h = omega (arith, subject_long S, two_size h, size_positive b, A.read, S.within, S.short)

  pub beside : {b : Term} → Two 0 e a b → Subject book Γ b term (behind (1 + n) sub) places₁ depth
  beside h = second (replaced S A.context A.wide) (1 + n) h behind_annotation

  -- Both parts, once the second is typed too, in its own context and from a place that is not before `top`.
  both : {k : ℕ} {Δ : Context} {b : Term} {places₂ : List ℕ} {depth₂ from more m : ℕ} {after places' : List ℕ}
      → Two k e a b
      → Subject book Δ b term (behind (1 + n) sub) places₂ depth₂
      → Part (judge who book L Δ (length term - length (behind (1 + n) sub)) b) b places₂ depth₂ mid from more m after places'
      → top ≤ from
      → take depth places' ≡ take depth places
      → length places' ≡ length places
      → Both who book L Γ Δ (length term - length sub) a b places depth work top from n more m after places'
  both {from} {after} h S₂ B t context wide =
      record {
        type = B.type;
        annotation = annotation_found;
        body = rw (← second_place h) B.found;
        read = A.read;
        further = B.read;
        long = B.long;
        fits = type_fits S₂ who L _ B.found;
        has_words = type_worded S₂ who L _ B.found;
        lies = B.lies;
        front =
            sym (take-take (2 * top) (2 * from) after (omega arith))
            ∙ ap (take (2 * top)) B.front
            ∙ take-take (2 * top) (2 * from) mid (omega arith)
            ∙ A.front;
        context = context;
        wide = wide;
      }

  pub both_beside : {b : Term} {more m : ℕ} {after places' : List ℕ}
      → Two 0 e a b
      → Part (judge who book L Γ (length term - length (behind (1 + n) sub)) b) b places₁ depth mid top more m after places'
      → Both who book L Γ Γ (length term - length sub) a b places depth work top top n more m after places'
  both_beside h B = both h (beside h) B (le_refl top) (B.context ∙ A.context) (B.wide ∙ A.wide)

  pub below : {b : Term} (place : ℕ)
      → Two 1 e a b
      → place ≡ length term - length sub + 1
      → Subject book (a ∷ Γ) b term (behind (1 + n) sub) (set places₁ depth place) (depth + 1)
  below place h x =
      under (replaced S A.context A.wide) (1 + n) place h behind_annotation x

  -- The places, once the part below is done.
  module _ {x : Answer Term} {b : Term} (place : ℕ) {work₂ : List ℕ} {top₂ k l : ℕ} {after₂ places' : List ℕ}
      (B : Part x b (set places₁ depth place) (depth + 1) work₂ top₂ k l after₂ places') where
    pub below_context : take depth places' ≡ take depth places
    below_context = still depth place places places₁ places' A.context B.context

    pub below_wide : length places' ≡ length places
    below_wide = B.wide ∙ length-set places₁ depth place ∙ A.wide

  pub both_below : {b : Term} {from more m : ℕ} {after places' : List ℕ} (place : ℕ)
      → Two 1 e a b
      → place ≡ length term - length sub + 1
      → top ≤ from
      → Part (judge who book L (a ∷ Γ) (length term - length (behind (1 + n) sub)) b) b (set places₁ depth place) (depth + 1) mid from more m after places'
      → Both who book L Γ (a ∷ Γ) (length term - length sub) a b places depth work top from n more m after places'
  both_below place h x t B = both h (below place h x) B t (below_context place B) (below_wide place B)

-- The words reach to the end of the second part.
pub both_reach : {who : Reader} {book : List ℕ} {L : ℕ} {Γ Δ : Context} {p : ℕ} {e a b : Term} {term sub places : List ℕ} {depth k : ℕ} {work : List ℕ} {top from n more m : ℕ} {after places' : List ℕ}
    → Subject book Γ e term sub places depth
    → Two k e a b
    → Both who book L Γ Δ p a b places depth work top from n more m after places'
    → (1 + n + more ≤ length sub) × (length sub ≤ longest)
both_reach S h B = omega (arith, subject_parts S h, B.read, B.further, S.within, S.short)
