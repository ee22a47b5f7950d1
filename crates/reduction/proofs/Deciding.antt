-- The redex as the code finds it. Of the two words that decide, the code knows their variants; these tell the kinds of the words, by
-- which the redex is decided. Where the first is a name, the book tells whether its reader sees what stands for it.
use Prim.Native.Nat.{ℕ, zero, suc, pred, ◌+◌, ◌*◌, ◌-◌, ◌<◌}
use mathlib.Core.Bool.{Bool, true, false, cond}
use mathlib.Core.List.{List, []}
use mathlib.Core.Option.{some}
use Rattle.std.specs.Prelude.{Result, Ok}
use mathlib.Core.Path.{◌≡◌, refl, sym, ap, ap₂, ◌∙◌, subst}
use native.Mathlib.Numerals.{sub-one}
use native.Mathlib.Omega.{arith}
use lib.ListN.{length, get_or}
use Rattle.calculus.specs.Term.{Term}
use Rattle.calculus.specs.Book.{Definition, Book, View, entry}
use Rattle.term.specs.Kept.{kept, word_at}
use Rattle.calculus.specs.Meaning as calculus
use Rattle.calculus.specs.Meaning.{meaning}
use Rattle.term.proofs.Keeping.{spelled}
use Rattle.term.specs.declared.word.Meaning.{Meaning}
use Rattle.term.specs.declared.word.Meaning.TheVariants as word
use Rattle.term.specs.Word.{meaning_of}
use Rattle.book.specs.Layout.{Defines, Holds, shows, sight}
use Rattle.book.specs.declared.Reader.{Reader}
use Rattle.book.proofs.Entries.{entry_of, sight_shown, sight_hidden}
use Rattle.reduction.specs.declared.stepping.Redex.{Redex}
use Rattle.reduction.specs.declared.stepping.Redex.TheVariants.{Name}
use Rattle.reduction.specs.declared.stepping.Rest.{Rest}
use Rattle.reduction.specs.Stepping.{Keeps, locate, heads}
use Rattle.reduction.proofs.WordKinds.{index, kind, variant_kind, kind_by}
use Rattle.reduction.proofs.Heads.{stuck, stands, visible, outermost, framed, decide, decided, leader}
use Rattle.reduction.proofs.Heads.{name_decide, located, leader_named, heads_inside, word_spelled}

pub heads_within : {ws : List ℕ} {at : ℕ} (t : Term) → ws ≡ kept t → at ≡ heads ws → 2 * at + 1 < length ws
unfolding kept
heads_within t coded counted = rw (counted, coded) (heads_inside t [])

by_place : (v : View) (at : ℕ) (m : calculus.Meaning) (p : ℕ) {r : Result Redex Rest}
    → (at ≡ 0 → get_or (outermost (visible v m)) (index m) stuck ≡ r)
    → ((at ≡ 0 → ⊥) → get_or (framed (visible v m) at (at - 1) p) (index m) stuck ≡ r)
    → decide v at m p ≡ r
by_place v zero m p root inner = root refl
by_place v (suc n) m p root inner =
    ap (λ b. get_or (framed (visible v m) (suc n) b p) (index m) stuck) (sym (sub-one (suc n))) ∙ inner λ z. omega arith

-- What is seen of a name of the book, by whether its definition is shown.
name_seen : (who : Reader) (B : Book) (i : ℕ) {book : List ℕ} (shown : Bool)
    → Holds B book
    → i < length B
    → ((d : Definition) → Defines d i book → shown ≡ shows who d)
    → stands (sight who B i) ≡ shown
name_seen who B i shown held within told =
    let (d, e) = entry_of B i within in
    on d e shown (told d (held.each i d e))
  where
    on : (d : Definition) → entry B i ≡ some d → (b : Bool) → b ≡ shows who d → stands (sight who B i) ≡ b
    on d e true h = ap stands (sight_shown who B i d e (sym h))
    on d e false h = ap stands (sight_hidden who B i d e (sym h))

-- The word of the node `at`, behind the leading down casts and applications, means `m`; a reader of a book asks.
pub record Decides (who : Reader) (ws : List ℕ) (at : ℕ) (m : Meaning) : Type 0 where
  pub counted : at ≡ heads ws
  pub known : meaning_of m ≡ meaning (word_at ws at)

module _ {who : Reader} {ws : List ℕ} {at : ℕ} {m : Meaning} (d : Decides who ws at m) where
  module _ (t : Term) (coded : ws ≡ kept t) where
    within : 2 * at + 1 < length ws
    within = heads_within t coded d.counted

    leads : word_at ws at ≡ leader (kept t)
    leads =
        sym (word_spelled ws at within)
        ∙ ap (λ n. get_or (spelled ws) n 0) d.counted
        ∙ ap leader coded

    same : (v : View) → decide v at (meaning (word_at ws at)) (kind (word_at ws (at - 1))) ≡ decided v (kept t)
    same v =
        ap₂ (λ j k. decide v at (meaning j) (kind k))
        (sym (word_spelled ws at within))
        (sym (word_spelled ws (at - 1) (omega (arith, within))) ∙ ap (λ n. get_or (spelled ws) n 0) (sub-one at))
        ∙ ap (λ n. decide v n (meaning (get_or (spelled ws) n 0)) (kind (get_or (spelled ws) (pred n) 0))) d.counted
        ∙ ap (decided v) coded

  module _ {book : List ℕ} (B : Book) (t : Term) (held : Holds B book) (k : Keeps B t ws) where
    decides_it : (v : View) → decide v at (meaning (word_at ws at)) (kind (word_at ws (at - 1))) ≡ locate v t
    unfolding kept
    decides_it v = same t k.coded v ∙ sym (located (length B) held.few v t [] k.has_words k.named)

    -- A name is one of the book.
    name_within : {i : ℕ} → m ≡ word.Name i → i < length B
    unfolding kept
    name_within {i} told =
        leader_named (length B) held.few t [] i k.has_words k.named
        (ap meaning (sym (leads t k.coded)) ∙ sym d.known ∙ ap meaning_of told)

    pub name_defined : {i number : ℕ} → m ≡ word.Name i → number ≡ i → (c : Definition) × Defines c number book
    name_defined {i} {number} told same_number =
        let (c, e) = entry_of B i (name_within told) in
        (c, subst (λ n. Defines c n book) (sym same_number) (held.each i c e))

  pub found_name : {book : List ℕ} {i number : ℕ} (shown : Bool)
      → m ≡ word.Name i
      → number ≡ i
      → ((c : Definition) → Defines c number book → shown ≡ shows who c)
      → (B : Book) (t : Term)
      → Holds B book
      → Keeps B t ws
      → cond shown (Ok (Name at)) stuck ≡ locate (sight who B) t
  found_name {book} {i} shown told same_number seen B t held k =
      let seen_of_it : (c : Definition) → Defines c i book → shown ≡ shows who c =
      λ c h. seen c (subst (λ n. Defines c n book) (sym same_number) h) in
      ap (λ b. cond b (Ok (Name at)) stuck) (sym (name_seen who B i shown held (name_within B t held k told) seen_of_it))
      ∙ sym (name_decide (sight who B) at i (kind (word_at ws (at - 1))))
      ∙ ap (λ n. decide (sight who B) at n (kind (word_at ws (at - 1)))) (ap meaning_of (sym told) ∙ d.known)
      ∙ decides_it B t held k (sight who B)

  -- By the variant that the word's meaning is, for either place.
  pub found : {book : List ℕ} {r : Result Redex Rest}
      → (at ≡ 0 → (s : Bool) → get_or (outermost s) (variant_kind m) stuck ≡ r)
      → ((at ≡ 0 → ⊥) → (s : Bool) → get_or (framed s at (at - 1) (kind (word_at ws (at - 1)))) (variant_kind m) stuck ≡ r)
      → (B : Book) (t : Term)
      → Holds B book
      → Keeps B t ws
      → r ≡ locate (sight who B) t
  unfolding kind
  found {r = r} root inner B t held k = sym (by_place v at w p at_root at_inner) ∙ decides_it B t held k v
    where
      v : View
      v = sight who B

      w : calculus.Meaning
      w = meaning (word_at ws at)

      p : ℕ
      p = kind (word_at ws (at - 1))

      at_root : at ≡ 0 → get_or (outermost (visible v w)) (index w) stuck ≡ r
      at_root z =
          kind_by (λ k. get_or (outermost (visible v w)) k stuck ≡ r) m (word_at ws at) d.known (root z (visible v w))

      at_inner : (at ≡ 0 → ⊥) → get_or (framed (visible v w) at (at - 1) p) (index w) stuck ≡ r
      at_inner n =
          kind_by (λ k. get_or (framed (visible v w) at (at - 1) p) k stuck ≡ r) m (word_at ws at) d.known (inner n (visible v w))

  -- The same behind frames, where the word before is known too.
  pub found_framed : {book : List ℕ} {r : Result Redex Rest} (before : Meaning)
      → meaning_of before ≡ meaning (word_at ws (at - 1))
      → (at ≡ 0 → ⊥)
      → ((s : Bool) → get_or (framed s at (at - 1) (variant_kind before)) (variant_kind m) stuck ≡ r)
      → (B : Book) (t : Term)
      → Holds B book
      → Keeps B t ws
      → r ≡ locate (sight who B) t
  found_framed {r = r} before known-before framing each =
      let P : Bool → ℕ → Type 0 = λ s p. get_or (framed s at (at - 1) p) (variant_kind m) stuck ≡ r in
      found (λ root. absurd (framing root)) (λ _ s. kind_by (P s) before (word_at ws (at - 1)) known-before (each s))
