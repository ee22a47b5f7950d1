-- What `held` holds. A kept term that is copied to its front, or noted there, is cut out again by its length; and where a
-- codomain was copied to the front and the argument noted from node 1,024 on, both lie there, since the codomain ends before that
-- node.
use Prim.Native.Nat.{ℕ, ◌+◌, ◌-◌, ◌*◌, ◌≤◌}
use mathlib.Core.Bool.{Bool}
use mathlib.Core.List.{List}
use mathlib.Core.Path.{◌≡◌, sym, ap, ◌∙◌}
use native.Mathlib.Omega.{arith}
use lib.ListN.{length, take, drop}
use lib.Seq.{sets, length-sets}
use Rattle.calculus.specs.Term.{Term, size}
use Rattle.calculus.specs.Words.{words, longest, Worded, deepest}
use Rattle.calculus.proofs.Coding.{words_length, worded}
use Rattle.calculus.proofs.Scoping.{scoped_more}
use Rattle.term.specs.Kept.{kept, Lies}
use Rattle.term.proofs.Keeping.{kept_length, lies_taken, lies_one}
use Rattle.std.specs.Prelude.{Option}
use Rattle.kept.specs.Writing.{Writes}
use Rattle.kept.specs.Rewriting.{Argument, Subject}
use Rattle.inference.specs.Moving.{CodesWithin, Coded, Codomain, HeldPair, HeldWithin}
use Rattle.inference.proofs.KeptTypes.{cut_lies, cut_size, written, lies_still}
use Rattle.book.specs.Layout.{Holds, decode}
use Rattle.reduction.specs.Stepping as over

-- A kept term copied to the front.
pub copied : {e out after : List ℕ} {r : Option ℕ} (t : Term)
    → Writes e out 0 r after
    → e ≡ kept t
    → 2 * size t ≤ length out
    → after ≡ sets out 0 (kept t)
copied t w x h = rw x at (w.fits (rw x (omega (arith, kept_length t)))).1

-- A term that was written to the front is cut out by its length.
pub front_cut : (held : List ℕ) {after : List ℕ} (t : Term) (count : ℕ)
    → after ≡ sets held 0 (kept t)
    → 2 * size t ≤ length held
    → count ≡ size t
    → take (2 * count) after ≡ kept t
front_cut held {after} t count x room long = ap (λ n. take (2 * n) after) long ∙ written held 0 t x (omega arith)

-- The words of a term are as many as it has nodes.
pub codes_size : {ws : List ℕ} {closed : Bool} (A : Coded ws closed) → length ws ≡ size A.term
codes_size A = ap length A.coded ∙ words_length A.term

-- The caller's own words, noted, are what a step asks for.
pub noted_within : {book ws slice : List ℕ} {closed : Bool} (A : CodesWithin book ws closed)
    → slice ≡ kept A.codes.term
    → HeldWithin book slice closed
noted_within A x =
    let C = A.codes in
    record { term = C.term; coded = x; short = C.short; scoped = C.scoped; named = A.named; shut = C.shut }

-- And that is what a step asks for.
pub held_over : {slice book : List ℕ} {closed : Bool} → Holds (decode book) book → HeldWithin book slice closed → over.HeldWithin book slice closed
held_over {book = book} h H =
    record {
      lent = decode book;
      holds = h;
      term = H.term;
      keeps =
          record {
            coded = H.coded;
            has_words = worded deepest H.term H.scoped (omega (arith, H.short));
            named = H.named;
          };
      short = H.short;
      scoped = H.scoped;
      shut = H.shut;
    }

-- So many nodes of the working slice, copied to the front, are cut out again.
pub copied_cut : (work held : List ℕ) (from count : ℕ) {after : List ℕ} {r : Option ℕ}
    → 2 * (from + count) ≤ length work
    → count ≤ longest
    → length held ≡ 4096
    → Writes (take (2 * (from + count) - 2 * from) (drop (2 * from) work)) held 0 r after
    → (t : Term)
    → take (2 * count) (drop (2 * from) work) ≡ kept t
    → take (2 * count) after ≡ kept t
copied_cut work held from count inside few room w t x =
    let long = cut_size t work from count inside x in
    let many : 2 * (from + count) - 2 * from ≡ 2 * count = omega arith in
    let own = ap (λ k. take k (drop (2 * from) work)) many ∙ x in
    front_cut held t count (copied t w own (omega arith)) (omega arith) long

-- A codomain is copied to the front, and then the argument is noted.
module _ {work held copy : List ℕ} {from to : ℕ} {r : Option ℕ} (room : length held ≡ 4096) (C : Codomain work from to)
    (w : Writes (take (2 * to - 2 * from) (drop (2 * from) work)) held 0 r copy) where
  front : (b : Term) → take (2 * size b) (drop (2 * from) work) ≡ kept b → to ≡ from + size b → copy ≡ sets held 0 (kept b)
  front b x long =
      let many : 2 * to - 2 * from ≡ 2 * size b = omega arith in
      copied b w (ap (λ k. take k (drop (2 * from) work)) many ∙ x) (omega (arith, C.extent, C.short))

  pub copy_long : length copy ≡ 4096
  copy_long = ap length (front C.term C.coded C.extent) ∙ length-sets held 0 (kept C.term) ∙ room

  module _ {argument noted : List ℕ} {closed : Bool} (A : Coded argument closed)
      (n : (u : Term) → argument ≡ words u → noted ≡ sets copy 2048 (kept u)) where
    -- The codomain stays where it is when the argument is noted.
    pub codomain_held : (b : Term) → take (2 * size b) (drop (2 * from) work) ≡ kept b → to ≡ from + size b → Lies b noted 0
    codomain_held b x long =
        let few : size b ≤ longest = omega (arith, C.extent, C.short) in
        let cut = written held 0 b (front b x long) (omega arith) in
        cut_lies b noted 0 (lies_still copy 0 (size b) 1024 (kept A.term) (omega arith) (n A.term A.coded) cut)

    pub argument_held : (u : Term) → argument ≡ words u → Lies u noted longest
    argument_held u x =
        let long : size u ≡ size A.term = sym (words_length u) ∙ ap length (sym x ∙ A.coded) ∙ words_length A.term in
        cut_lies u noted 1024 (written copy 1024 u (n u x) (omega (arith, copy_long, A.short)))

    pub pair_held : HeldPair noted (length argument) closed
    pair_held =
        record {
          codomain = C.term;
          argument = A.term;
          front = codomain_held C.term C.coded C.extent;
          back = argument_held A.term A.coded;
          extent = codes_size A;
          short = (C.short, A.short);
          scoped = (C.scoped, A.scoped);
          shut = A.shut;
        }

-- What substitution asks of the two that are held.
module _ {held : List ℕ} {count : ℕ} {closed : Bool} (H : HeldPair held count closed) where
  pub body_subject : Subject H.codomain held 0 0
  body_subject =
      record {
        lies = H.front;
        scoped = scoped_more H.codomain (omega arith) H.scoped.0;
        near = omega (arith, H.short.0);
      }

  pub codomain_worded : Worded H.codomain
  codomain_worded = worded deepest H.codomain H.scoped.0 (omega (arith, H.short.0))

  pub argument_worded : Worded H.argument
  argument_worded = worded deepest H.argument H.scoped.1 (omega (arith, H.short.1))

  pub argument_cut : (n : ℕ) → n ≡ 2 * count → (u : Term) → Lies u held longest → Worded u → take n (drop 2048 held) ≡ kept u
  argument_cut n many u l has =
      let same : n ≡ 2 * size u = omega (arith, H.extent, ap size (lies_one has argument_worded l H.back)) in
      ap (λ k. take k (drop 2048 held)) same ∙ lies_taken l

  pub argument_asked : (n : ℕ) → n ≡ 2 * count → Argument H.argument (take n (drop 2048 held)) closed
  argument_asked n many =
      record {
        coded = argument_cut n many H.argument H.back argument_worded;
        fits = record { short = H.short.1; scoped = H.scoped.1 };
        shut = H.shut;
      }
