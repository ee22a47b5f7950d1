-- What a check answers at each way out, as the demand on checks states it. Past the tests of the call and of reading, the words are
-- those of a closed term, which inference takes as a subject with no context. Whatever inference left in the working slice is cleared,
-- and the type that it found is what the output then begins with.
use Prim.Native.Nat.{ℕ, suc, ◌-◌, ◌*◌, ◌≤◌}
use mathlib.Core.Bool.{true≢false}
use mathlib.Core.List.{List, [], ◌++◌}
use mathlib.Core.Path.{◌≡◌, refl, sym, ap, ◌∙◌, subst}
use native.Mathlib.Nat.{le_refl, mul-le-mul_right}
use native.Mathlib.Omega.{arith}
use lib.ListN.{length, take, drop, length-append}
use lib.Seq.{drop_at, take-append-le, length-take-le}
use Rattle.calculus.specs.Term.{Term, size}
use Rattle.calculus.specs.Answer.{Answer, ok, refused}
use Rattle.calculus.specs.Words.{words, levels, Readable, deepest}
use Rattle.calculus.specs.Scan.{read}
use Rattle.calculus.specs.Book.{types, seen}
use Rattle.calculus.specs.Step.{step}
use Rattle.calculus.specs.Infer.{infer, FittedContext}
use Rattle.calculus.specs.Outcomes.{check_room, begun, cleared, check}
use Rattle.calculus.specs.Checks.{Allowed, Checks, unread}
use Rattle.calculus.proofs.Coding.{words_length}
use Rattle.calculus.proofs.ReadBack.{refused_misread}
use Rattle.calculus.proofs.CheckDemand.{check_answer, typed_answer, refused_answer}
use Rattle.term.specs.Reasons.{reason_of}
use Rattle.term.specs.Subterms.{outcome}
use Rattle.term.specs.declared.refusal.Refusal.{Refusal}
use Rattle.term.proofs.Walking.{reads_refusal}
use Rattle.term.specs.Kept.{kept}
use Rattle.book.specs.declared.Reader.TheVariants as reader
use Rattle.book.specs.Layout.{decode, definitions}
use Rattle.book.proofs.Entries.{holds_nothing}
use Rattle.kept.proofs.Begun.{cleared_same}
use Rattle.std.specs.Prelude.{Result, Ok, Err}
use Rattle.std.specs.Result.{MatchResult, IsErrAnd, IsOkAnd}
use Rattle.std.proofs.lemmas.Result.{err_from_is_err_and}
use Rattle.inference.specs.declared.Typed.{Typed}
use Rattle.inference.specs.Moving.{next_of}
use Rattle.inference.specs.Inference.{judge, Subject, Placed, Roomy, Infers, finds, refuses, inferred_of}
use Rattle.typing.specs.Outcomes.{checked_of}
use Rattle.inference.proofs.Scoping.{inferred_fits}
use Rattle.inference.proofs.Passing as passing

-- A refusal that leaves the slices as they were.
pub refused_out : {ws : List ℕ} {L : ℕ} {W O : List ℕ} {r : Result ℕ Refusal} {f : Refusal}
    → r ≡ Err f
    → Checks [] 0 ws L W O (record { answer = refused (reason_of f.reason) f.place; work = W; output = O })
    → checked_of r W O ≡ check ws L W O
refused_out {ws} {L} {W} {O} q d = ap (λ r. checked_of r W O) q ∙ sym (check_answer [] 0 ws L W O d)

-- The limit is allowed, and the slices are long enough.
pub record Admitted (L : ℕ) (W O : List ℕ) : Type 0 where
  pub allowed : Allowed L
  pub room : check_room L ≤ length W
  pub out : L ≤ length O

-- Reading refuses.
pub unread_out : (ws : List ℕ) {L : ℕ} {W O : List ℕ} (f : Refusal) (r : Result ℕ Refusal)
    → Admitted L W O
    → refused (reason_of f.reason) f.place ≡ outcome (read ws)
    → IsErrAnd r (λ g. g ≡ f)
    → checked_of r W O ≡ check ws L W O
unread_out ws f r A e q =
    let p = err_from_is_err_and r q in
    refused_out {f = f} (p.1 ∙ ap Err p.2) (unread A.allowed A.room A.out (refused_misread ws _ _ (reads_refusal ws (sym e))))

module _ {ws : List ℕ} {L : ℕ} {W O : List ℕ} {t : Term} (A : Admitted L W O) (coded : ws ≡ words t) (readable : Readable 0 t) where
  pub whole : (places : List ℕ) → length places ≡ deepest → Subject [] [] t ws ws places 0
  unfolding words Placed FittedContext decode definitions
  whole places enough =
      let none : length ws - length ws ≡ 0 = omega arith in
      record {
        rest = [];
        begins = coded;
        ends = rw none refl;
        within = omega arith;
        short = omega (arith, ap length coded, words_length t, readable.short);
        around = refl;
        placed = tt;
        wide = enough;
        holds = holds_nothing [];
        fitted = tt;
        scoped = readable.closed;
        named = readable.named;
        deep = omega (arith, readable.shallow);
      }

  pub roomy : Roomy t (take (check_room L) W) 0 L
  roomy =
      record {
        some = A.allowed.0;
        allowed = A.allowed.1;
        room =
            let few : suc (levels t) ≤ 512 = omega (arith, readable.shallow) in
            omega (arith, length-take-le (check_room L) W A.room, mul-le-mul_right L few);
      }

-- What a call answered, by what `map` made of it.
module _ {A B E : Type 0} (Q : A → B → Type 0) where
  pub ok_behind : (r : Result A E) (m : Result B E) {y : B}
      → MatchResult r (λ x. IsOkAnd m (Q x)) (λ e. m ≡ Err e)
      → m ≡ Ok y
      → (x : A) × (r ≡ Ok x) × Q x y
  ok_behind (Ok x) (Ok z) {y} h q = let same : z ≡ y = cc q in (x, refl, subst (Q x) same h)
  ok_behind (Ok x) (Err e) h q = absurd h
  ok_behind (Err e) m h q = absurd (true≢false (cc (h, q)))

  pub err_behind : (r : Result A E) (m : Result B E) {e : E}
      → MatchResult r (λ x. IsOkAnd m (Q x)) (λ e. m ≡ Err e)
      → m ≡ Err e
      → r ≡ Err e
  err_behind (Ok x) (Ok z) h q = absurd (true≢false (cc q))
  err_behind (Ok x) (Err f) h q = absurd h
  err_behind (Err f) m {e} h q = let same : f ≡ e = cc (h, q) in ap Err same

-- No words spell the empty book.
judged : (L : ℕ) (t : Term) → infer (types []) (step (seen 0 [])) L [] 0 t ≡ judge (reader.Owner 0) [] L [] 0 t
unfolding next_of decode definitions
judged L t = refl

-- Inference was asked for the type of the whole term, answered `r` and left `after` in the first words of the working slice.
pub record Asked (ws : List ℕ) (L : ℕ) (W O : List ℕ) (r : Result Typed Refusal) (after : List ℕ) : Type 0 where
  pub admitted : Admitted L W O
  pub term : Term
  pub coded : ws ≡ words term
  pub readable : Readable 0 term
  pub place : ℕ
  pub outermost : place ≡ 0
  pub places : List ℕ
  pub places' : List ℕ
  pub infers : Infers (judge (reader.Owner 0) [] L [] place term) term places 0 (take (check_room L) W) 0 r after places'
  pub same : length after ≡ length (take (check_room L) W)

module _ {ws : List ℕ} {L : ℕ} {W O : List ℕ} {r : Result Typed Refusal} {after : List ℕ} (a : Asked ws L W O r after) where
  open a use {admitted, term, coded, readable, place, outermost, places, places', infers, same}
  open admitted use {allowed, room, out}

  long : length after ≡ check_room L
  long = same ∙ length-take-le (check_room L) W room

  -- Two blocks for each word of the limit are the room.
  cleared_all : cleared (512 * (2 * L)) (after ++ drop (check_room L) W) ≡ cleared (check_room L) W
  cleared_all =
      let blocks : 512 * (2 * L) ≡ check_room L = omega arith in
      ap (λ n. cleared n (after ++ drop (check_room L) W)) blocks
      ∙ cleared_same (check_room L) (check_room L) (after ++ drop (check_room L) W) W (le_refl (check_room L))
      (drop_at after (drop (check_room L) W) (check_room L) long)

  pub untyped_out : {f : Refusal} {answer : Result ℕ Refusal} {work' output' : List ℕ}
      → r ≡ Err f
      → answer ≡ Err f
      → output' ≡ O
      → work' ≡ cleared (512 * (2 * L)) (after ++ drop (check_room L) W)
      → checked_of answer work' output' ≡ check ws L W O
  untyped_out {f} q x y e =
      let none = subst (λ n. judge (reader.Owner 0) [] L [] n term ≡ refused (reason_of f.reason) f.place) outermost (turned infers) in
      rw (x, y)
      (ap (λ w. checked_of (Err f) w O) (e ∙ cleared_all)
      ∙ sym (refused_answer [] 0 ws L W O allowed room out (coded, readable) (judged L term ∙ none)))
    where
      turned : {x : Answer Term}
          → Infers x term places 0 (take (check_room L) W) 0 r after places'
          → x ≡ refused (reason_of f.reason) f.place
      turned (finds g) = absurd (true≢false (cc (g.answer, q)))
      turned (refuses g) = let same = sym g ∙ ap inferred_of q in cc

  module _ {t : Typed} (q : r ≡ Ok t) {m : ℕ} (extent : m ≡ t.length) where
    open passing.typed_as infers q use {type as τ, found, long as part-long, lies}

    type-long : m ≡ size τ
    type-long = extent ∙ part-long

    type_short : m ≤ L
    type_short = omega (arith, type-long, inferred_fits (reader.Owner 0) [] L [] place term found)

    pub type_within : 2 * m ≤ length (after ++ drop (check_room L) W)
    type_within = omega (arith, type_short, long, length-append after (drop (check_room L) W))

    -- The type, as it is spelled.
    pub type_kept : take (2 * m) (after ++ drop (check_room L) W) ≡ kept τ
    type_kept = take-append-le (2 * m) after (drop (check_room L) W) (omega (arith, type_short, long)) ∙ rw extent lies

    pub type_fits : size τ ≤ length O
    type_fits = omega (arith, out, type_short, type-long)

    pub typed_out : {answer : Result ℕ Refusal} {work' output' written : List ℕ}
        → answer ≡ Ok m
        → output' ≡ written
        → ((x : Term) → take (2 * m) (after ++ drop (check_room L) W) ≡ kept x → written ≡ begun (words x) O)
        → work' ≡ cleared (512 * (2 * L)) (after ++ drop (check_room L) W)
        → checked_of answer work' output' ≡ check ws L W O
    typed_out {work'} {output'} x y s e =
        let found = subst (λ k. judge (reader.Owner 0) [] L [] k term ≡ ok τ) outermost found in
        ap (λ r. checked_of r work' output') (x ∙ ap Ok type-long)
        ∙ ap (λ l. checked_of (Ok (size τ)) l output') (e ∙ cleared_all)
        ∙ ap (checked_of (Ok (size τ)) (cleared (check_room L) W)) (y ∙ s τ type_kept)
        ∙ sym (typed_answer [] 0 ws L W O allowed room out (coded, readable) (judged L term ∙ found))
