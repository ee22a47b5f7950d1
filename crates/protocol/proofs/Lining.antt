-- A line that is read byte by byte: what was read so far and the bytes from here on are together the line from its start.
use Prim.Native.Nat.{ℕ, suc, ◌+◌, ◌-◌, ◌<◌}
use mathlib.Core.List.{List, [], ◌∷◌}
use mathlib.Core.Path.{◌≡◌, refl, sym, ap, ◌∙◌}
use native.Mathlib.Numerals.{add-one}
use native.Mathlib.Omega.{arith}
use lib.ListN.{length, get_or, drop, drop_of_length-le, length-drop}
use lib.Seq.{drop-cons, take_all}
use borrow.Author.Tests.{ne_eqb}
use Rattle.std.specs.List.{slice_range}
use Rattle.protocol.specs.Requests.{Line, fed, fed_line, line_length}

-- A line feed, and another byte.
fed_at_feed : (l : Line) (bs : List ℕ) → fed_line l (10 ∷ bs) ≡ l
unfolding fed_line
fed_at_feed l bs = refl

length_at_feed : (bs : List ℕ) → line_length (10 ∷ bs) ≡ 0
unfolding line_length
length_at_feed bs = refl

fed_at_byte : (l : Line) (b : ℕ) (bs : List ℕ) → (b ≡ 10 → ⊥) → fed_line l (b ∷ bs) ≡ fed_line (fed l.request b l.words) bs
unfolding fed_line
fed_at_byte l b bs n = rw (ne_eqb b 10 n) refl

length_at_byte : (b : ℕ) (bs : List ℕ) → (b ≡ 10 → ⊥) → line_length (b ∷ bs) ≡ suc (line_length bs)
unfolding line_length
length_at_byte b bs n = rw (ne_eqb b 10 n) refl

fed_at_end : (l : Line) → fed_line l [] ≡ l
unfolding fed_line
fed_at_end l = refl

length_at_end : line_length [] ≡ 0
unfolding line_length
length_at_end = refl

-- `Lined bytes l₀ at l`: after the first `at` of the bytes the line that was `l₀` is `l`.
pub record Lined (bytes : List ℕ) (l₀ : Line) (at : ℕ) (l : Line) : Type 0 where
  pub fed : fed_line l (drop at bytes) ≡ fed_line l₀ bytes
  pub count : at + line_length (drop at bytes) ≡ line_length bytes
  pub kept : length l.words ≡ length l₀.words

-- The line is read, where nothing more of it is: at a line feed, and at the end of what there is.
pub record Whole (bytes : List ℕ) (l₀ : Line) (at : ℕ) (l : Line) : Type 0 where
  pub line : l ≡ fed_line l₀ bytes
  pub reached : at ≡ line_length bytes

pub lined_start : (bytes : List ℕ) (l : Line) → Lined bytes l 0 l
lined_start [] l = record { fed = refl; count = omega arith; kept = refl }
lined_start (b ∷ bs) l = record { fed = refl; count = omega arith; kept = refl }

module _ {bytes : List ℕ} {at : ℕ} {l₀ l : Line} (h : Lined bytes l₀ at l) where
  pub lined_feed : at < length bytes → get_or bytes at 0 ≡ 10 → Whole bytes l₀ at l
  lined_feed i e =
      let here : drop at bytes ≡ 10 ∷ drop (suc at) bytes = drop-cons bytes at 0 i ∙ ap (λ b. b ∷ drop (suc at) bytes) e in
      record {
        line = sym (ap (fed_line l) here ∙ fed_at_feed l _) ∙ h.fed;
        reached = omega (arith, h.count, ap line_length here ∙ length_at_feed (drop (suc at) bytes));
      }

  pub lined_end : at ≡ length bytes → Whole bytes l₀ (length bytes) l
  lined_end e =
      let here : drop at bytes ≡ [] = drop_of_length-le bytes (omega arith) in
      record {
        line = sym (ap (fed_line l) here ∙ fed_at_end l) ∙ h.fed;
        reached = omega (arith, h.count, ap line_length here ∙ length_at_end);
      }

  -- Any other byte is read.
  pub lined_next : {l' : Line} → at < length bytes → (get_or bytes at 0 ≡ 10 → ⊥)
      → l' ≡ fed l.request (get_or bytes at 0) l.words
      → length l'.words ≡ length l.words
      → Lined bytes l₀ (at + 1) l'
  lined_next {l'} i n f k =
      let b = get_or bytes at 0 in
      let here = drop-cons bytes at 0 i in
      rw add-one
      (record {
        fed = ap (λ x. fed_line x (drop (suc at) bytes)) f ∙ sym (ap (fed_line l) here ∙ fed_at_byte l b _ n) ∙ h.fed;
        count = omega (arith, h.count, ap line_length here ∙ length_at_byte b (drop (suc at) bytes) n);
        kept = k ∙ h.kept;
      })

module _ (input : List ℕ) (from : ℕ) where
  -- What is read as a line is the rest of the input.
  pub whole_rest : {rest : List ℕ} {l₀ l : Line} {at : ℕ}
      → rest ≡ slice_range input from (length input)
      → Whole rest l₀ at l
      → (l ≡ fed_line l₀ (drop from input)) × (from + at ≡ from + line_length (drop from input))
  whole_rest {rest} {l₀} e w =
      let e : rest ≡ drop from input = e ∙ take_all (length input - from) (drop from input) (omega (arith, length-drop from input)) in
      (w.line ∙ ap (fed_line l₀) e, omega (arith, w.reached, ap line_length e))

  -- Behind the end there is none.
  pub whole_none : (l : Line) → length input < from
      → (l ≡ fed_line l (drop from input)) × (from ≡ from + line_length (drop from input))
  whole_none l h =
      let here : drop from input ≡ [] = drop_of_length-le input (omega arith) in
      (sym (ap (fed_line l) here ∙ fed_at_end l), omega (arith, ap line_length here ∙ length_at_end))
