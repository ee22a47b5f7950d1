-- Reading gives the term whose words a list is, and refuses where the list is misread: the words of a readable term pass the test of
-- their length and are scanned back, and a scan refuses where reading fails. Every list is one or the other, since it begins with
-- a term that fits or fails to be read. So what reading answers is what holds.
use Prim.Native.Nat.{ℕ, ◌+◌, ◌≤◌, zero-le}
use mathlib.Core.List.{List, [], ◌∷◌}
use mathlib.Core.Logic.Dec
use mathlib.Core.Logic.{◌⊎◌, inl, inr}
use mathlib.Core.Path.{◌≡◌, refl, sym, ap, ◌∙◌, subst, subst₂}
use native.Mathlib.Decide.{dec_le}
use native.Mathlib.Nat.{zero-add}
use native.Mathlib.Omega.{arith}
use lib.Dec.{lit≤}
use lib.ListN.{length}
use Rattle.calculus.specs.Term.{Term, size}
use Rattle.calculus.specs.Words.{words, Readable, Codes, longest, deepest}
use Rattle.calculus.specs.Answer.{Reason, ok, refused, ◌>>=◌, ◌>>◌, require, number}
use Rattle.calculus.specs.Reading.{Begins, Unread, no_word, meaningless, unnamed, too_deep, outside, in_first, in_second, Sized, Misread, wrong_length, in_term, word_over}
use Rattle.calculus.specs.Scan.{Pending, scan, the_first, read}
use Rattle.calculus.specs.Reads.{Coding, Misreading}
use Rattle.calculus.proofs.Comparisons.{le_leb, out_of_range}
use Rattle.calculus.proofs.Coding.{emit_length, size_positive, words_length}
use Rattle.calculus.proofs.Says.{By, ok_not_refused}
use Rattle.calculus.proofs.ScanWords.{Reads, scan_term}
use Rattle.calculus.proofs.ScanFails.{scan_refuses}
use Rattle.calculus.proofs.Beginnings.{Told, told}

-- What a whole list is read as: a closed term of at most 64 levels.
abbrev whole : Pending
whole = record { room = deepest; binders = 0 }

-- Past the test of its length, a list is scanned.
scanned : (ws : List ℕ) → Sized ws → read ws ≡ (scan ws (whole ∷ []) 0 >>= λ ts. ok (the_first ts))
unfolding read require ◌>>◌ ◌>>=◌
scanned ws (h, k) = rw (le_leb 1 (length ws) h, le_leb (length ws) longest k) refl

through : {ws rest : List ℕ} {t : Term} → Begins deepest 0 ws t rest → Reads whole t
through {t} b = scan_term t whole (record { scoped = b.scoped; within = b.within; named = b.named }) (omega (arith, b.within))

pub read_words : (t : Term) → Readable 0 t → read (words t) ≡ ok t
unfolding words scan the_first ◌>>=◌
read_words t c =
    let b : Begins deepest 0 (words t) t [] = record { written = refl; within = c.shallow; scoped = c.closed; named = c.named } in
    let sized : Sized (words t) = (rw (words_length t) (size_positive t), rw (words_length t) c.short) in
    scanned (words t) sized ∙ rw (through b [] [] 0) refl

pub misread_refused : {ws : List ℕ} {r : Reason} {p : ℕ} → Misread ws r p → read ws ≡ refused r p
unfolding read scan require ◌>>◌ ◌>>=◌
misread_refused {ws} (wrong_length n) = rw (out_of_range 1 (length ws) longest n) refl
misread_refused {ws} (in_term s u) = scanned ws s ∙ rw (scan_refuses u (lit≤ tt) []) refl
misread_refused {ws} (word_over {t} {w} {rest} s b) =
    scanned ws s ∙ rw (b.written, through b (w ∷ rest) [] 0, zero-add (size t)) refl

-- What a list is: the words of a readable term, or misread.
abbrev pub Read : List ℕ → Type 0
Read ws = ((t : Term) × Codes 0 ws t) ⊎ ((r : Reason) × (p : ℕ) × Misread ws r p)

pub coded_or_misread : (ws : List ℕ) → Read ws
unfolding words
coded_or_misread ws = by_length (Dec.and (dec_le 1 (length ws)) (dec_le (length ws) longest))
  where
    by_reading : Sized ws → Told deepest 0 0 ws → Read ws
    by_reading s (inl (t, [], b)) =
        inl (
          t,
          (
            b.written,
            record {
              closed = b.scoped;
              named = b.named;
              short = subst (λ n. n ≤ longest) (ap length b.written ∙ words_length t) s.1;
              shallow = b.within;
            },
          ),
        )
    by_reading s (inl (t, w ∷ rest, b)) = inr (_, _, word_over s b)
    by_reading s (inr (r, p, u)) = inr (r, p, in_term s u)

    by_length : Dec (Sized ws) → Read ws
    by_length (yes s) = by_reading s (told deepest 0 0 ws)
    by_length (no n) = inr (_, _, wrong_length n)

pub codes_read : {ws : List ℕ} {t : Term} → Codes 0 ws t → read ws ≡ ok t
codes_read {t} h = ap read h.0 ∙ read_words t h.1

pub coded_not_misread : {ws : List ℕ} {t : Term} {r : Reason} {p : ℕ} → Codes 0 ws t → Misread ws r p → ⊥
coded_not_misread h m = ok_not_refused (sym (codes_read h) ∙ misread_refused m)

pub read_sound : (ws : List ℕ) (t : Term) → read ws ≡ ok t → Codes 0 ws t
read_sound ws t e = on (coded_or_misread ws)
  where
    on : Read ws → Codes 0 ws t
    on (inl (s, h)) = subst (Codes 0 ws) (cc (e, codes_read h)) h
    on (inr (r, p, m)) = absurd (ok_not_refused (sym e ∙ misread_refused m))

pub refused_misread : (ws : List ℕ) (r : Reason) (p : ℕ) → read ws ≡ refused r p → Misread ws r p
refused_misread ws r p e = on (coded_or_misread ws)
  where
    on : Read ws → Misread ws r p
    on (inl (s, h)) = absurd (ok_not_refused (sym (codes_read h) ∙ e))
    on (inr (s, q, m)) = subst₂ (Misread ws) (cc (e, misread_refused m)) (cc (e, misread_refused m)) m

pub coding : Coding
coding ws t = (read_sound ws t, codes_read)

pub misreading : Misreading
misreading ws r p = (refused_misread ws r p, misread_refused)

-- Why a list of words that ends at `n` is no term: the numbers of reading, and a place within the list or behind it.
unread_numbers : {room binders p q n : ℕ} {ws : List ℕ} {r : Reason} → Unread room binders p ws r q → p + length ws ≤ n → By 4 9 n r q
unfolding number
unread_numbers no_word end = (lit≤ tt, lit≤ tt, omega arith)
unread_numbers (meaningless e) end = (lit≤ tt, lit≤ tt, omega arith)
unread_numbers (unnamed e) end = (lit≤ tt, lit≤ tt, omega arith)
unread_numbers (too_deep m k) end = (lit≤ tt, lit≤ tt, omega arith)
unread_numbers (outside e l) end = (lit≤ tt, lit≤ tt, omega arith)
unread_numbers (in_first e u) end = unread_numbers u (omega arith)
unread_numbers (in_second {rest} {a} e b u) end = unread_numbers u (omega (arith, ap length b.written, emit_length a rest))

pub misread_numbers : {ws : List ℕ} {r : Reason} {p : ℕ} → Misread ws r p → By 4 9 longest r p
unfolding number
misread_numbers (wrong_length n) = (lit≤ tt, lit≤ tt, zero-le)
misread_numbers (in_term s u) = unread_numbers u (omega (arith, s.1))
misread_numbers (word_over {t} {w} {rest} s b) = (lit≤ tt, lit≤ tt, omega (arith, s.1, ap length b.written, emit_length t (w ∷ rest)))
