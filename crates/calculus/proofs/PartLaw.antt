-- The part lookup. What `Finds` says is what `found` answers, by computing; and `Finds` says something of every list and number, since
-- a list is a readable term's or misread, and a term has the part or not. In the words of a term each part stands between the words
-- before it and those behind it, which gives the words handed back.
use Prim.Native.Nat.{ℕ, zero, suc, ◌+◌, ◌≤◌}
use mathlib.Core.List.{List, [], ◌∷◌, ◌++◌, append-nil}
use mathlib.Core.Logic.{◌⊎◌, inl, inr}
use mathlib.Core.Path.{◌≡◌, refl, sym, ap, ◌∙◌, subst}
use native.Mathlib.Omega.{arith}
use lib.ListN.{length, take, drop, length-append}
use lib.Seq.{take_at, drop_at}
use Rattle.calculus.specs.Term.{Term, var, star, app, lam, pi, castup, castdown, mu, name, size}
use Rattle.calculus.specs.Answer.{Answer, ok, refused}
use Rattle.calculus.specs.Words.{emit, words, first_part, second_part, Codes}
use Rattle.calculus.specs.Scan.{read}
use Rattle.calculus.specs.Outcomes.{Found, absent, parts, nth_part, found_in, found, part}
use Rattle.calculus.specs.Parts.{PartAt, castdown_1, app_1, app_2, castup_1, castup_2, lam_1, lam_2, pi_1, pi_2, mu_1, mu_2, Finds, the_part, no_such_part, no_closed_term, Lookup, PartWords, FoundWithin}
use Rattle.calculus.proofs.Coding.{emit_append, size_positive, words_length}
use Rattle.calculus.proofs.ReadBack.{Read, coded_or_misread, codes_read, coded_not_misread, read_sound}

-- A part is found in the list of parts,
nth_found : {t e : Term} {k p : ℕ} → PartAt t k e p → nth_part (parts t) k 1 ≡ record { start = p; extent = size e }
unfolding parts nth_part
nth_found castdown_1 = refl
nth_found app_1 = refl
nth_found app_2 = refl
nth_found castup_1 = refl
nth_found castup_2 = refl
nth_found lam_1 = refl
nth_found lam_2 = refl
nth_found pi_1 = refl
nth_found pi_2 = refl
nth_found mu_1 = refl
nth_found mu_2 = refl

-- and a term has a part of a number or finds none.
abbrev Has : Term → ℕ → Type 0
Has t k = ((e : Term) × (p : ℕ) × PartAt t k e p) ⊎ (nth_part (parts t) k 1 ≡ absent)

one_part : {t e : Term} {p : ℕ} (k : ℕ) → parts t ≡ e ∷ [] → PartAt t 1 e p → Has t k
unfolding nth_part
one_part zero n h = inr (rw n refl)
one_part (suc zero) n h = inl (_, _, h)
one_part (suc (suc k)) n h = inr (rw n refl)

two_parts : {t a e : Term} {p q : ℕ} (k : ℕ) → parts t ≡ a ∷ e ∷ [] → PartAt t 1 a p → PartAt t 2 e q → Has t k
unfolding nth_part
two_parts zero n g h = inr (rw n refl)
two_parts (suc zero) n g h = inl (_, _, g)
two_parts (suc (suc zero)) n g h = inl (_, _, h)
two_parts (suc (suc (suc k))) n g h = inr (rw n refl)

has : (t : Term) (k : ℕ) → Has t k
unfolding parts nth_part
has (var i) k = inr refl
has star k = inr refl
has (app f u) k = two_parts k refl app_1 app_2
has (lam a e) k = two_parts k refl lam_1 lam_2
has (pi a b) k = two_parts k refl pi_1 pi_2
has (castup a e) k = two_parts k refl castup_1 castup_2
has (castdown e) k = one_part k refl castdown_1
has (mu a e) k = two_parts k refl mu_1 mu_2
has (name i) k = inr refl

found_answer : {ws : List ℕ} {k : ℕ} {f : Found} → Finds ws k f → found ws k ≡ f
unfolding found found_in
found_answer (the_part c h) = rw (codes_read c) (nth_found h)
found_answer {k} (no_such_part {t} c n) = rw (codes_read c) (on (has t k))
  where
    on : Has t k → nth_part (parts t) k 1 ≡ absent
    on (inl (e, p, h)) = absurd (n e p h)
    on (inr none) = none
found_answer {ws} {k} (no_closed_term n) = on (read ws) refl
  where
    on : (x : Answer Term) → read ws ≡ x → found_in k x ≡ absent
    on (ok t) e = absurd (n t (read_sound ws t e))
    on (refused r p) e = refl

-- One of the cases holds.
finds : (ws : List ℕ) (k : ℕ) → (f : Found) × Finds ws k f
finds ws k = by_reading (coded_or_misread ws)
  where
    by_part : {t : Term} → Codes 0 ws t → Has t k → (f : Found) × Finds ws k f
    by_part c (inl (e, p, h)) = (_, the_part c h)
    by_part c (inr none) =
        (_, no_such_part c λ e p h. omega (arith, size_positive e, ap (λ f. f.extent) (sym (nth_found h) ∙ none)))

    by_reading : Read ws → (f : Found) × Finds ws k f
    by_reading (inl (t, c)) = by_part c (has t k)
    by_reading (inr (r, p, m)) = (_, no_closed_term λ t c. coded_not_misread c m)

found_finds : (ws : List ℕ) (k : ℕ) → Finds ws k (found ws k)
found_finds ws k = let (f, h) = finds ws k in subst (Finds ws k) (sym (found_answer h)) h

pub lookup : Lookup
lookup ws k f = (λ e. subst (Finds ws k) e (found_finds ws k), found_answer)

-- The words of a term around those of a part.
record Around (t e : Term) (p : ℕ) : Type 0 where
  before : List ℕ
  behind : List ℕ
  split : words t ≡ before ++ (words e ++ behind)
  place : length before ≡ p

-- Around the first part and around the second of a node with the word `w`.
first : {t : Term} (w : ℕ) (a : Term) (k : List ℕ) → words t ≡ w ∷ emit a k → Around t a (first_part 0)
first w a k h = record { before = w ∷ []; behind = k; split = h ∙ ap (λ ws. w ∷ ws) (emit_append a k); place = refl }

second : {t : Term} (w : ℕ) (a e : Term) → words t ≡ w ∷ emit a (words e) → Around t e (second_part 0 a)
second w a e h =
    record {
      before = w ∷ words a;
      behind = [];
      split = h ∙ ap (λ ws. w ∷ ws) (emit_append a (words e) ∙ ap (λ ws. words a ++ ws) (sym (append-nil (words e))));
      place = omega (arith, words_length a);
    }

around : {t e : Term} {k p : ℕ} → PartAt t k e p → Around t e p
unfolding words emit
around (castdown_1 {e}) = first 1 e [] refl
around (app_1 {f} {u}) = first 2 f (words u) refl
around (app_2 {f} {u}) = second 2 f u refl
around (castup_1 {a} {e}) = first 3 a (words e) refl
around (castup_2 {a} {e}) = second 3 a e refl
around (lam_1 {a} {e}) = first 4 a (words e) refl
around (lam_2 {a} {e}) = second 4 a e refl
around (pi_1 {a} {b}) = first 5 a (words b) refl
around (pi_2 {a} {b}) = second 5 a b refl
around (mu_1 {a} {e}) = first 6 a (words e) refl
around (mu_2 {a} {e}) = second 6 a e refl

pub part_words : PartWords
unfolding part
part_words ws k = (there, λ none. rw none refl)
  where
    there : (t e : Term) (p : ℕ) → Codes 0 ws t → PartAt t k e p → take (found ws k).extent (drop (found ws k).start ws) ≡ words e
    there t e p c h =
        let a = around h in
        rw
        (found_answer (the_part c h), c.0, a.split, drop_at a.before (words e ++ a.behind) p a.place)
        (take_at (words e) a.behind (size e) (words_length e))

within : {ws : List ℕ} {k : ℕ} {f : Found} → Finds ws k f → f.start + f.extent ≤ length ws
within (the_part {e} c h) =
    let a = around h in
    omega (
      arith,
      ap length (c.0 ∙ a.split),
      length-append a.before (words e ++ a.behind),
      length-append (words e) a.behind,
      words_length e,
      a.place,
    )
within (no_such_part c n) = omega arith
within (no_closed_term n) = omega arith

pub found_within : FoundWithin
found_within ws k = within (found_finds ws k)
