-- Reading a whole list answers what skimming it for one subterm answers, but that words left over are refused: scanning passes
-- the same words by the same tests, and makes terms besides.
use Prim.Native.Nat.{ℕ, suc, ◌≤◌, ◌<◌}
use mathlib.Core.Bool.{cond}
use mathlib.Core.List.{List, [], ◌∷◌, ◌++◌, map}
use mathlib.Core.Path.{◌≡◌, refl, sym, ap, ◌∙◌}
use native.Mathlib.Omega.{arith}
use borrow.Author.Tests.{lt-ltb, le-ltb, le-leb, lt-leb}
use lib.Dec.{ltb}
use lib.ListN.{length, drop, length-drop}
use Rattle.calculus.specs.Term.{Term}
use Rattle.calculus.specs.Words.{longest, deepest}
use Rattle.calculus.specs.Answer.{Reason, Answer, ok, refused, ◌>>=◌, ◌>>◌, require, length_not_allowed, words_after}
use Rattle.calculus.specs.Meaning.{meaning, binds}
use Rattle.calculus.specs.Scan.{test, node, the_first, Pending, below, scan, read}
use Rattle.term.specs.Subterms.{outcome, pending, skim}
use Rattle.term.proofs.Skimming.{behind}

-- At the place behind the terms nothing is left, or a word over.
left_over : List ℕ → ℕ → Answer (Unit {0})
left_over whole q = cond (ltb q (length whole)) (refused words_after q) (ok tt)

none_over : (whole : List ℕ) (q : ℕ) → length whole ≤ q → left_over whole q ≡ ok tt
unfolding left_over
none_over whole q h = rw (le-ltb q (length whole) h) refl

some_over : (whole : List ℕ) (q : ℕ) → q < length whole → left_over whole q ≡ refused words_after q
unfolding left_over
some_over whole q h = rw (lt-ltb q (length whole) h) refl

outcome_map : {A B : Type 0} (x : Answer A) (f : A → B) → outcome (x >>= λ a. ok (f a)) ≡ outcome x
unfolding ◌>>=◌
outcome_map (ok a) f = refl
outcome_map (refused r p) f = refl

-- A word's test before the rest of a scan and of a skim.
after_test : (x : Answer (Unit {0})) (y : Answer (List Term)) (f : List Term → List Term)
    (z : Answer ℕ) (h : ℕ → Answer (Unit {0}))
    → outcome y ≡ (z >>= h)
    → outcome (x >> (y >>= λ ts. ok (f ts))) ≡ (x >> z >>= h)
unfolding ◌>>=◌ ◌>>◌
after_test (ok u) y f z h e = outcome_map y f ∙ e
after_test (refused r p) y f z h e = refl

scan_skim : (rest whole : List ℕ) (p : ℕ)
    → rest ≡ drop p whole
    → (ss : List Pending)
    → outcome (scan rest ss p) ≡ (skim rest ss p >>= left_over whole)
unfolding scan skim ◌>>=◌
scan_skim [] whole p e [] = sym (none_over whole p (omega (arith, ap length e, length-drop p whole)))
scan_skim [] whole p e (s ∷ ss) = refl
scan_skim (w ∷ ws) whole p e [] = sym (some_over whole p (omega (arith, ap length e, length-drop p whole)))
scan_skim (w ∷ ws) whole p e (s ∷ ss) =
    after_test
    (test (meaning w) s p)
    (scan ws (map (below s) (binds (meaning w)) ++ ss) (suc p))
    (node (meaning w))
    (skim ws (map (below s) (binds (meaning w)) ++ ss) (suc p))
    (left_over whole)
    (scan_skim ws whole (suc p) (behind whole p e) (map (below s) (binds (meaning w)) ++ ss))

module _ (ws : List ℕ) (some : 1 ≤ length ws) (short : length ws ≤ longest) where
  allowed : outcome (read ws) ≡ (skim ws (pending deepest 0 ∷ []) 0 >>= left_over ws)
  unfolding read require ◌>>=◌ ◌>>◌
  allowed =
      rw
      (le-leb 1 (length ws) some, le-leb (length ws) longest short)
      (outcome_map (scan ws (pending deepest 0 ∷ []) 0) the_first ∙ scan_skim ws ws 0 refl (pending deepest 0 ∷ []))

  pub read_refused : {r : Reason} {q : ℕ} → refused r q ≡ skim ws (pending deepest 0 ∷ []) 0 → refused r q ≡ outcome (read ws)
  unfolding ◌>>=◌
  read_refused e = rw (allowed, ← e) refl

  pub read_over : {q : ℕ} → ok q ≡ skim ws (pending deepest 0 ∷ []) 0 → q < length ws → refused words_after q ≡ outcome (read ws)
  unfolding ◌>>=◌
  read_over {q} e h = rw (allowed, ← e) (sym (some_over ws q h))

  pub read_whole : {q : ℕ} → ok q ≡ skim ws (pending deepest 0 ∷ []) 0 → length ws ≤ q → ok tt ≡ outcome (read ws)
  unfolding ◌>>=◌
  read_whole {q} e h = rw (allowed, ← e) (sym (none_over ws q h))

pub read_empty : (ws : List ℕ) → length ws ≡ 0 → refused length_not_allowed 0 ≡ outcome (read ws)
unfolding read require ◌>>=◌ ◌>>◌
read_empty ws none = rw none refl

pub read_long : (ws : List ℕ) → longest < length ws → refused length_not_allowed 0 ≡ outcome (read ws)
unfolding read require ◌>>=◌ ◌>>◌
read_long ws long = rw (le-leb 1 (length ws) (omega arith), lt-leb (length ws) longest long) refl
