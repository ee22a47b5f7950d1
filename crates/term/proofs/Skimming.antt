-- Skimming goes as the code reads, one word at a time from one place to the next: the list from a place on is the word there and
-- the list from the next place on.
use Prim.Native.Nat.{ℕ, suc, ◌+◌, ◌≤◌, ◌<◌}
use mathlib.Core.List.{List, [], ◌∷◌, ◌++◌, map}
use mathlib.Core.Path.{◌≡◌, refl, ap, ◌∙◌}
use native.Mathlib.Numerals.{add-one}
use lib.ListN.{length, get_or, drop, drop_of_length-le}
use lib.Seq.{drop-cons, drop-drop}
use Rattle.calculus.specs.Answer.{ok, refused, ◌>>◌, list_ends}
use Rattle.calculus.specs.Meaning.{meaning, binds}
use Rattle.calculus.specs.Scan.{Pending, test, below}
use Rattle.term.specs.Subterms.{skim}

pub skim_none : (ws : List ℕ) (p : ℕ) → skim ws [] p ≡ ok p
unfolding skim
skim_none [] p = refl
skim_none (w ∷ ws) p = refl

-- The list from one place on has the next place's list for its tail.
pub behind : {w : ℕ} {ws : List ℕ} (whole : List ℕ) (p : ℕ) → w ∷ ws ≡ drop p whole → ws ≡ drop (suc p) whole
behind whole p e = ap (drop 1) e ∙ drop-drop 1 p whole ∙ ap (λ n. drop n whole) (add-one p)

-- One word is read where there is one, and otherwise the list ends.
pub skim_word : (ws : List ℕ) (p : ℕ) (s : Pending) (ss : List Pending)
    → p < length ws
    → skim (drop p ws) (s ∷ ss) p
    ≡ (test (meaning (get_or ws p 0)) s p >> skim (drop (p + 1) ws) (map (below s) (binds (meaning (get_or ws p 0))) ++ ss) (p + 1))
unfolding skim
skim_word ws p s ss h = rw (drop-cons ws p 0 h, add-one p) refl

pub skim_end : (ws : List ℕ) (p : ℕ) (s : Pending) (ss : List Pending)
    → length ws ≤ p
    → skim (drop p ws) (s ∷ ss) p ≡ refused list_ends p
unfolding skim
skim_end ws p s ss h = rw (drop_of_length-le ws h) refl
