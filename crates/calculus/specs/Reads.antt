-- DEMAND 2 for reading: which lists are read, and where the others are refused.
use Rattle.std.specs.Prelude.{ℕ, List, [], ◌∷◌, ◌++◌, ◌≡◌, ◌↔◌, replicate}
use Rattle.calculus.specs.Term.{Term}
use Rattle.calculus.specs.Answer.{ok, refused, Reason, length_not_allowed, no_meaning, list_ends, words_after, level_65, unbound}
use Rattle.calculus.specs.Words.{words, Worded, Codes}
use Rattle.calculus.specs.Reading.{Misread}
use Rattle.calculus.specs.Scan.{read}

-- "Every list of words is one term or none, and each term of those sizes has one list."
abbrev pub Coding : Type 0
Coding = (ws : List ℕ) (t : Term) → (read ws ≡ ok t) ↔ Codes 0 ws t

-- A list that is no term is refused where reading it first fails.
abbrev pub Misreading : Type 0
Misreading = (ws : List ℕ) (r : Reason) (p : ℕ) → (read ws ≡ refused r p) ↔ Misread ws r p

-- A term's words begin no other term's, so a state is found in its slice with no length. Their indices must have words of their own:
-- the word of the variable 2,032 would be that of the name 0.
abbrev pub PrefixFree : Type 0
PrefixFree = (s t : Term) (j k : List ℕ) → Worded s → Worded t → words s ++ j ≡ words t ++ k → (s ≡ t) × (j ≡ k)

-- A list that is misread, with the reason and the place.
pub record Edge : Type 0 where
  pub list : List ℕ
  pub reason : Reason
  pub place : ℕ

-- 64 down casts, and what stands at level 65.
abbrev pub casts : List ℕ → List ℕ
casts ws = replicate 64 1 ++ ws

-- The edges of reading: the lists of document 01's "Terms at the edges" that are refused by 4–9, an earlier word that fails before a
-- later one, and words that fail by two of the tests 5, 8, 9.
unfoldable pub edges : List Edge
edges =
    record { list = []; reason = length_not_allowed; place = 0 }
    ∷ record { list = 7 ∷ []; reason = no_meaning; place = 0 }
    ∷ record { list = 2 ∷ 0 ∷ []; reason = list_ends; place = 2 }
    ∷ record { list = 0 ∷ 0 ∷ []; reason = words_after; place = 1 }
    ∷ record { list = 0 ∷ 7 ∷ []; reason = words_after; place = 1 }
    ∷ record { list = 4 ∷ 0 ∷ 17 ∷ []; reason = unbound; place = 2 }
    ∷ record { list = 2 ∷ 16 ∷ 7 ∷ []; reason = unbound; place = 1 }
    ∷ record { list = casts []; reason = list_ends; place = 64 }
    ∷ record { list = casts (0 ∷ []); reason = level_65; place = 64 }
    ∷ record { list = casts (7 ∷ []); reason = no_meaning; place = 64 }
    ∷ record { list = casts (16 ∷ []); reason = level_65; place = 64 }
    ∷ []

-- What the table claims: each of its lists is misread, by that reason and at that place.
unfoldable pub Misreads : List Edge → Type 0
Misreads [] = Unit
Misreads (e ∷ es) = Misread e.list e.reason e.place × Misreads es

-- Every row of the table holds.
abbrev pub ReadingEdges : Type 0
ReadingEdges = Misreads edges
