-- Reading one subterm after another without building terms.
use Rattle.std.specs.Prelude.{ℕ, suc, Bool, ◌&&◌, List, [], ◌∷◌, ◌++◌, map, Result, Ok, Err}
use Rattle.calculus.specs.Answer.{Answer, ok, refused, ◌>>◌, list_ends}
use Rattle.calculus.specs.Meaning.{Meaning, meaning, binds}
use Rattle.calculus.specs.Scan.{Pending, means, bound, test, below}
use Rattle.term.specs.Reasons.{reason_of}
use Rattle.term.specs.declared.refusal.Reason.{Reason}

abbrev pub pending : ℕ → ℕ → Pending
pending room binders = record { room = room; binders = binders }

-- A word with this meaning stands under so many binders: the tests 5 and 9 in one.
abbrev pub inside : Meaning → ℕ → Bool
inside m b = means m && bound m b

-- As `scan` of the calculus reads the subterms still to come, but for the terms: the place behind them, or the first refusal.
unfoldable pub skim : List ℕ → List Pending → ℕ → Answer ℕ
skim [] [] p = ok p
skim [] (s ∷ ss) p = refused list_ends p
skim (w ∷ ws) [] p = ok p
skim (w ∷ ws) (s ∷ ss) p = do
  test (meaning w) s p
  skim ws (map (below s) (binds (meaning w)) ++ ss) (suc p)

-- What the tests of the word at a place answer.
abbrev pub visit_of : Result (Unit {0}) Reason → ℕ → Answer (Unit {0})
visit_of (Ok u) p = ok tt
visit_of (Err r) p = refused (reason_of r) p

-- Whether there is an answer, and otherwise the refusal.
abbrev pub outcome : {A : Type 0} → Answer A → Answer (Unit {0})
outcome (ok a) = ok tt
outcome (refused r p) = refused r p
