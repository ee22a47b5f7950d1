-- The kinds of words, one for each variant of the enum that a word is classified by, numbered as the variants are: so what the
-- code knows of a variant it knows of the word's kind. Words below 7 have a kind of their own; from 7 on a word is a variable or a
-- name, or means nothing.
use Prim.Native.Nat.{ℕ, ◌≤◌}
use mathlib.Core.Bool.{Bool, false, ◌&&◌}
use mathlib.Core.Path.{◌≡◌, refl, ap, ◌∙◌, subst}
use native.Mathlib.Omega.{arith}
use borrow.Author.Tests.{le-leb, lt-leb}
use lib.Dec.{eqb, leb}
use Rattle.calculus.specs.Meaning as calculus
use Rattle.calculus.specs.Meaning.{a_star, a_castdown, an_app, a_castup, a_lam, a_pi, a_mu, a_variable, a_name, nothing, meaning}
use Rattle.calculus.proofs.Meanings.{by_word, from_seven}
use Rattle.term.specs.declared.word.Meaning.{Meaning}
use Rattle.term.specs.declared.word.Meaning.TheVariants.{Star, CastDown, Application, CastUp, Abstraction, Product}
use Rattle.term.specs.declared.word.Meaning.TheVariants.{Recursion, Variable, Nothing, Name}
use Rattle.term.specs.Word.{meaning_of}
use Rattle.term.proofs.Visits.{tag}

abbrev pub index : calculus.Meaning → ℕ
index a_star = 0
index a_castdown = 1
index an_app = 2
index a_castup = 3
index a_lam = 4
index a_pi = 6
index a_mu = 5
index (a_variable i) = 7
index nothing = 8
index (a_name i) = 9

unfoldable pub kind : ℕ → ℕ
kind w = index (meaning w)

pub tag_index : (m : Meaning) → tag m ≡ index (meaning_of m)
tag_index Star = refl
tag_index CastDown = refl
tag_index Application = refl
tag_index CastUp = refl
tag_index Abstraction = refl
tag_index Product = refl
tag_index Recursion = refl
tag_index (Variable i) = refl
tag_index Nothing = refl
tag_index (Name i) = refl

-- The kind of the words that a variant classifies.
abbrev pub variant_kind : Meaning → ℕ
variant_kind m = index (meaning_of m)

-- What holds of it holds of the kind of a word that is classified so.
pub kind_by : (P : ℕ → Type 0) (m : Meaning) (w : ℕ) → meaning_of m ≡ meaning w → P (variant_kind m) → P (kind w)
unfolding kind
kind_by P m w known h = subst P (ap index known) h

-- The test for a down cast or an application.
abbrev pub framing : ℕ → Bool
framing w = leb 1 w && leb w 2

pub no_frame : (w : ℕ) → 7 ≤ w → framing w ≡ false
no_frame w low = rw (le-leb 1 w (omega arith), lt-leb w 2 (omega arith)) refl

-- Every variant but that of the down cast has another kind, and so of the application.
pub no_castdown : (m : Meaning) → (m ≡ CastDown → ⊥) → eqb (variant_kind m) 1 ≡ false
no_castdown Star n = refl
no_castdown CastDown n = absurd (n refl)
no_castdown Application n = refl
no_castdown CastUp n = refl
no_castdown Abstraction n = refl
no_castdown Product n = refl
no_castdown Recursion n = refl
no_castdown (Variable i) n = refl
no_castdown Nothing n = refl
no_castdown (Name i) n = refl

pub no_application : (m : Meaning) → (m ≡ Application → ⊥) → eqb (variant_kind m) 2 ≡ false
no_application Star n = refl
no_application CastDown n = refl
no_application Application n = absurd (n refl)
no_application CastUp n = refl
no_application Abstraction n = refl
no_application Product n = refl
no_application Recursion n = refl
no_application (Variable i) n = refl
no_application Nothing n = refl
no_application (Name i) n = refl

pub frames_none : (m : Meaning) → (m ≡ CastDown → ⊥) → (m ≡ Application → ⊥) → framing (variant_kind m) ≡ false
frames_none Star n f = refl
frames_none CastDown n f = absurd (n refl)
frames_none Application n f = absurd (f refl)
frames_none CastUp n f = refl
frames_none Abstraction n f = refl
frames_none Product n f = refl
frames_none Recursion n f = refl
frames_none (Variable i) n f = refl
frames_none Nothing n f = refl
frames_none (Name i) n f = refl

pub framing_kind : (w : ℕ) → framing w ≡ framing (kind w)
unfolding kind meaning
framing_kind = by_word (λ w. framing w ≡ framing (kind w)) refl refl refl refl refl refl refl others
  where
    others : (w : ℕ) → 7 ≤ w → framing w ≡ framing (kind w)
    others w low = no_frame w low ∙ from_seven (λ m. false ≡ framing (index m)) w low refl refl refl
