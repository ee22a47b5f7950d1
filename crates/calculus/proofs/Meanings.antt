-- The words and what they mean: the word `16 + i` means the variable `i` as long as `i` is below 2,032, the word `2048 + i` the name `i`
-- below 32, and a word that is read is the word of its meaning, so that no two words mean the same. A word from 7 on has no parts, whatever it means; how many
-- the others have is computed, word by word.
use Prim.Native.Nat.{ℕ, zero, suc, ◌+◌, ◌-◌, ◌≤◌, ◌<◌}
use mathlib.Core.Bool.{Bool, true, false, cond}
use mathlib.Core.List.{List, [], ◌∷◌}
use mathlib.Core.Logic.{◌⊎◌, inl, inr}
use mathlib.Core.Path.{◌≡◌, refl, sym, ap, ◌∙◌}
use native.Mathlib.Nat.{add-sub_cancel_left, add-sub_of_le, add-zero, zero-add}
use native.Mathlib.Omega.{arith}
use lib.Dec.{T, ltb, nltb→le}
use lib.ListN.{length, get_or, get_or-eq_default}
use Rattle.calculus.specs.Meaning.{Meaning, a_star, a_castdown, an_app, a_castup, a_lam, a_pi, a_mu, a_variable, a_name, nothing, meaning, binds, PartsByFormula}
use Rattle.calculus.specs.Scan.{means}
use Rattle.calculus.proofs.Comparisons.{le_leb, gt_leb}

-- Document 01's table, from meanings to words; of the words that mean nothing, the least.
unfoldable pub word : Meaning → ℕ
word a_star = 0
word a_castdown = 1
word an_app = 2
word a_castup = 3
word a_lam = 4
word a_pi = 5
word a_mu = 6
word (a_variable i) = 16 + i
word (a_name i) = 2048 + i
word nothing = 7

-- The index of a variable, and the number of a name, is one that has a word.
unfoldable pub Indexed : Meaning → Type 0
Indexed a_star = Unit
Indexed a_castdown = Unit
Indexed an_app = Unit
Indexed a_castup = Unit
Indexed a_lam = Unit
Indexed a_pi = Unit
Indexed a_mu = Unit
Indexed (a_variable i) = i < 2032
Indexed (a_name i) = i < 32
Indexed nothing = Unit

pub meaning_word : (m : Meaning) → Indexed m → meaning (word m) ≡ m
unfolding meaning word Indexed
meaning_word a_star h = refl
meaning_word a_castdown h = refl
meaning_word an_app h = refl
meaning_word a_castup h = refl
meaning_word a_lam h = refl
meaning_word a_pi h = refl
meaning_word a_mu h = refl
meaning_word (a_variable i) h =
    rw (gt_leb (suc (16 + i)) 16 (omega arith), le_leb (suc (16 + i)) 2048 (omega arith), add-sub_cancel_left 16 i) refl
meaning_word (a_name i) h =
    rw (
      gt_leb (suc (2048 + i)) 16 (omega arith),
      gt_leb (suc (2048 + i)) 2048 (omega arith),
      le_leb (suc (2048 + i)) 2080 (omega arith),
      add-sub_cancel_left 2048 i,
    )
    refl
meaning_word nothing h = refl

-- The meanings of words 0–6, in the order of the words.
abbrev pub nodes : List Meaning
nodes = a_star ∷ a_castdown ∷ an_app ∷ a_castup ∷ a_lam ∷ a_pi ∷ a_mu ∷ []

-- The word of each member of `ms` is its place, counted from `n`.
InOrder : ℕ → List Meaning → Type 0
InOrder n [] = Unit
InOrder n (m ∷ ms) = (word m ≡ n) × InOrder (suc n) ms

in_order : (n : ℕ) (ms : List Meaning) (w : ℕ)
    → InOrder n ms
    → T (means (get_or ms w nothing))
    → word (get_or ms w nothing) ≡ n + w
unfolding InOrder means
in_order n [] w h t = elim t [ ]
in_order n (m ∷ ms) zero h t = h.0 ∙ sym (add-zero n)
in_order n (m ∷ ms) (suc w) h t = in_order (suc n) ms w h.1 t ∙ omega arith

pub word_meaning : (w : ℕ) → T (means (meaning w)) → word (meaning w) ≡ w
unfolding meaning means word InOrder
word_meaning w = go (ltb w 16) (ltb w 2048) (ltb w 2080) refl
  where
    m : Bool → Bool → Bool → Meaning
    m b c d = cond b (get_or nodes w nothing) (cond c (a_variable (w - 16)) (cond d (a_name (w - 2048)) nothing))

    go : (b c d : Bool) → ltb w 16 ≡ b → T (means (m b c d)) → word (m b c d) ≡ w
    go true c d e t = in_order 0 nodes w (refl, (refl, (refl, (refl, (refl, (refl, (refl, tt))))))) t ∙ zero-add w
    go false true d e t = add-sub_of_le (nltb→le w 16 (rw e tt))
    go false false true e t = elim t [ ]
    go false false false e t = elim t [ ]

pub the_word : (w : ℕ) {m : Meaning} → meaning w ≡ m → T (means m) → word m ≡ w
the_word w e t = ap word (sym e) ∙ word_meaning w (rw e t)

-- A word means nothing, or a name, or it is read.
pub sorted : (m : Meaning) → (m ≡ nothing) ⊎ ((i : ℕ) × (m ≡ a_name i)) ⊎ T (means m)
unfolding means
sorted a_star = inr (inr tt)
sorted a_castdown = inr (inr tt)
sorted an_app = inr (inr tt)
sorted a_castup = inr (inr tt)
sorted a_lam = inr (inr tt)
sorted a_pi = inr (inr tt)
sorted a_mu = inr (inr tt)
sorted (a_variable i) = inr (inr tt)
sorted (a_name i) = inr (inl (i, refl))
sorted nothing = inl refl

-- What holds of each word below 7, and of the words from 7 on, holds of every word.
pub by_word : (P : ℕ → Type 0) → P 0 → P 1 → P 2 → P 3 → P 4 → P 5 → P 6 → ((w : ℕ) → 7 ≤ w → P w) → (w : ℕ) → P w
by_word P p₀ p₁ p₂ p₃ p₄ p₅ p₆ others zero = p₀
by_word P p₀ p₁ p₂ p₃ p₄ p₅ p₆ others (suc zero) = p₁
by_word P p₀ p₁ p₂ p₃ p₄ p₅ p₆ others (suc (suc zero)) = p₂
by_word P p₀ p₁ p₂ p₃ p₄ p₅ p₆ others (suc (suc (suc zero))) = p₃
by_word P p₀ p₁ p₂ p₃ p₄ p₅ p₆ others (suc (suc (suc (suc zero)))) = p₄
by_word P p₀ p₁ p₂ p₃ p₄ p₅ p₆ others (suc (suc (suc (suc (suc zero))))) = p₅
by_word P p₀ p₁ p₂ p₃ p₄ p₅ p₆ others (suc (suc (suc (suc (suc (suc zero)))))) = p₆
by_word P p₀ p₁ p₂ p₃ p₄ p₅ p₆ others (suc (suc (suc (suc (suc (suc (suc w))))))) =
    others (suc (suc (suc (suc (suc (suc (suc w))))))) (omega arith)

-- From 7 on a word is a variable, a name, or means nothing: what holds of all three holds of what the word means.
pub from_seven : (P : Meaning → Type 0) (w : ℕ) → 7 ≤ w → P (a_variable (w - 16)) → P (a_name (w - 2048)) → P nothing → P (meaning w)
unfolding meaning
from_seven P w low of_variable of_name of-nothing =
    rw (get_or-eq_default nodes nothing low) (either (ltb w 16) (ltb w 2048) (ltb w 2080))
  where
    either : (b c d : Bool) → P (cond b nothing (cond c (a_variable (w - 16)) (cond d (a_name (w - 2048)) nothing)))
    either true c d = of-nothing
    either false true d = of_variable
    either false false true = of_name
    either false false false = of-nothing

pub no_binds : (w : ℕ) → 7 ≤ w → binds (meaning w) ≡ []
unfolding binds
no_binds w low = from_seven (λ m. binds m ≡ []) w low refl refl refl

pub parts_by_formula : PartsByFormula
unfolding meaning binds
parts_by_formula = (
  by_word
      _
      (λ _. refl) (λ _. refl) (λ _. refl) (λ _. refl) (λ _. refl) (λ _. refl) (λ _. refl)
      (λ w high low. absurd (omega arith)),
  λ w high. ap length (no_binds w high),
)
