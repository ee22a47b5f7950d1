-- The survey of a slice is made from its end: what is found from a node on is the node itself where it is a variable or a name, and
-- what is found from the next node on where it is neither.
use Prim.Native.Nat.{ℕ, suc, ◌+◌, ◌-◌, ◌*◌, ◌≤◌, ◌<◌}
use mathlib.Core.List.{List, [], ◌∷◌}
use mathlib.Core.Path.{◌≡◌, refl, sym, ap, ap₂, ◌∙◌}
use native.Mathlib.Decide.{dec_le}
use native.Mathlib.Omega.{arith}
use lib.ListN.{length, drop, get_or, set, length-set}
use lib.Seq.{drop-cons, get_or-set_same, get_or-set_other}
use Rattle.calculus.specs.Words.{longest}
use Rattle.term.specs.Kept.{word_at, length_at}
use Rattle.kept.specs.Rewriting.{clear_run, FirstVariables}
use Rattle.kept.proofs.Clear.{run_more, run_ends}

-- The first variable or name at or behind the node `n`, `to` where there is none before it.
abbrev pub found : List ℕ → ℕ → ℕ → ℕ
found source to n = n + clear_run (drop (2 * n) source) (to - n)

run_none : (ws : List ℕ) → clear_run ws 0 ≡ 0
unfolding clear_run
run_none [] = refl
run_none (w ∷ []) = refl
run_none (w ∷ l ∷ ws) = refl

pub found_none : (source : List ℕ) (to : ℕ) → to ≡ found source to to
found_none source to =
    let none : to - to ≡ 0 = omega arith in
    omega (arith, ap (clear_run (drop (2 * to) source)) none, run_none (drop (2 * to) source))

pub surveyed_none : {first : List ℕ} (source : List ℕ) (to : ℕ) → length first ≡ longest → FirstVariables source to to first
surveyed_none source to h = record { wide = h; each = λ n low high. absurd (omega arith) }

-- The node `m` before the node that was last.
module _ (source : List ℕ) {to node : ℕ} (m : ℕ) (step : m + 1 ≡ node) (inside : node ≤ to) (room : 2 * to ≤ length source) where
  two_words : drop (2 * m) source ≡ word_at source m ∷ length_at source m ∷ drop (2 * node) source
  two_words =
      let second : suc (2 * m) ≡ 2 * m + 1 = omega arith in
      let behind : suc (suc (2 * m)) ≡ 2 * node = omega (arith, step) in
      drop-cons source (2 * m) 0 (omega (arith, step, inside, room))
      ∙ ap (λ ws. word_at source m ∷ ws) (drop-cons source (suc (2 * m)) 0 (omega (arith, step, inside, room)))
      ∙ ap₂ (λ i j. word_at source m ∷ get_or source i 0 ∷ drop j source) second behind

  run_here : clear_run (drop (2 * m) source) (to - m)
      ≡ clear_run (word_at source m ∷ length_at source m ∷ drop (2 * node) source) (suc (to - node))
  run_here =
      let count : to - m ≡ suc (to - node) = omega (arith, step, inside) in
      ap₂ clear_run two_words count

  pub found_here : 16 ≤ word_at source m → m ≡ found source to m
  found_here h = omega (arith, run_here, run_ends (word_at source m) (length_at source m) (drop (2 * node) source) (to - node) h)

  pub found_behind : word_at source m < 16 → found source to node ≡ found source to m
  found_behind h =
      omega (arith, step, run_here, run_more (word_at source m) (length_at source m) (drop (2 * node) source) (to - node) h)

  pub surveyed_more : {first : List ℕ} (next : ℕ)
      → to ≤ longest
      → next ≡ found source to m
      → FirstVariables source node to first
      → FirstVariables source m to (set first m next)
  surveyed_more {first} next short is v =
      record { wide = length-set first m next ∙ v.wide; each = λ n low high. at n low high (dec_le (m + 1) n) }
    where
      at : (n : ℕ) → m ≤ n → n < to → Dec (m + 1 ≤ n) → get_or (set first m next) n 0 ≡ found source to n
      at n low high (yes behind) =
          get_or-set_other first m n next 0 (omega arith) ∙ v.each n (omega (arith, step)) high
      at n low high (no here) =
          let same : m ≡ n = omega arith in
          ap (λ i. get_or (set first m next) i 0) (sym same)
          ∙ get_or-set_same first m next 0 (omega (arith, v.wide, short))
          ∙ is
          ∙ ap (found source to) same
