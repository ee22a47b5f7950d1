-- A slice that begins with given words. Storing them from its start makes it so; then they are its first words, and it is as it
-- was behind them. Hence clearing more words than were stored gives the same as clearing the slice as it was.
use Prim.Native.Nat.{ℕ, ◌+◌, ◌-◌, ◌≤◌}
use mathlib.Core.List.{List, ◌++◌}
use mathlib.Core.Path.{◌≡◌, sym, ◌∙◌, ap}
use native.Mathlib.Nat.{zero-add}
use native.Mathlib.Omega.{arith}
use lib.ListN.{length, take, drop, replicate, length-replicate}
use lib.Seq.{sets, sets-eq, take-append_seam, drop-append-add, drop-drop}
use Rattle.calculus.specs.Outcomes.{begun, cleared}

pub sets_begun : (slice e : List ℕ) → length e ≤ length slice → sets slice 0 e ≡ begun e slice
unfolding begun
sets_begun slice e h = sets-eq e slice 0 (omega arith) ∙ ap (λ n. e ++ drop n slice) (zero-add (length e))

pub take_begun : (slice e : List ℕ) → take (length e) (begun e slice) ≡ e
unfolding begun
take_begun slice e = take-append_seam e (drop (length e) slice)

pub drop_begun : (n : ℕ) (slice e : List ℕ) → length e ≤ n → drop n (begun e slice) ≡ drop n slice
unfolding begun
drop_begun n slice e h =
    ap (λ m. drop m (e ++ drop (length e) slice)) (sym sum)
    ∙ drop-append-add e (drop (length e) slice) (n - length e)
    ∙ drop-drop (n - length e) (length e) slice
    ∙ ap (λ m. drop m slice) sum
  where
    sum : length e + (n - length e) ≡ n
    sum = omega arith

-- Two slices that are the same from `m` on, cleared up to there and further.
pub cleared_same : (n m : ℕ) (s t : List ℕ) → m ≤ n → drop m s ≡ drop m t → cleared n s ≡ cleared n t
unfolding cleared begun
cleared_same n m s t h e =
    ap (λ k. replicate n 0 ++ drop k s) size
    ∙ ap (λ l. replicate n 0 ++ l) (sym (drop-drop (n - m) m s) ∙ ap (drop (n - m)) e ∙ drop-drop (n - m) m t)
    ∙ ap (λ k. replicate n 0 ++ drop k t) (sym size)
  where
    size : length (replicate {A = ℕ} n 0) ≡ m + (n - m)
    size = omega (arith, length-replicate {A = ℕ} n 0)
