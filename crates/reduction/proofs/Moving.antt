-- The lengths of leading nodes moved by one difference, node after node: where those of all can be moved, that of each can; and
-- the nodes so far and the next one are one run of stores.
use Prim.Native.Nat.{ℕ, zero, suc, ◌+◌, ◌-◌, ◌*◌, ◌≤◌, ◌<◌}
use mathlib.Core.List.{List, [], ◌∷◌, ◌++◌}
use mathlib.Core.Path.{◌≡◌, refl, sym, ap, ◌∙◌, subst}
use native.Mathlib.Numerals.{add-one}
use native.Mathlib.Omega.{arith}
use lib.ListN.{length, take, drop, get_or, set}
use lib.Seq.{sets, drop-cons, take-add, length-take-le, get_or-take}
use Rattle.calculus.specs.Words.{longest}
use Rattle.calculus.proofs.Stores.{sets_append}
use Rattle.term.specs.Kept.{word_at, length_at}
use Rattle.reduction.specs.Stepping.{moved, Movable}

each_movable : (old new : ℕ) (ws : List ℕ) (n : ℕ)
    → 2 * n + 1 < length ws
    → Movable old new ws
    → (length_at ws n ≤ longest) × (old ≤ length_at ws n + new)
unfolding Movable
each_movable old new [] n h m = absurd (omega arith)
each_movable old new (w ∷ []) n h m = absurd (omega arith)
each_movable old new (w ∷ l ∷ ws) zero h m = (m.0, m.1)
each_movable old new (w ∷ l ∷ ws) (suc n) h m =
    let twice : suc (suc (2 * n + 1)) ≡ 2 * suc n + 1 = omega arith in
    subst
    (λ k. (get_or (w ∷ l ∷ ws) k 0 ≤ longest) × (old ≤ get_or (w ∷ l ∷ ws) k 0 + new))
    twice
    (each_movable old new ws n (omega arith) m.2)

-- The same of the first nodes of a slice.
pub movable_at : (old new : ℕ) (ws : List ℕ) (at n : ℕ)
    → 2 * at ≤ length ws
    → n < at
    → Movable old new (take (2 * at) ws)
    → (length_at ws n ≤ longest) × (old ≤ length_at ws n + new)
movable_at old new ws at n inside h m =
    subst
    (λ l. (l ≤ longest) × (old ≤ l + new))
    (get_or-take (2 * at) ws (2 * n + 1) 0 (omega arith))
    (each_movable old new (take (2 * at) ws) n (omega (arith, length-take-le (2 * at) ws inside)) m)

pub moved_length : (old new : ℕ) (ws : List ℕ) → length (moved old new ws) ≡ length ws
unfolding moved
moved_length old new [] = refl
moved_length old new (w ∷ []) = refl
moved_length old new (w ∷ l ∷ ws) = ap (λ n. suc (suc n)) (moved_length old new ws)

moved_append : (old new : ℕ) (ws vs : List ℕ) (n : ℕ)
    → length ws ≡ 2 * n
    → moved old new (ws ++ vs) ≡ moved old new ws ++ moved old new vs
unfolding moved
moved_append old new [] vs n h = refl
moved_append old new (w ∷ []) vs n h = absurd (omega arith)
moved_append old new (w ∷ l ∷ ws) vs n h =
    ap (λ rest. w ∷ (l + new - old) ∷ rest) (moved_append old new ws vs (n - 1) (omega arith))

pub moved_next : (old new : ℕ) (out ws : List ℕ) (n : ℕ)
    → 2 * n + 1 < length ws
    → set (set (sets out 0 (moved old new (take (2 * n) ws))) (2 * n) (word_at ws n)) (2 * n + 1) (length_at ws n + new - old)
    ≡ sets out 0 (moved old new (take (2 * (n + 1)) ws))
unfolding moved
moved_next old new out ws n h =
    ap (λ k. set (set (sets out 0 so_far) (2 * n) w) k l) (add-one (2 * n))
    ∙ ap (λ k. set (set (sets out 0 so_far) k w) (suc k) l) place
    ∙ sym (sets_append out 0 so_far (w ∷ l ∷ []))
    ∙ ap (sets out 0) (sym split)
  where
    w : ℕ
    w = word_at ws n

    l : ℕ
    l = length_at ws n + new - old

    so_far : List ℕ
    so_far = moved old new (take (2 * n) ws)

    passed : length (take (2 * n) ws) ≡ 2 * n
    passed = length-take-le (2 * n) ws (omega arith)

    place : 2 * n ≡ 0 + length so_far
    place = omega (arith, moved_length old new (take (2 * n) ws), passed)

    two : 2 * (n + 1) ≡ 2 * n + 2
    two = omega arith

    node : drop (2 * n) ws ≡ w ∷ length_at ws n ∷ drop (suc (suc (2 * n))) ws
    node =
        drop-cons ws (2 * n) 0 (omega arith)
        ∙ ap (λ rest. w ∷ rest) (drop-cons ws (suc (2 * n)) 0 (omega arith))
        ∙ ap (λ k. w ∷ get_or ws k 0 ∷ drop (suc (suc (2 * n))) ws) (sym (add-one (2 * n)))

    split : moved old new (take (2 * (n + 1)) ws) ≡ so_far ++ (w ∷ l ∷ [])
    split =
        ap (λ k. moved old new (take k ws)) two
        ∙ ap (moved old new) (take-add (2 * n) 2 ws ∙ ap (λ rest. take (2 * n) ws ++ take 2 rest) node)
        ∙ moved_append old new (take (2 * n) ws) (w ∷ length_at ws n ∷ []) n passed
