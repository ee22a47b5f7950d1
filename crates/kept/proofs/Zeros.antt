-- Clearing block by block. Where all before a block is cleared, the block is
-- now 0 and the rest is as it was, one block more is cleared: the zeros before the block and its own are one run of zeros.
use Prim.Native.Nat.{ℕ, ◌+◌, ◌-◌, ◌≤◌}
use mathlib.Core.Bool.{Bool, true, false, ◌&&◌}
use mathlib.Core.List.{List, [], ◌∷◌, ◌++◌, append_assoc}
use mathlib.Core.Logic.{◌↔◌}
use mathlib.Core.Path.{◌≡◌, refl, sym, ◌∙◌, ap, ap₂}
use native.Mathlib.Omega.{arith}
use borrow.Author.Tests.{eqb-true, eq-eqb}
use lib.Dec.{eqb}
use lib.ListN.{length, take, drop, replicate, length-replicate, replicate-append-replicate}
use lib.Seq.{length-take-le, length_front, take_at, drop_at}
use borrow.Rule.Slice.PartMut.{mid_of, post_of, put_mid, mid_len, Post-is}
use Rattle.calculus.specs.Outcomes.{begun, cleared}

-- Each word is 0.
abbrev pub IsClear : List ℕ → Type 0
IsClear ws = ws ≡ replicate (length ws) 0

-- The list with one word more at its end.
clear_all : (ws : List ℕ) (w : ℕ) → IsClear (ws ++ w ∷ []) → IsClear ws × (w ≡ 0)
clear_all [] w h = (refl, cc h)
clear_all (v ∷ ws) w h =
    let rest : IsClear (ws ++ w ∷ []) = cc h in
    let first : v ≡ 0 = cc h in
    let (front, last) = clear_all ws w rest in
    (cc (first, front), last)

clear_both : (ws : List ℕ) (w : ℕ) → IsClear ws → w ≡ 0 → IsClear (ws ++ w ∷ [])
clear_both [] w h last = cc last
clear_both (v ∷ ws) w h last =
    let rest : IsClear ws = cc h in
    let first : v ≡ 0 = cc h in
    cc (first, clear_both ws w rest last)

-- So a flag that says of a list whether it is clear says it of the longer one, with the test of the last word beside it.
pub clear_push : (ws : List ℕ) (w : ℕ) (a : Bool) {b : Bool}
    → (a ≡ true) ↔ IsClear ws
    → b ≡ (a && eqb w 0)
    → (b ≡ true) ↔ IsClear (ws ++ w ∷ [])
clear_push ws w true h e = (
  λ t. clear_both ws w (h.0 refl) (eqb-true w 0 (sym e ∙ t)),
  λ all. e ∙ eq-eqb w 0 (clear_all ws w all).1,
)
clear_push ws w false h e = (λ t. absurd (cc (t, e)), λ all. absurd (cc (h.1 (clear_all ws w all).0)))

pub clear_none : (true ≡ true) ↔ IsClear []
clear_none = (λ _. refl, λ _. refl)

pub cleared_none : (ws : List ℕ) → ws ≡ cleared 0 ws
unfolding cleared begun
cleared_none ws = refl

cleared_is : (n : ℕ) (ws : List ℕ) → cleared n ws ≡ replicate n 0 ++ drop n ws
unfolding cleared begun
cleared_is n ws = ap (λ k. replicate n 0 ++ drop k ws) (length-replicate n 0)

pub cleared_length : (n : ℕ) (ws : List ℕ) → n ≤ length ws → length (cleared n ws) ≡ length ws
cleared_length n ws l =
    ap length (cleared_is n ws) ∙ length_front ws (replicate n 0) n (length-replicate n 0 ∙ sym (length-take-le n ws l))

-- The words up to `e` are 0 now.
pub cleared_more : (n e : ℕ) (ws : List ℕ) {before after : List ℕ}
    → n ≤ e
    → e ≤ length ws
    → before ≡ cleared n ws
    → after ≡ put_mid n (e - n) before (replicate (length (mid_of n (e - n) before)) 0)
    → after ≡ cleared e ws
cleared_more n e ws {before} {after} l u h a =
    a
    ∙ ap₂ (λ x y. x ++ (replicate (length (mid_of n (e - n) before)) 0 ++ y)) front rest
    ∙ ap (λ k. zeros ++ (replicate k 0 ++ drop e ws)) (mid_len n e before inside)
    ∙ sym (append_assoc zeros (replicate (e - n) 0) (drop e ws))
    ∙ ap (λ x. x ++ drop e ws) (replicate-append-replicate n (e - n) 0)
    ∙ ap (λ k. replicate k 0 ++ drop e ws) sum
    ∙ sym (cleared_is e ws)
  where
    inside : e ≤ length before
    inside = omega (arith, ap length h, cleared_length n ws (omega arith))

    sum : n + (e - n) ≡ e
    sum = omega arith

    zeros : List ℕ
    zeros = replicate n 0

    now : before ≡ zeros ++ drop n ws
    now = h ∙ cleared_is n ws

    front : take n before ≡ zeros
    front = ap (take n) now ∙ take_at zeros (drop n ws) n (length-replicate n 0)

    rest : post_of n (e - n) before ≡ drop e ws
    rest =
        ap (λ b. drop (e - n) (drop n b)) now
        ∙ ap (drop (e - n)) (drop_at zeros (drop n ws) n (length-replicate n 0))
        ∙ Post-is n e ws l
