use Prim.Native.Nat.{ℕ, suc, ◌+◌, ◌*◌, ◌≤◌}
use mathlib.Core.Bool.{Bool, true, false, cond}
use mathlib.Core.List.{List, [], ◌∷◌}
use mathlib.Core.Logic.{◌⊎◌, inl, inr}
use mathlib.Core.Path.{◌≡◌, refl}
use native.Mathlib.Omega.{arith}
use lib.ListN.{length, drop, length-drop}
use Rattle.term.specs.declared.word.Meaning.{Meaning}
use Rattle.term.specs.declared.word.Meaning.TheVariants.{CastDown, Application}
use Rattle.reduction.specs.Stepping.{heads}
use Rattle.reduction.proofs.WordKinds.{framing, variant_kind, kind_by, frames_none}
use Rattle.reduction.proofs.Heads.{heads_at}
use Rattle.reduction.proofs.stepping.leading.Goals as goal
use Rattle.reduction.proofs.stepping.leading.Goals.{After-classify}

-- What the count is from the word on that is looked at.
counted : (c : goal.After-classify) (b : Bool)
    → framing (variant_kind c.classify.result) ≡ b
    → let ws = c.args.state.now in
    let n = c.loop-at.at in
    heads (drop (2 * n) ws) ≡ cond b (suc (heads (drop (2 * (n + 1)) ws))) 0
counted c b same =
    heads_at
    c.args.state.now
    c.loop-at.at
    (omega arith)
    (kind_by (λ k. framing k ≡ b) c.classify.result _ c.classify.ensures same)

pub returns-in_default : goal.returns-in_default
returns-in_default c =
    let d = c.in_default in
    let none = frames_none c.classify.result d.not-CastDown d.not-Application in
    omega (arith, counted (goal.at.returns-in_default c).After-classify false none)

-- A down cast or an application frames what follows.
frames : (m : Meaning) → (m ≡ CastDown) ⊎ (m ≡ Application) → framing (variant_kind m) ≡ true
frames m (inl e) = rw e refl
frames m (inr e) = rw e refl

pub loop-at-preserved : goal.loop-at-preserved
loop-at-preserved c =
    let frame = counted (goal.at.loop-at-preserved c).After-classify true (frames c.classify.result c.in-CastDown.is) in
    omega arith

-- At most one word is behind the last node.
at_end : (ws : List ℕ) (n : ℕ) → length ws ≤ 2 * n + 1 → heads (drop (2 * n) ws) ≡ 0
unfolding heads
at_end ws n h = short (drop (2 * n) ws) (omega (arith, length-drop (2 * n) ws))
  where
    short : (l : List ℕ) → length l ≤ 1 → heads l ≡ 0
    short [] s = refl
    short (w ∷ []) s = refl
    short (w ∷ v ∷ l) s = absurd (omega arith)

pub returns : goal.returns
returns c =
    let ws = c.args.state.now in
    let n = c.loop-at.at in
    omega (arith, at_end ws n (omega arith))
