use Prim.Native.Nat.{ℕ, ◌+◌, ◌*◌, ◌-◌, ◌≤◌, ◌<◌, min}
use mathlib.Core.List.{List}
use mathlib.Core.Path.{◌≡◌, refl, sym, ap, ◌∙◌}
use native.Mathlib.Omega.{arith}
use lib.ListN.{length, drop, length-drop, length-set}
use lib.Seq.{sets}
use borrow.Author.Rules.{rules}
use Rattle.calculus.specs.Words.{longest}
use Rattle.term.specs.Kept.{length_at}
use Rattle.term.specs.Walk.{span}
use Rattle.term.proofs.Walking.{span_le, span_none, span_add}
use Rattle.kept.proofs.Noting.{noted_words, noted_none, noted_all, noted_before, noted_span, span_node}
use Rattle.kept.proofs.keeping.note.Goals as goal
use Rattle.kept.proofs.keeping.note.Goals.{After-noted-length, After-noted-length-then-count-gt1, Joined-count-gt0, Joined-count-gt1, then-count-gt0, else-count-gt0, then-count-gt1, else-count-gt1}

pub loop-node-init : goal.loop-node-init
loop-node-init c =
    let a = c.args in
    let plain = a.plain.now in
    (omega arith, omega arith, refl, refl, noted_none plain a.out.now a.at (2 * (a.at + length plain)))

-- In the loop: the words behind the node, which are noted already.
abbrev behind : List ℕ → ℕ → ℕ → List ℕ
behind plain at node = drop (node - at) plain

ends : (plain : List ℕ) (at node : ℕ)
    → (at ≤ node) × (node ≤ at + length plain)
    → at + length plain ≡ node + length (behind plain at node)
ends plain at node inside = omega (arith, length-drop (node - at) plain)

-- What is noted at `j` words behind the node.
said : (before plain : List ℕ) (at node : ℕ) {out : List ℕ}
    → 2 * (at + length plain) ≤ length before
    → (at ≤ node) × (node ≤ at + length plain)
    → out ≡ sets before (2 * node) (noted_words (behind plain at node))
    → (j p : ℕ) {r : ℕ}
    → j ≤ length (behind plain at node)
    → p ≡ node + j
    → (p < at + length plain → r ≡ length_at out p) × (at + length plain ≤ p → r ≡ 0)
    → r ≡ span (drop j (behind plain at node)) 1
said before plain at node room inside noted =
    noted_span before (behind plain at node) node (at + length plain) (ends plain at node inside) room noted

first_noted : (c : After-noted-length) → c.noted-length.result ≡ span (behind c.args.plain.now c.args.at c.loop-node.node) 1
first_noted c =
    let a = c.args in
    let l = c.loop-node in
    let inside : (a.at ≤ l.node) × (l.node ≤ a.at + length a.plain.now) = (omega arith, omega arith) in
    said a.out.now a.plain.now a.at l.node (omega arith) inside l.invariant.4 0 (l.node - 1 + 1) (omega arith) (omega arith)
    c.noted-length.ensures

-- The length as far as the first part.
first_length : (c : Joined-count-gt0)
    → c.if-count-gt0.length ≡ 1 + span (behind c.args.plain.now c.args.at c.loop-node.node) (min c.shape_of-shape.result.parts 1)
first_length c =
    let a = c.args in
    let l = c.loop-node in
    let inside : (a.at ≤ l.node) × (l.node ≤ a.at + length a.plain.now) = (omega arith, omega arith) in
    let count = c.shape_of-shape.result.parts in
    let ws = behind c.args.plain.now c.args.at l.node in
    elim c.if-count-gt0.branch [
      | then-count-gt0 w ↦
          let one : min count 1 ≡ 1 = omega (arith, w.if-count-gt0.true) in
          let r =
          said a.out.now a.plain.now a.at l.node (omega arith) inside l.invariant.4 0 (l.node - 1 + 1) (omega arith) (omega arith)
          w.noted-length.ensures
          in
          w.length-is ∙ rw one (ap (λ n. 1 + n) r)
      | else-count-gt0 w ↦
          let none : min count 1 ≡ 0 = omega (arith, w.if-count-gt0.false) in
          w.length-is ∙ rw (none, span_none ws) refl
    ]

-- And as far as the second.
second_noted : (c : After-noted-length-then-count-gt1)
    → let ws = behind c.args.plain.now c.args.at c.loop-node.node in
    c.if-count-gt0.length ≡ 1 + span ws (min c.shape_of-shape.result.parts 1)
    → c.noted-length-then-count-gt1.result ≡ span (drop (span ws 1) ws) 1
second_noted c h =
    let a = c.args in
    let l = c.loop-node in
    let inside : (a.at ≤ l.node) × (l.node ≤ a.at + length a.plain.now) = (omega arith, omega arith) in
    let ws = behind a.plain.now a.at l.node in
    let one : min c.shape_of-shape.result.parts 1 ≡ 1 = omega (arith, c.if-count-gt1.true) in
    let first : c.if-count-gt0.length ≡ 1 + span ws 1 = rw one at h in
    said a.out.now a.plain.now a.at l.node (omega arith) inside l.invariant.4 (span ws 1) (l.node - 1 + c.if-count-gt0.length)
    (span_le ws 1) (omega arith) c.noted-length-then-count-gt1.ensures

second_length : (c : Joined-count-gt1)
    → let ws = behind c.args.plain.now c.args.at c.loop-node.node in
    c.if-count-gt0.length ≡ 1 + span ws (min c.shape_of-shape.result.parts 1)
    → c.if-count-gt1.length ≡ 1 + span ws (min c.shape_of-shape.result.parts 2)
second_length c h =
    let a = c.args in
    let l = c.loop-node in
    let inside : (a.at ≤ l.node) × (l.node ≤ a.at + length a.plain.now) = (omega arith, omega arith) in
    let n = c.shape_of-shape.result.parts in
    let ws = behind c.args.plain.now c.args.at l.node in
    elim c.if-count-gt1.branch [
      | then-count-gt1 w ↦
          let one : min n 1 ≡ 1 = omega (arith, w.if-count-gt1.true) in
          let two : min n 2 ≡ 1 + 1 = omega (arith, w.if-count-gt1.true) in
          let first : c.if-count-gt0.length ≡ 1 + span ws 1 = rw one at h in
          let r =
          said
          a.out.now
          a.plain.now
          a.at
          l.node
          (omega arith)
          inside
          l.invariant.4
          (span ws 1)
          (l.node - 1 + c.if-count-gt0.length)
          (span_le ws 1)
          (omega arith)
          w.noted-length-then-count-gt1.ensures
          in
          w.length-is ∙ rw two (omega (arith, first, r, span_add ws 1 1))
      | else-count-gt1 w ↦
          let same : min n 2 ≡ min n 1 = omega (arith, w.if-count-gt1.false) in
          w.length-is ∙ h ∙ ap (λ k. 1 + span ws k) (sym same)
    ]

-- No length is more than the words.
short : (plain : List ℕ) (at node : ℕ)
    → (at ≤ node) × (node ≤ at + length plain)
    → length plain ≤ longest
    → length (behind plain at node) ≤ 1024
short plain at node inside few = omega (arith, ends plain at node inside)

pub overflow_add-length : goal.overflow_add-length
overflow_add-length c =
    let a = c.args in
    let l = c.loop-node in
    let ws = behind a.plain.now a.at l.node in
    let few = short a.plain.now a.at l.node (omega arith, omega arith) c.requires.1 in
    let low : c.noted-length.result ≤ 1024 = omega (arith, first_noted (goal.at.overflow_add-length c).After-noted-length, span_le ws 1, few) in
    search rules

first_short : (c : Joined-count-gt0) → c.if-count-gt0.length ≤ 1025
first_short c =
    let a = c.args in
    let l = c.loop-node in
    let ws = behind a.plain.now a.at l.node in
    let few = short a.plain.now a.at l.node (omega arith, omega arith) c.requires.1 in
    omega (arith, first_length c, span_le ws (min c.shape_of-shape.result.parts 1), few)

pub overflow_add-node-then-count-gt1 : goal.overflow_add-node-then-count-gt1
overflow_add-node-then-count-gt1 c =
    let low = first_short (goal.at.overflow_add-node-then-count-gt1 c).Joined-count-gt0 in
    search rules

pub overflow_add-length-then-count-gt1 : goal.overflow_add-length-then-count-gt1
overflow_add-length-then-count-gt1 c =
    let a = c.args in
    let l = c.loop-node in
    let ws = behind a.plain.now a.at l.node in
    let few = short a.plain.now a.at l.node (omega arith, omega arith) c.requires.1 in
    let at = (goal.at.overflow_add-length-then-count-gt1 c).Joined-count-gt0 in
    let low = first_short at in
    let second = second_noted (goal.at.overflow_add-length-then-count-gt1 c).After-noted-length-then-count-gt1 (first_length at) in
    let more : c.noted-length-then-count-gt1.result ≤ 1024 =
    omega (arith, second, span_le (drop (span ws 1) ws) 1, length-drop (span ws 1) ws, few)
    in
    search rules

pub narrow-requires : goal.narrow-requires
narrow-requires c =
    let a = c.args in
    let l = c.loop-node in
    let ws = behind a.plain.now a.at l.node in
    let few = short a.plain.now a.at l.node (omega arith, omega arith) c.requires.1 in
    let long =
    second_length (goal.at.narrow-requires c).Joined-count-gt1 (first_length (goal.at.narrow-requires c).Joined-count-gt0)
    in
    omega (arith, long, span_le ws (min c.shape_of-shape.result.parts 2), few)

pub loop-node-preserved : goal.loop-node-preserved
loop-node-preserved c =
    let a = c.args in
    let l = c.loop-node in
    let shape = c.shape_of-shape in
    let ws = behind a.plain.now a.at l.node in
    let long =
    second_length (goal.at.loop-node-preserved c).Joined-count-gt1 (first_length (goal.at.loop-node-preserved c).Joined-count-gt0)
    in
    let extent = c.narrow.ensures ∙ long ∙ sym (span_node shape.result _ ws shape.ensures) in (
      omega arith,
      omega arith,
      refl,
      simp length-set l.invariant.3,
      noted_before a.out.now a.plain.now a.at l.node c.narrow.result (omega arith, omega arith) l.invariant.4 extent,
    )

pub returns : goal.returns
returns c t e =
    let a = c.args in
    noted_all t a.out.now a.plain.now a.at c.loop-node.node e (omega arith) c.loop-node.invariant.4
