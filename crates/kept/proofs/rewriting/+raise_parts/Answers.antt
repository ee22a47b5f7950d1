use Prim.Native.Nat.{ℕ, ◌+◌, ◌*◌, ◌≤◌, ◌<◌}
use mathlib.Core.List.{List, [], ◌∷◌}
use mathlib.Core.Path.{◌≡◌, sym, ap, ◌∙◌, subst}
use native.Mathlib.Omega.{arith}
use borrow.Author.Rules.{rules}
use lib.ListN.{length, length-take}
use lib.Seq.{sets}
use Rattle.calculus.specs.Term.{Term, raise, size}
use Rattle.calculus.specs.Words.{Worded, longest}
use Rattle.calculus.proofs.Coding.{size_positive}
use Rattle.term.specs.Kept.{Lies, kept}
use Rattle.term.proofs.Keeping.{lies_within, lies_one}
use Rattle.term.proofs.Words.{shape_two}
use Rattle.kept.specs.Rewriting.{Subject, Surveyed}
use Rattle.kept.proofs.InPlace.{Parted, parted, clear_raised, subject_worded}
use Rattle.kept.proofs.rewriting.+raise_parts.Goals as goal
use Rattle.kept.proofs.rewriting.+raise_parts.Goals.{Joined-length-eq1, then-length-eq1, else-length-eq1+then-from-back, else-length-eq1+else-from-back}

-- The node and its first part.
module _ {slice : List ℕ} {n d by : ℕ} {first : List ℕ}
    (given : ((e : Term) × Subject e slice n d × Surveyed e slice n first × (1 < size e)) × (by ≤ longest)) where
  node : Parted by slice n d first given.0.0
  node = parted by given.0.1 given.0.2 given.0.3

  -- It stands in the slice whole.
  inside : 2 * (n + 1 + size node.part) ≤ length slice
  inside = lies_within node.subject.lies

  low : n + 1 + size node.part ≤ longest
  low = omega (arith, node.surveyed.reach, node.surveyed.within)

  -- The term there is one.
  same : (e : Term)
      → Lies e slice n
      → Worded e
      → sets slice (2 * n) (kept (raise by d given.0.0)) ≡ sets slice (2 * n) (kept (raise by d e))
  same e l has =
      let subject = given.0.1 in
      let is = lies_one (subject_worded subject) has subject.lies l in
      ap (λ x. sets slice (2 * n) (kept (raise by d x))) is

-- A part of more than one node.
many : (n : ℕ) (p : Term) → n ≡ size p → (n ≡ 1 → ⊥) → 1 < size p
many n p h not = omega (arith, h, not, size_positive p)

-- With the first part raised.
first : (t : ℕ) (c : Joined-length-eq1 t)
    → let a = c.args in
    c.if-length-eq1.slice ≡ sets a.slice.now (2 * (a.node + 1)) (kept (raise a.by a.depth (node c.requires).part))
first t c =
    let a = c.args in
    let p = node c.requires in
    let l = c.length_at-length.ensures.value_2 p.part p.subject.lies in
    elim c.if-length-eq1.branch [
      | then-length-eq1 w ↦ w.slice-is ∙ w.raise_leaf.ensures p.part p.subject.lies (subject_worded p.subject) (sym l ∙ w.if-length-eq1.true)
      | else-length-eq1+then-from-back w ↦ w.slice-is ∙ w.raise_parts.ensures p.part p.subject.lies (subject_worded p.subject)
      | else-length-eq1+else-from-back w ↦
          w.slice-is ∙ clear_raised a.by a.depth p.subject.lies p.surveyed (omega (arith, w.if-from-back.false, w.from.ensures, l))
    ]

-- `Behind by slice n d first e after m k`: the second part of the node `e`, where the word has two, in the slice with the first part
-- raised: at its node, and under the binders around it. With it raised too, the node is.
record Behind (by : ℕ) (slice : List ℕ) (n d : ℕ) (first : List ℕ) (e : Term) (after : List ℕ) (m k : ℕ) : Type 0 where
  part : Term
  subject : Subject part after m k
  surveyed : Surveyed part after m first
  near : m + size part ≤ longest
  whole : sets after (2 * m) (kept (raise by k part)) ≡ sets slice (2 * n) (kept (raise by d e))

behind : (t : ℕ) (c : Joined-length-eq1 t)
    → 1 < c.shape_of-shape.result.parts
    → let a = c.args in
    Behind
    a.by
    a.slice.now
    a.node
    a.depth
    a.first.now
    c.requires.0.0
    c.if-length-eq1.slice
    (a.node + 1 + c.length_at-length.result)
    (a.depth + c.shape_of-shape.result.bound)
behind t c two =
    let a = c.args in
    let p = node c.requires in
    let l = c.length_at-length.ensures.value_2 p.part p.subject.lies in
    let shape = c.shape_of-shape in
    let m = a.node + 1 + c.length_at-length.result in
    let k = a.depth + shape.result.bound in
    let second = p.second
    shape.result.bound
    m
    (ap (λ x. a.node + 1 + x) l)
    (sym shape.ensures ∙ shape_two shape.result two) in
    let back = sym (first t c) in
    record {
      part = second.part;
      subject = subst (λ s. Subject second.part s m k) back second.subject;
      surveyed = subst (λ s. Surveyed second.part s m a.first.now) back second.surveyed;
      near = omega (arith, second.surveyed.reach, second.surveyed.within);
      whole = ap (λ s. sets s (2 * m) (kept (raise a.by k second.part))) (first t c) ∙ second.whole;
    }

pub bounds-slice-node : goal.bounds-slice-node
bounds-slice-node t c = omega (arith, inside c.requires)

pub length_at-length-requires : goal.length_at-length-requires
length_at-length-requires t c = omega (arith, inside c.requires, size_positive (node c.requires).part)

pub raise_leaf-requires : goal.raise_leaf-requires
raise_leaf-requires t c =
    let p = node c.requires in
    let l = c.length_at-length.ensures.value_2 p.part p.subject.lies in
    ((p.part, p.subject, sym l ∙ c.if-length-eq1.true), c.requires.1)

pub raise_parts-requires : goal.raise_parts-requires
raise_parts-requires t c =
    let p = node c.requires in
    let l = c.length_at-length.ensures.value_2 p.part p.subject.lies in
    let more = many c.length_at-length.result p.part l c.if-length-eq1.false in
    (omega (arith, c.decreases, low c.requires), ((p.part, p.subject, p.surveyed, more), c.requires.1))

pub overflow_add-inner : goal.overflow_add-inner
overflow_add-inner t c =
    let h = (behind t (goal.at.overflow_add-inner t c).Joined-length-eq1 c.if-count-gt1.true).subject.near in
    search rules

pub length_at-more-requires : goal.length_at-more-requires
length_at-more-requires t c =
    let q = behind t (goal.at.length_at-more-requires t c).Joined-length-eq1 c.if-count-gt1.true in
    omega (arith, lies_within q.subject.lies, size_positive q.part)

pub raise_leaf-requires-then-more-eq1 : goal.raise_leaf-requires-then-more-eq1
raise_leaf-requires-then-more-eq1 t c =
    let q = behind t (goal.at.raise_leaf-requires-then-more-eq1 t c).Joined-length-eq1 c.if-count-gt1.true in
    let l = c.length_at-more.ensures.value_2 q.part q.subject.lies in
    ((q.part, q.subject, sym l ∙ c.if-more-eq1.true), c.requires.1)

pub bounds-first-back : goal.bounds-first-back
bounds-first-back t c =
    let q = behind t (goal.at.bounds-first-back t c).Joined-length-eq1 c.if-count-gt1.true in
    omega (arith, q.near, size_positive q.part)

pub raise_parts-requires-then-from-back-2 : goal.raise_parts-requires-then-from-back-2
raise_parts-requires-then-from-back-2 t c =
    let q = behind t (goal.at.raise_parts-requires-then-from-back-2 t c).Joined-length-eq1 c.if-count-gt1.true in
    let l = c.length_at-more.ensures.value_2 q.part q.subject.lies in
    let more = many c.length_at-more.result q.part l c.if-more-eq1.false in
    (omega (arith, c.decreases, q.near, size_positive q.part), ((q.part, q.subject, q.surveyed, more), c.requires.1))

pub returns-then-more-eq1 : goal.returns-then-more-eq1
returns-then-more-eq1 t c e l has =
    let q = behind t (goal.at.returns-then-more-eq1 t c).Joined-length-eq1 c.if-count-gt1.true in
    let one = sym (c.length_at-more.ensures.value_2 q.part q.subject.lies) ∙ c.if-more-eq1.true in
    c.raise_leaf-then-more-eq1.ensures q.part q.subject.lies (subject_worded q.subject) one ∙ q.whole ∙ same c.requires e l has

pub returns-then-from-back-2 : goal.returns-then-from-back-2
returns-then-from-back-2 t c e l has =
    let q = behind t (goal.at.returns-then-from-back-2 t c).Joined-length-eq1 c.if-count-gt1.true in
    c.raise_parts-then-from-back-2.ensures q.part q.subject.lies (subject_worded q.subject) ∙ q.whole ∙ same c.requires e l has

pub returns-else-from-back-2 : goal.returns-else-from-back-2
returns-else-from-back-2 t c e l has =
    let q = behind t (goal.at.returns-else-from-back-2 t c).Joined-length-eq1 c.if-count-gt1.true in
    let long = c.length_at-more.ensures.value_2 q.part q.subject.lies in
    let k = c.args.depth + c.shape_of-shape.result.bound in
    clear_raised c.args.by k q.subject.lies q.surveyed (omega (arith, c.if-from-back-2.false, c.from-else-more-eq1.ensures, long)) ∙ q.whole ∙ same c.requires e l has

-- A node with one part is raised where that is.
pub returns-else-count-gt1 : goal.returns-else-count-gt1
returns-else-count-gt1 t c e l has =
    let shape = c.shape_of-shape in
    let few = length-take shape.result.parts (0 ∷ shape.result.bound ∷ []) in
    first t (goal.at.returns-else-count-gt1 t c).Joined-length-eq1
    ∙ (node c.requires).alone (omega (arith, few, ap length shape.ensures, c.if-count-gt1.false))
    ∙ same c.requires e l has
