use Prim.Native.Nat.{ℕ, ◌+◌, ◌*◌, ◌≤◌, ◌<◌}
use mathlib.Core.List.{List, [], ◌∷◌, ◌++◌}
use mathlib.Core.Path.{◌≡◌, sym, ap, ◌∙◌, subst}
use native.Mathlib.Omega.{arith}
use lib.ListN.{length, length-take}
use Rattle.std.specs.Prelude.{Option, Some}
use Rattle.calculus.specs.Term.{Term, substitute, size}
use Rattle.calculus.specs.Words.{Worded, longest}
use Rattle.calculus.specs.Meaning.{binds, meaning}
use Rattle.calculus.proofs.Coding.{size_positive}
use Rattle.term.specs.Kept.{Lies, kept, word_at}
use Rattle.term.specs.declared.word.Shape.{Shape}
use Rattle.term.specs.Word.{shape_of}
use Rattle.term.proofs.Nodes.{view}
use Rattle.term.proofs.Keeping.{kept_length, lies_one, lies_within}
use Rattle.term.proofs.Words.{shape_none, shape_two}
use Rattle.kept.specs.Rewriting.{Subject, Surveyed}
use Rattle.kept.specs.Writing.{Puts}
use Rattle.kept.proofs.Composed.{Composes, put_length, put_place, put_room, puts_as, puts_node, puts_short, puts_then, spelled_length}
use Rattle.kept.proofs.InPlace.{fits_worded, subject_worded}
use Rattle.kept.proofs.Putting.{FirstPart, SecondPart, first_part, index_small, is_variable, kept_leaf}
use Rattle.kept.proofs.Putting.{no_parts_leaf, other_word, shape_some}
use Rattle.kept.proofs.rewriting.+rewrite.Goals as goal
use Rattle.kept.proofs.rewriting.+rewrite.Goals.{Joined-stays, Joined-count-gt1, then-stays+in_ok-end, else-stays+in_ok-end-2, then-count-gt1+then-stays-2+in_ok-end-3, then-count-gt1+else-stays-2+in_ok-end-4, else-count-gt1}

module _ {source : List ℕ} {n d : ℕ} {first : List ℕ} (s : (e : Term) × Subject e source n d × Surveyed e source n first) where
  inside : 2 * (n + size s.0) ≤ length source
  inside = lies_within s.1.lies

  low : n < longest
  low = omega (arith, s.2.reach, s.2.within, size_positive s.0)

  -- What is to be shown, of one term: only one lies there.
  of_one : {out : List ℕ} {at : ℕ} {r : Option ℕ} {after : List ℕ} (u : Term)
      → Puts (kept (substitute d u s.0)) out at r after
      → (e : Term)
      → Lies e source n
      → Worded e
      → Puts (kept (substitute d u e)) out at r after
  of_one {out} {at} {r} {after} u p e l has =
      let is = lies_one (subject_worded s.1) has s.1.lies l in
      subst (λ x. Puts (kept (substitute d u x)) out at r after) is p

  -- The parts of a node by its shape: the first, and the second where it has two.
  module _ (shape : Shape) (is : shape_of shape ≡ binds (meaning (word_at source n))) (some : shape.parts ≡ 0 → ⊥) where
    front : FirstPart source n d first s.0
    front = first_part (view s.0) s.1 s.2 (λ none. shape_some shape some (is ∙ none))

    back : 1 < shape.parts
        → (l : ℕ)
        → l ≡ size front.part
        → SecondPart source n d first s.0 front.part shape.bound (n + 1 + l)
    back two l long = front.second shape.bound (n + 1 + l) (ap (λ x. n + 1 + x) long) (sym is ∙ shape_two shape two)

pub bounds-survey-node : goal.bounds-survey-node
bounds-survey-node t c = omega (arith, inside c.requires.2, size_positive c.requires.2.0)

-- A variable.
pub put_variable-requires : goal.put_variable-requires
put_variable-requires t c = (
  c.requires.0,
  index_small (word_at c.args.survey.now.source.now c.args.node) c.in-Variable.index c.in-Variable.ensures,
  omega (arith, c.requires.2.1.near),
  c.requires.3,
)

pub returns-in-Variable : goal.returns-in-Variable
returns-in-Variable t c e u l has coded has' =
    let same = is_variable (view e) l c.in-Variable.index c.in-Variable.ensures in
    puts_as (c.put_variable.ensures u coded has') (ap (λ x. kept (substitute c.args.depth u x)) (sym same))

-- A node that is no variable, and has no parts: a star or a name.
pub returns-in_err-start : goal.returns-in_err-start
returns-in_err-start t c e u l has coded has' =
    let x = substitute c.args.depth u e in
    puts_short c.from_residual.ensures c.in_err-start.ensures (omega (arith, kept_length x, size_positive x))

pub returns-then-count-eq0 : goal.returns-then-count-eq0
returns-then-count-eq0 t c e u l has coded has' =
    let shape = c.shape_of-shape in
    let word = word_at c.args.survey.now.source.now c.args.node in
    let named = other_word word c.classify.result c.classify.ensures c.in_default.not-Variable in
    let none = sym shape.ensures ∙ shape_none shape.result c.if-count-eq0.true in
    let same = kept_leaf (view e) c.args.depth u l has (no_parts_leaf (view e) l none) (λ free. named (omega (arith, free))) in
    puts_as c.in_ok-start.ensures (sym same)

-- The first part.
pub stays-requires : goal.stays-requires
stays-requires t c =
    let p = front c.requires.2 c.shape_of-shape.result c.shape_of-shape.ensures c.if-count-eq0.false in
    (p.part, p.subject, p.surveyed)

pub put_same-requires : goal.put_same-requires
put_same-requires t c =
    let p = front c.requires.2 c.shape_of-shape.result c.shape_of-shape.ensures c.if-count-eq0.false in
    (put_room c.in_ok-start.ensures, (p.part, p.subject.lies))

pub rewrite-requires : goal.rewrite-requires
rewrite-requires t c =
    let p = front c.requires.2 c.shape_of-shape.result c.shape_of-shape.ensures c.if-count-eq0.false in
    let put = c.in_ok-start.ensures in (
      omega (arith, c.decreases, low c.requires.2),
      (
        put_room put,
        omega (arith, put_length put, (put_place put).0, c.requires.1),
        (p.part, p.subject, p.surveyed),
        c.requires.3,
      ),
    )

pub returns-in_err-end : goal.returns-in_err-end
returns-in_err-end t c e u l has coded has' =
    let p = front c.requires.2 c.shape_of-shape.result c.shape_of-shape.ensures c.if-count-eq0.false in
    let same = c.stays.ensures c.if-stays.true p.part u p.subject.lies (subject_worded p.subject) in
    let none = puts_then c.in_ok-start.ensures (puts_as (c.in_err-end.ensures p.part p.subject.lies) (ap kept (sym same))) in
    of_one c.requires.2 u (puts_short c.from_residual-in_err-end.ensures none (omega (arith, p.longer u))) e l has

pub returns-in_err-end-2 : goal.returns-in_err-end-2
returns-in_err-end-2 t c e u l has coded has' =
    let p = front c.requires.2 c.shape_of-shape.result c.shape_of-shape.ensures c.if-count-eq0.false in
    let called = c.in_err-end-2.ensures p.part u p.subject.lies (subject_worded p.subject) coded has' in
    let none = puts_then c.in_ok-start.ensures called in
    of_one c.requires.2 u (puts_short c.from_residual-in_err-end-2.ensures none (omega (arith, p.longer u))) e l has

-- With the node's own words, and the first part as it is or by a call.
first_put : (t : ℕ) (c : Joined-stays t) (u : Term)
    → let a = c.args in
    let p = front c.requires.2 c.shape_of-shape.result c.shape_of-shape.ensures c.if-count-eq0.false in
    a.argument.now.nodes.now ≡ kept u
    → Worded u
    → Puts
    (word_at a.survey.now.source.now a.node ∷ 1 ∷ kept (substitute a.depth u p.part))
    a.out.now
    a.at
    (Some c.if-stays.end)
    c.if-stays.out
first_put t c u coded has' =
    let p = front c.requires.2 c.shape_of-shape.result c.shape_of-shape.ensures c.if-count-eq0.false in
    elim c.if-stays.branch [
      | then-stays+in_ok-end w ↦
          let same = c.stays.ensures w.if-stays.true p.part u p.subject.lies (subject_worded p.subject) in
          let put = puts_as (w.in_ok-end.ensures p.part p.subject.lies) (ap kept (sym same)) in
          rw (w.end-is, w.out-is) (puts_then c.in_ok-start.ensures put)
      | else-stays+in_ok-end-2 w ↦
          let put = w.in_ok-end-2.ensures p.part u p.subject.lies (subject_worded p.subject) coded has' in
          rw (w.end-is, w.out-is) (puts_then c.in_ok-start.ensures put)
    ]

-- The second part.
pub length_at-requires : goal.length_at-requires
length_at-requires t c =
    let p = front c.requires.2 c.shape_of-shape.result c.shape_of-shape.ensures c.if-count-eq0.false in
    omega (arith, lies_within p.subject.lies, size_positive p.part)

pub overflow_add-back : goal.overflow_add-back
overflow_add-back t c =
    let p = front c.requires.2 c.shape_of-shape.result c.shape_of-shape.ensures c.if-count-eq0.false in
    let long = c.length_at.ensures.value_2 p.part p.subject.lies in
    record { fits = omega (arith, long, p.surveyed.reach, p.surveyed.within) }

pub overflow_add-inner : goal.overflow_add-inner
overflow_add-inner t c =
    let p = front c.requires.2 c.shape_of-shape.result c.shape_of-shape.ensures c.if-count-eq0.false in
    let long = c.length_at.ensures.value_2 p.part p.subject.lies in
    let q =
    back c.requires.2 c.shape_of-shape.result c.shape_of-shape.ensures c.if-count-eq0.false c.if-count-gt1.true c.length_at.result long
    in
    record { fits = omega (arith, q.subject.near) }

pub stays-requires-then-count-gt1 : goal.stays-requires-then-count-gt1
stays-requires-then-count-gt1 t c =
    let p = front c.requires.2 c.shape_of-shape.result c.shape_of-shape.ensures c.if-count-eq0.false in
    let long = c.length_at.ensures.value_2 p.part p.subject.lies in
    let q =
    back c.requires.2 c.shape_of-shape.result c.shape_of-shape.ensures c.if-count-eq0.false c.if-count-gt1.true c.length_at.result long
    in
    (q.part, q.subject, q.surveyed)

-- There is an argument.
pub put_same-requires-then-stays-2 : goal.put_same-requires-then-stays-2
put_same-requires-then-stays-2 t c =
    let p = front c.requires.2 c.shape_of-shape.result c.shape_of-shape.ensures c.if-count-eq0.false in
    let long = c.length_at.ensures.value_2 p.part p.subject.lies in
    let q =
    back c.requires.2 c.shape_of-shape.result c.shape_of-shape.ensures c.if-count-eq0.false c.if-count-gt1.true c.length_at.result long
    in
    let (u, put_in) = c.requires.3 in
    let first =
    first_put t (goal.at.put_same-requires-then-stays-2 t c).Joined-stays u put_in.coded (fits_worded put_in.fits)
    in
    (put_room first, (q.part, q.subject.lies))

pub rewrite-requires-else-stays-2 : goal.rewrite-requires-else-stays-2
rewrite-requires-else-stays-2 t c =
    let p = front c.requires.2 c.shape_of-shape.result c.shape_of-shape.ensures c.if-count-eq0.false in
    let long = c.length_at.ensures.value_2 p.part p.subject.lies in
    let q =
    back c.requires.2 c.shape_of-shape.result c.shape_of-shape.ensures c.if-count-eq0.false c.if-count-gt1.true c.length_at.result long
    in
    let (u, put_in) = c.requires.3 in
    let first =
    first_put t (goal.at.rewrite-requires-else-stays-2 t c).Joined-stays u put_in.coded (fits_worded put_in.fits)
    in (
      omega (arith, c.decreases, low c.requires.2),
      (
        put_room first,
        omega (arith, put_length first, (put_place first).0, c.requires.1),
        (q.part, q.subject, q.surveyed),
        c.requires.3,
      ),
    )

pub returns-in_err-end-3 : goal.returns-in_err-end-3
returns-in_err-end-3 t c e u l has coded has' =
    let p = front c.requires.2 c.shape_of-shape.result c.shape_of-shape.ensures c.if-count-eq0.false in
    let long = c.length_at.ensures.value_2 p.part p.subject.lies in
    let q =
    back c.requires.2 c.shape_of-shape.result c.shape_of-shape.ensures c.if-count-eq0.false c.if-count-gt1.true c.length_at.result long
    in
    let same = c.stays-then-count-gt1.ensures c.if-stays-2.true q.part u q.subject.lies (subject_worded q.subject) in
    let none =
    puts_then
    (first_put t (goal.at.returns-in_err-end-3 t c).Joined-stays u coded has')
    (puts_as (c.in_err-end-3.ensures q.part q.subject.lies) (ap kept (sym same)))
    in
    let whole = spelled_length (q.spelled u) in
    of_one c.requires.2 u (puts_short c.from_residual-in_err-end-3.ensures none (omega (arith, whole))) e l has

pub returns-in_err-end-4 : goal.returns-in_err-end-4
returns-in_err-end-4 t c e u l has coded has' =
    let p = front c.requires.2 c.shape_of-shape.result c.shape_of-shape.ensures c.if-count-eq0.false in
    let long = c.length_at.ensures.value_2 p.part p.subject.lies in
    let q =
    back c.requires.2 c.shape_of-shape.result c.shape_of-shape.ensures c.if-count-eq0.false c.if-count-gt1.true c.length_at.result long
    in
    let none =
    puts_then
    (first_put t (goal.at.returns-in_err-end-4 t c).Joined-stays u coded has')
    (c.in_err-end-4.ensures q.part u q.subject.lies (subject_worded q.subject) coded has')
    in
    let whole = spelled_length (q.spelled u) in
    of_one c.requires.2 u (puts_short c.from_residual-in_err-end-4.ensures none (omega (arith, whole))) e l has

-- All but the length of the node, by the number of the parts.
composed : (t : ℕ) (c : Joined-count-gt1 t) (u : Term)
    → let a = c.args in
    let p = front c.requires.2 c.shape_of-shape.result c.shape_of-shape.ensures c.if-count-eq0.false in
    Puts
    (word_at a.survey.now.source.now a.node ∷ 1 ∷ kept (substitute a.depth u p.part))
    a.out.now
    a.at
    (Some c.if-stays.end)
    c.if-stays.out
    → a.argument.now.nodes.now ≡ kept u
    → Worded u
    → Composes
    (substitute a.depth u c.requires.2.0)
    (word_at a.survey.now.source.now a.node)
    a.out.now
    a.at
    c.if-count-gt1.end
    c.if-count-gt1.out
composed t c u first coded has' =
    let a = c.args in
    let shape = c.shape_of-shape in
    let p = front c.requires.2 shape.result shape.ensures c.if-count-eq0.false in
    elim c.if-count-gt1.branch [
      | then-count-gt1+then-stays-2+in_ok-end-3 w ↦
          let long = w.length_at.ensures.value_2 p.part p.subject.lies in
          let q = back c.requires.2 shape.result shape.ensures c.if-count-eq0.false w.if-count-gt1.true w.length_at.result long in
          let same = w.stays-then-count-gt1.ensures w.if-stays-2.true q.part u q.subject.lies (subject_worded q.subject) in
          let second = puts_as (w.in_ok-end-3.ensures q.part q.subject.lies) (ap kept (sym same)) in
          rw
          (w.end-is, w.out-is)
          record {
            parts = kept (substitute a.depth u p.part) ++ kept (substitute (a.depth + shape.result.bound) u q.part);
            spelled = q.spelled u;
            puts = puts_then first second;
          }
      | then-count-gt1+else-stays-2+in_ok-end-4 w ↦
          let long = w.length_at.ensures.value_2 p.part p.subject.lies in
          let q = back c.requires.2 shape.result shape.ensures c.if-count-eq0.false w.if-count-gt1.true w.length_at.result long in
          let second = w.in_ok-end-4.ensures q.part u q.subject.lies (subject_worded q.subject) coded has' in
          rw
          (w.end-is, w.out-is)
          record {
            parts = kept (substitute a.depth u p.part) ++ kept (substitute (a.depth + shape.result.bound) u q.part);
            spelled = q.spelled u;
            puts = puts_then first second;
          }
      | else-count-gt1 w ↦
          let few = length-take shape.result.parts (0 ∷ shape.result.bound ∷ []) in
          rw
          (w.end-is, w.out-is)
          record {
            parts = kept (substitute a.depth u p.part);
            spelled = p.alone (omega (arith, few, ap length shape.ensures, w.if-count-gt1.false)) u;
            puts = first;
          }
    ]

pub overflow_sub-end : goal.overflow_sub-end
overflow_sub-end t c =
    let (u, put_in) = c.requires.3 in
    let has = fits_worded put_in.fits in
    let first = first_put t (goal.at.overflow_sub-end t c).Joined-stays u put_in.coded has in
    let x = composed t (goal.at.overflow_sub-end t c).Joined-count-gt1 u first put_in.coded has in
    omega (arith, (put_place x.puts).0)

pub narrow-requires : goal.narrow-requires
narrow-requires t c =
    let (u, put_in) = c.requires.3 in
    let has = fits_worded put_in.fits in
    let first = first_put t (goal.at.narrow-requires t c).Joined-stays u put_in.coded has in
    let x = composed t (goal.at.narrow-requires t c).Joined-count-gt1 u first put_in.coded has in
    omega (arith, put_room x.puts, put_length x.puts, c.requires.1)

pub returns : goal.returns
returns t c e u l has coded has' =
    let first = first_put t (goal.at.returns t c).Joined-stays u coded has' in
    let x = composed t (goal.at.returns t c).Joined-count-gt1 u first coded has' in
    of_one c.requires.2 u (rw c.narrow.ensures (puts_node x)) e l has
