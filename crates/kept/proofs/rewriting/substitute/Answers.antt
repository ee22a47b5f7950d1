-- `substitute` meets its contract: a term of one node is a variable, which is put by what stands for it, or a star or a name,
-- which stay.
use Prim.Native.Nat.{◌<◌}
use mathlib.Core.Path.{◌≡◌, sym, ap, ◌∙◌}
use native.Mathlib.Omega.{arith}
use Rattle.calculus.specs.Term.{size, substitute}
use Rattle.calculus.proofs.Coding.{size_positive}
use Rattle.term.specs.Kept.{kept, word_at}
use Rattle.term.proofs.Nodes.{view}
use Rattle.term.proofs.Keeping.{lies_within}
use Rattle.kept.proofs.Composed.{puts_as}
use Rattle.kept.proofs.Putting.{index_small, is_variable, kept_leaf, other_word}
use Rattle.kept.proofs.rewriting.substitute.Goals as goal

pub length_at-length-requires : goal.length_at-length-requires
length_at-length-requires c =
    let (e, subject, short) = c.requires.2 in
    omega (arith, lies_within subject.lies, size_positive e)

pub put_variable-requires : goal.put_variable-requires
put_variable-requires c =
    let i = c.in-Variable.index in
    let means = c.in-Variable.ensures in
    (c.requires.0, index_small (word_at c.args.source.now c.args.body) i means, omega arith, c.requires.3)

pub returns-in-Variable : goal.returns-in-Variable
returns-in-Variable c e u l has coded has' =
    let same = is_variable (view e) l c.in-Variable.index c.in-Variable.ensures in
    puts_as (c.put_variable.ensures u coded has') (ap (λ x. kept (substitute 0 u x)) (sym same))

pub returns-then-length-eq1 : goal.returns-then-length-eq1
returns-then-length-eq1 c e u l has coded has' =
    let single : size e ≡ 1 = sym (c.length_at-length.ensures.value_2 e l) ∙ c.if-length-eq1.true in
    let word_is = c.classify in
    let word = word_at c.args.source.now c.args.body in
    let named = other_word word word_is.result word_is.ensures c.in_default.not-Variable in
    puts_as c.put.ensures (sym (kept_leaf (view e) 0 u l has single (λ free. named (omega (arith, free)))))

pub substitute_long-requires : goal.substitute_long-requires
substitute_long-requires c =
    let (e, subject, short) = c.requires.2 in
    let long = c.length_at-length.ensures.value_2 e subject.lies in
    let many : 1 < size e = omega (arith, long, c.if-length-eq1.false, size_positive e) in
    (c.requires.0, c.requires.1, (e, subject, long, many, short), c.requires.3)
