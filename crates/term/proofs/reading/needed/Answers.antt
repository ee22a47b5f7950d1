-- `needed` meets its contract: a variable asks for more binders than its index, a word that means nothing for more than `deepest`,
-- and every other word for none.
use mathlib.Core.Path.{◌≡◌, sym, ap, ◌∙◌}
use native.Mathlib.Omega.{arith}
use lib.Dec.{leb-zero}
use Rattle.calculus.specs.Meaning.{a_variable, meaning}
use Rattle.calculus.specs.Scan.{means}
use Rattle.term.specs.Subterms.{inside}
use Rattle.term.specs.Word.{meaning_of}
use Rattle.term.proofs.Visits.{variable_needs, nothing_needs, unread, anywhere}
use Rattle.term.proofs.Words.{variable_index}
use Rattle.term.proofs.reading.needed.Goals as goal
use Rattle.term.proofs.reading.needed.Goals.{In-Variable}

-- The word of the first arm is a variable.
variable : (c : goal.In-Variable) → meaning c.args.word ≡ a_variable c.in-Variable.index
variable c = sym c.classify.ensures ∙ ap meaning_of c.in-Variable.is

pub overflow_add-result : goal.overflow_add-result
overflow_add-result c = omega (arith, variable_index _ _ (sym (variable c)), c.ranges.word)

pub returns-in-Variable : goal.returns-in-Variable
returns-in-Variable c b h = variable_needs c.in-Variable.index _ b (variable c) (omega arith)

pub returns-in-Nothing : goal.returns-in-Nothing
returns-in-Nothing c b h =
    let m = c.classify in
    nothing_needs _ _ b (ap means (sym m.ensures) ∙ unread m.result c.in-Nothing.is) (omega arith)

pub returns-in_default : goal.returns-in_default
returns-in_default c b h =
    let arm = c.in_default in
    let m = c.classify in
    leb-zero b ∙ sym (anywhere m.result arm.not-Variable arm.not-Nothing arm.not-Name b) ∙ ap (λ x. inside x b) m.ensures
