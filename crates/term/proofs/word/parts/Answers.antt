-- `parts` meets its contract: below 2 the smaller of the word and 2 is the word, from 2 on it is 2, and from 7 on a word has no parts.
use mathlib.Core.Path.{sym}
use native.Mathlib.Omega.{arith}
use Rattle.term.proofs.Words.{few_parts, no_parts}
use Rattle.term.proofs.word.parts.Goals as goal

pub returns-then-word-lt2 : goal.returns-then-word-lt2
returns-then-word-lt2 c =
    let word = c.args.word in
    omega (arith, c.from.ensures, c.if-word-lt2.true, few_parts word (omega (arith, c.if-word-lt2.true)))

pub returns-then-word-lt7 : goal.returns-then-word-lt7
returns-then-word-lt7 c =
    let word = c.args.word in
    omega (arith, c.if-word-lt2.false, few_parts word (omega (arith, c.if-word-lt7.true)))

pub returns-else-word-lt7 : goal.returns-else-word-lt7
returns-else-word-lt7 c = sym (no_parts c.args.word (omega (arith, c.if-word-lt7.false)))
