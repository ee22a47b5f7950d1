-- `shape_of` meets its contract: the number of a word's parts and what it binds in the second are all that there is to them.
use Rattle.calculus.specs.Meaning.{meaning}
use Rattle.term.specs.Word.{arity}
use Rattle.term.proofs.Words.{by_number}
use Rattle.term.proofs.word.shape_of.Goals as goal

pub returns : goal.returns
unfolding arity
returns c = rw (c.parts.ensures, c.bound.ensures) (by_number (meaning c.args.word))
