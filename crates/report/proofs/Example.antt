-- The example of document 01, and a refusal whose word has a high byte, computed from the definitions.
use mathlib.Core.Bool.{decide}
use mathlib.Core.List.{[], ◌∷◌}
use mathlib.Core.Path.{◌≡◌, refl}
use Rattle.calculus.specs.Term.{size, raise, substitute}
use Rattle.calculus.specs.Answer.{◌>>=◌, ◌>>◌, require, number}
use Rattle.calculus.specs.Words.{emit, words}
use Rattle.calculus.specs.Meaning.{meaning, binds}
use Rattle.calculus.specs.Scan.{means, bound, test, node₁, node₂, node, below, scan, the_first, read}
use Rattle.calculus.specs.Step.{under, applied, cancelled, step}
use Rattle.calculus.specs.Infer.{annotation, same, measure, product, stepped, infer}
use Rattle.calculus.specs.Run.{end_number, done, one_more, advance, last_end, run_until}
use Rattle.text.specs.Texts.{ascii, digits_within, decimal, spaced, list}
use Rattle.text.specs.Pairs.{pairs, allowed}
use Rattle.report.specs.Report.{judged, outcome, told, line, printed, report_of, Example}

pub example : Example
unfolding report_of outcome judged told printed line pairs allowed ascii decimal digits_within spaced list read scan the_first test means bound binds meaning node node₁ node₂ below ◌>>=◌ ◌>>◌ require number infer measure same decide annotation product stepped step under applied cancelled raise substitute size run_until last_end advance done one_more end_number words emit
example = refl

pub high_byte : report_of (4 ∷ 0 ∷ 0 ∷ 0 ∷ 0 ∷ 1 ∷ []) ≡ ascii "answer=9\nplace=2\ntype=\nend=0\nsteps=0\nstate=\n"
unfolding report_of outcome judged told printed line pairs allowed ascii decimal digits_within spaced list read scan the_first test means bound binds meaning node node₁ node₂ below ◌>>=◌ ◌>>◌ require number
high_byte = refl
