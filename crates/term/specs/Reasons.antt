-- The reasons of the papers that the variants of `Reason` stand for, and so their numbers; and the answers that results stand for.
use Rattle.std.specs.Prelude.{ℕ, Result, Ok, Err}
use Rattle.calculus.specs.Answer as calculus
use Rattle.calculus.specs.Answer.{Answer, ok, refused}
use Rattle.term.specs.declared.refusal.Refusal.{Refusal}
use Rattle.term.specs.declared.refusal.Reason.{Reason}
use Rattle.term.specs.declared.refusal.Reason.TheVariants.{LimitNotAllowed, WorkShort, OutputShort, LengthNotAllowed, NoMeaning, ListEnds, WordsAfter, Level65, Unbound, NotStar, NotProduct, WrongArgument, NoStep, WrongCast, WrongRecursion, OverLimit, CallerNotAllowed}

abbrev pub reason_of : Reason → calculus.Reason
reason_of LimitNotAllowed = calculus.limit_not_allowed
reason_of WorkShort = calculus.work_short
reason_of OutputShort = calculus.output_short
reason_of LengthNotAllowed = calculus.length_not_allowed
reason_of NoMeaning = calculus.no_meaning
reason_of ListEnds = calculus.list_ends
reason_of WordsAfter = calculus.words_after
reason_of Level65 = calculus.level_65
reason_of Unbound = calculus.unbound
reason_of NotStar = calculus.not_star
reason_of NotProduct = calculus.not_product
reason_of WrongArgument = calculus.wrong_argument
reason_of NoStep = calculus.no_step
reason_of WrongCast = calculus.wrong_cast
reason_of WrongRecursion = calculus.wrong_recursion
reason_of OverLimit = calculus.over_limit
reason_of CallerNotAllowed = calculus.caller_not_allowed

-- The number of each reason.
abbrev pub number_of : Reason → ℕ
number_of r = calculus.number (reason_of r)

-- The answer that a result stands for: what it has, or its refusal.
abbrev pub answer_of : {A : Type 0} → Result A Refusal → Answer A
answer_of (Ok a) = ok a
answer_of (Err r) = refused (reason_of r.reason) r.place
