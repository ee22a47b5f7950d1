-- The maps by which contracts speak of the code's values tell these values apart: each map is undone by another. A reason is found
-- again at the place of its number in the list of all.
use mathlib.Core.List.{List, [], ◌∷◌}
use mathlib.Core.Path.{◌≡◌, refl, ap}
use lib.ListN.{get_or}
use Rattle.std.specs.Prelude.{Result, Ok, Err}
use Rattle.calculus.specs.Answer as calculus
use Rattle.calculus.specs.Answer.{Answer, ok, refused, number}
use Rattle.calculus.specs.Meaning as calculus-meaning
use Rattle.calculus.specs.Meaning.{a_star, a_castdown, an_app, a_castup, a_lam, a_pi, a_mu, a_variable, a_name, nothing}
use Rattle.calculus.proofs.NumberInjective.{undone}
use Rattle.term.specs.declared.Found.{Found}
use Rattle.term.specs.declared.refusal.Refusal.{Refusal}
use Rattle.term.specs.declared.refusal.Reason.{Reason}
use Rattle.term.specs.declared.refusal.Reason.TheVariants.{LimitNotAllowed, WorkShort, OutputShort, LengthNotAllowed, NoMeaning, ListEnds, WordsAfter, Level65, Unbound, NotStar, NotProduct, WrongArgument, NoStep, WrongCast, WrongRecursion, OverLimit, CallerNotAllowed}
use Rattle.term.specs.declared.word.Meaning.{Meaning}
use Rattle.term.specs.declared.word.Meaning.TheVariants.{Star, CastDown, Application, CastUp, Abstraction, Product, Recursion, Variable, Nothing, Name}
use Rattle.term.specs.Found.{found_of}
use Rattle.term.specs.Reasons.{answer_of, reason_of}
use Rattle.term.specs.Word.{meaning_of}

-- The reasons from number 0 on; no reason has the number 0.
abbrev reasons : List Reason
reasons =
    LimitNotAllowed
    ∷ LimitNotAllowed
    ∷ WorkShort
    ∷ OutputShort
    ∷ LengthNotAllowed
    ∷ NoMeaning
    ∷ ListEnds
    ∷ WordsAfter
    ∷ Level65
    ∷ Unbound
    ∷ NotStar
    ∷ NotProduct
    ∷ WrongArgument
    ∷ NoStep
    ∷ WrongCast
    ∷ WrongRecursion
    ∷ OverLimit
    ∷ LimitNotAllowed
    ∷ LimitNotAllowed
    ∷ LimitNotAllowed
    ∷ LimitNotAllowed
    ∷ CallerNotAllowed
    ∷ []

abbrev reason_from : calculus.Reason → Reason
reason_from r = get_or reasons (number r) LimitNotAllowed

reason_again : (r : Reason) → reason_from (reason_of r) ≡ r
unfolding number
reason_again LimitNotAllowed = refl
reason_again WorkShort = refl
reason_again OutputShort = refl
reason_again LengthNotAllowed = refl
reason_again NoMeaning = refl
reason_again ListEnds = refl
reason_again WordsAfter = refl
reason_again Level65 = refl
reason_again Unbound = refl
reason_again NotStar = refl
reason_again NotProduct = refl
reason_again WrongArgument = refl
reason_again NoStep = refl
reason_again WrongCast = refl
reason_again WrongRecursion = refl
reason_again OverLimit = refl
reason_again CallerNotAllowed = refl

pub reason_of_injective : (a b : Reason) → reason_of a ≡ reason_of b → a ≡ b
reason_of_injective = undone reason_of reason_from reason_again

pub found_of_injective : (a b : Found) → found_of a ≡ found_of b → a ≡ b
found_of_injective = undone found_of (λ f. record { start = f.start; length = f.extent }) (λ f. refl)

abbrev result_from : {A : Type 0} → Answer A → Result A Refusal
result_from (ok a) = Ok a
result_from (refused r p) = Err (record { reason = reason_from r; place = p })

result_again : {A : Type 0} (r : Result A Refusal) → result_from (answer_of r) ≡ r
result_again (Ok a) = refl
result_again (Err r) = ap (λ x. Err (record { reason = x; place = r.place })) (reason_again r.reason)

pub answer_of_injective : {A : Type 0} (a b : Result A Refusal) → answer_of a ≡ answer_of b → a ≡ b
answer_of_injective = undone answer_of result_from result_again

abbrev meaning_from : calculus-meaning.Meaning → Meaning
meaning_from a_star = Star
meaning_from a_castdown = CastDown
meaning_from an_app = Application
meaning_from a_castup = CastUp
meaning_from a_lam = Abstraction
meaning_from a_pi = Product
meaning_from a_mu = Recursion
meaning_from (a_variable i) = Variable i
meaning_from nothing = Nothing
meaning_from (a_name i) = Name i

meaning_again : (m : Meaning) → meaning_from (meaning_of m) ≡ m
meaning_again Star = refl
meaning_again CastDown = refl
meaning_again Application = refl
meaning_again CastUp = refl
meaning_again Abstraction = refl
meaning_again Product = refl
meaning_again Recursion = refl
meaning_again (Variable i) = refl
meaning_again Nothing = refl
meaning_again (Name i) = refl

pub meaning_of_injective : (a b : Meaning) → meaning_of a ≡ meaning_of b → a ≡ b
meaning_of_injective = undone meaning_of meaning_from meaning_again
