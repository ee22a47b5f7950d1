-- The numbers of reasons and of ends tell them apart: each is found again at the place of its number in the list of all. No reason has
-- the number 0.
use mathlib.Core.List.{List, [], ◌∷◌}
use mathlib.Core.Logic.{◌≢◌}
use mathlib.Core.Path.{◌≡◌, refl, sym, ap, ◌∙◌}
use native.Mathlib.Omega.{arith}
use lib.ListN.{get_or}
use Rattle.calculus.specs.Answer.{Reason, limit_not_allowed, work_short, output_short, length_not_allowed, no_meaning, list_ends, words_after, level_65, unbound, not_star, not_product, wrong_argument, no_step, wrong_cast, wrong_recursion, over_limit, caller_not_allowed, number, NumbersApart}
use Rattle.calculus.specs.Run.{End, at_value, spent, at_stuck, too_long, end_number, EndNumbersApart}

-- A function that another undoes is injective.
pub undone : {A B : Type 0} (f : A → B) (g : B → A) → ((a : A) → g (f a) ≡ a) → (a b : A) → f a ≡ f b → a ≡ b
undone f g h a b e = sym (h a) ∙ ap g e ∙ h b

-- The reasons from number 0 on; no reason has the number 0, nor one from 17 to 20.
reasons : List Reason
reasons =
    limit_not_allowed
    ∷ limit_not_allowed
    ∷ work_short
    ∷ output_short
    ∷ length_not_allowed
    ∷ no_meaning
    ∷ list_ends
    ∷ words_after
    ∷ level_65
    ∷ unbound
    ∷ not_star
    ∷ not_product
    ∷ wrong_argument
    ∷ no_step
    ∷ wrong_cast
    ∷ wrong_recursion
    ∷ over_limit
    ∷ limit_not_allowed
    ∷ limit_not_allowed
    ∷ limit_not_allowed
    ∷ limit_not_allowed
    ∷ caller_not_allowed
    ∷ []

reason_found : (r : Reason) → get_or reasons (number r) limit_not_allowed ≡ r
unfolding reasons number
reason_found limit_not_allowed = refl
reason_found work_short = refl
reason_found output_short = refl
reason_found length_not_allowed = refl
reason_found no_meaning = refl
reason_found list_ends = refl
reason_found words_after = refl
reason_found level_65 = refl
reason_found unbound = refl
reason_found not_star = refl
reason_found not_product = refl
reason_found wrong_argument = refl
reason_found no_step = refl
reason_found wrong_cast = refl
reason_found wrong_recursion = refl
reason_found over_limit = refl
reason_found caller_not_allowed = refl

pub number_injective : NumbersApart
number_injective = undone number (λ n. get_or reasons n limit_not_allowed) reason_found

-- A reason with the number 0 would be the first of the list, whose number is 1.
pub number_not_zero : (r : Reason) → number r ≢ 0
unfolding reasons number
number_not_zero r e = omega (arith, ap number (sym (reason_found r) ∙ ap (λ n. get_or reasons n limit_not_allowed) e))

-- The ends from number 0 on; no end has the number 0.
ends : List End
ends = at_value ∷ at_value ∷ spent ∷ at_stuck ∷ too_long ∷ []

end_found : (E : End) → get_or ends (end_number E) at_value ≡ E
unfolding ends end_number
end_found at_value = refl
end_found spent = refl
end_found at_stuck = refl
end_found too_long = refl

pub end_number_injective : EndNumbersApart
end_number_injective = undone end_number (λ n. get_or ends n at_value) end_found
