-- What the enum of a word's meaning stands for, and which parts follow a word.
use Rattle.std.specs.Prelude.{ℕ, List, [], ◌∷◌, length, get_or, take}
use Rattle.calculus.specs.Meaning as calculus
use Rattle.term.specs.declared.word.Meaning.{Meaning}
use Rattle.term.specs.declared.word.Meaning.TheVariants.{Star, CastDown, Application, CastUp, Abstraction, Product, Recursion, Variable, Nothing, Name}
use Rattle.term.specs.declared.word.Shape.{Shape}

abbrev pub meaning_of : Meaning → calculus.Meaning
meaning_of Star = calculus.a_star
meaning_of CastDown = calculus.a_castdown
meaning_of Application = calculus.an_app
meaning_of CastUp = calculus.a_castup
meaning_of Abstraction = calculus.a_lam
meaning_of Product = calculus.a_pi
meaning_of Recursion = calculus.a_mu
meaning_of (Variable i) = calculus.a_variable i
meaning_of Nothing = calculus.nothing
meaning_of (Name i) = calculus.a_name i

-- The number of parts that follow a word.
unfoldable pub arity : ℕ → ℕ
arity w = length (calculus.binds (calculus.meaning w))

-- The parts that a shape stands for, and for each the number of variables that the node binds there: it binds "in [its] second part
-- only".
abbrev pub shape_of : Shape → List ℕ
shape_of s = take s.parts (0 ∷ s.bound ∷ [])

-- What is bound in the second part, of which there may be none.
abbrev pub second : List ℕ → ℕ
second ks = get_or ks 1 0
