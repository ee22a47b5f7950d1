-- The type of a term within a limit, as a function in document 01's order ("Typing, in checking order"). Believed only through the
-- theorems that it answers what the rules give and refuses where `Fails` says.
use Rattle.std.specs.Prelude.{ℕ, zero, suc, Bool, [], ◌∷◌, leb, length}
use Rattle.std.proofs.Math.Bool.{decide}
use Rattle.std.proofs.Math.Option.{Option, none, some}
use Rattle.std.proofs.Math.Decide.{ℕ_discrete}
use Rattle.calculus.specs.Term.{Term, Term-discrete, var, star, app, lam, pi, castup, castdown, mu, name, size, raise, substitute}
use Rattle.calculus.specs.Answer.{Answer, ok, refused, ◌>>=◌, ◌>>◌, require, not_star, not_product, wrong_argument, no_step, wrong_cast, wrong_recursion, over_limit}
use Rattle.calculus.specs.Words.{first_part, second_part, Scoped, Named}
use Rattle.calculus.specs.Book.{View}
use Rattle.calculus.specs.Rules.{Context}
use Rattle.calculus.specs.Step.{Next, value, stuck, next}

-- A variable's annotation, raised to the present context. (No variable of a closed term is outside its context.)
unfoldable pub annotation : Context → ℕ → Term
annotation [] i = star
annotation (τ ∷ Γ) zero = raise 1 0 τ
annotation (τ ∷ Γ) (suc i) = raise 1 0 (annotation Γ i)

-- A term with free indices below `n` and names below N; and a context of which each annotation is one, outside its own binder.
abbrev pub Fitted : ℕ → ℕ → Term → Type 0
Fitted N n t = Scoped n t × Named N t

unfoldable pub FittedContext : ℕ → Context → Type 0
FittedContext N [] = Unit
FittedContext N (a ∷ Γ) = Fitted N (length Γ) a × FittedContext N Γ

-- A stored type. (No name of a readable term is outside its book.)
unfoldable pub stored : Option Term → Term
stored none = star
stored (some τ) = τ

-- Equality of types: "equality up to bound names is then equality of lists".
unfoldable pub same : Term → Term → Bool
same σ τ = decide (Term-discrete ℕ_discrete σ τ)

-- "One longer than the limit L is answered 16."
unfoldable pub measure : ℕ → ℕ → Term → Answer Term
measure L p τ = do
  require over_limit p (leb (size τ) L)
  ok τ

-- "its type is a product, else 11"
unfoldable pub product : ℕ → Term → Answer (Term × Term)
product p (var i) = refused not_product p
product p star = refused not_product p
product p (app f u) = refused not_product p
product p (lam a e) = refused not_product p
product p (pi a b) = ok (a, b)
product p (castup a e) = refused not_product p
product p (castdown e) = refused not_product p
product p (mu a e) = refused not_product p
product p (name i) = refused not_product p

-- "its type steps, else 13"
unfoldable pub stepped : ℕ → Next → Answer Term
stepped p value = refused no_step p
stepped p stuck = refused no_step p
stepped p (next k τ) = ok τ

-- The tests of each node, in the words and the order of "Typing, in checking order"; the stored types are T, and a type moves by `step`.
unfoldable pub infer : View → (Term → Next) → ℕ → Context → ℕ → Term → Answer Term
infer T step L Γ p star = measure L p star
infer T step L Γ p (var i) = measure L p (annotation Γ i)
infer T step L Γ p (app f u) = do
  τ ← infer T step L Γ (first_part p) f
  (a, b) ← product p τ
  σ ← infer T step L Γ (second_part p f) u
  require wrong_argument p (same σ a)
  measure L p (substitute 0 u b)
infer T step L Γ p (lam a e) = do
  σ ← infer T step L Γ (first_part p) a
  require not_star (first_part p) (same σ star)
  b ← infer T step L (a ∷ Γ) (second_part p a) e
  measure L p (pi a b)
infer T step L Γ p (pi a b) = do
  σ ← infer T step L Γ (first_part p) a
  require not_star (first_part p) (same σ star)
  τ ← infer T step L (a ∷ Γ) (second_part p a) b
  require not_star (second_part p a) (same τ star)
  measure L p star
infer T step L Γ p (castup a e) = do
  σ ← infer T step L Γ (first_part p) a
  require not_star (first_part p) (same σ star)
  τ ← infer T step L Γ (second_part p a) e
  a' ← stepped p (step a)
  _ ← measure L p a'
  require wrong_cast p (same a' τ)
  measure L p a
infer T step L Γ p (castdown e) = do
  τ ← infer T step L Γ (first_part p) e
  τ' ← stepped p (step τ)
  measure L p τ'
infer T step L Γ p (mu a e) = do
  σ ← infer T step L Γ (first_part p) a
  require not_star (first_part p) (same σ star)
  τ ← infer T step L (a ∷ Γ) (second_part p a) e
  require wrong_recursion p (same τ (raise 1 0 a))
  measure L p a
infer T step L Γ p (name i) = measure L p (stored (T i))
