-- Where typing first fails (document 01, "Typing, in checking order"), from the rules alone.
use Rattle.std.specs.Prelude.{ℕ, ◌≤◌, ◌<◌, ◌∷◌, ◌≢◌, ◌≡◌}
use Rattle.std.proofs.Math.Option.{some}
use Rattle.calculus.specs.Term.{Term, var, star, app, lam, pi, castup, castdown, mu, name, size, raise, substitute}
use Rattle.calculus.specs.Answer.{Reason, not_star, not_product, wrong_argument, no_step, wrong_cast, wrong_recursion, over_limit}
use Rattle.calculus.specs.Words.{first_part, second_part}
use Rattle.calculus.specs.Book.{Book, View, types}
use Rattle.calculus.specs.Rules.{Context, ◌⊩◌⟶◌, CanStep, ◌∋◌⦂◌}
use Rattle.calculus.specs.Limit.{◌∣◌∣◌⊢⟨◌⟩◌⦂◌}

-- `Fails B v L Γ p e r q`: typing `e`, which stands at place `p`, first fails by the reason `r` at the place `q`. One constructor for
-- each test, in the order of the tests; its premises say by the rules that the tests before it passed.
pub data Fails (B : Book) (v : View) (L : ℕ) : Context → ℕ → Term → Reason → ℕ → Type 0 where
  -- "star: star. Variable: its annotation, raised to the present context."
  star_over : {Γ : Context} {p : ℕ} → L < size star → Fails B v L Γ p star over_limit p
  var_over : {Γ : Context} {p i : ℕ} {τ : Term} → Γ ∋ i ⦂ τ → L < size τ → Fails B v L Γ p (var i) over_limit p
  -- "Application: function; its type is a product, else 11; argument; its type equals the domain, else 12; the codomain with the
  -- argument put in."
  app_function : {Γ : Context} {p q : ℕ} {f u : Term} {r : Reason}
      → Fails B v L Γ (first_part p) f r q → Fails B v L Γ p (app f u) r q
  app_not_product : {Γ : Context} {p : ℕ} {f u τ : Term}
      → B ∣ v ∣ Γ ⊢⟨ L ⟩ f ⦂ τ → ((a b : Term) → τ ≢ pi a b) → Fails B v L Γ p (app f u) not_product p
  app_argument : {Γ : Context} {p q : ℕ} {f u a b : Term} {r : Reason}
      → B ∣ v ∣ Γ ⊢⟨ L ⟩ f ⦂ pi a b → Fails B v L Γ (second_part p f) u r q → Fails B v L Γ p (app f u) r q
  app_mismatch : {Γ : Context} {p : ℕ} {f u a b σ : Term}
      → B ∣ v ∣ Γ ⊢⟨ L ⟩ f ⦂ pi a b → B ∣ v ∣ Γ ⊢⟨ L ⟩ u ⦂ σ → σ ≢ a → Fails B v L Γ p (app f u) wrong_argument p
  app_over : {Γ : Context} {p : ℕ} {f u a b : Term}
      → B ∣ v ∣ Γ ⊢⟨ L ⟩ f ⦂ pi a b → B ∣ v ∣ Γ ⊢⟨ L ⟩ u ⦂ a → L < size (substitute 0 u b) → Fails B v L Γ p (app f u) over_limit p
  -- "Abstraction: annotation has type star, else 10; body; the product of both."
  lam_annotation : {Γ : Context} {p q : ℕ} {a e : Term} {r : Reason}
      → Fails B v L Γ (first_part p) a r q → Fails B v L Γ p (lam a e) r q
  lam_not_star : {Γ : Context} {p : ℕ} {a e σ : Term}
      → B ∣ v ∣ Γ ⊢⟨ L ⟩ a ⦂ σ → σ ≢ star → Fails B v L Γ p (lam a e) not_star (first_part p)
  lam_body : {Γ : Context} {p q : ℕ} {a e : Term} {r : Reason}
      → B ∣ v ∣ Γ ⊢⟨ L ⟩ a ⦂ star → Fails B v L (a ∷ Γ) (second_part p a) e r q → Fails B v L Γ p (lam a e) r q
  lam_over : {Γ : Context} {p : ℕ} {a e b : Term}
      → B ∣ v ∣ Γ ⊢⟨ L ⟩ a ⦂ star → B ∣ v ∣ (a ∷ Γ) ⊢⟨ L ⟩ e ⦂ b → L < size (pi a b) → Fails B v L Γ p (lam a e) over_limit p
  -- "Product: domain has type star, else 10; then codomain under it has type star, else 10; star."
  pi_domain : {Γ : Context} {p q : ℕ} {a b : Term} {r : Reason} → Fails B v L Γ (first_part p) a r q → Fails B v L Γ p (pi a b) r q
  pi_domain_not_star : {Γ : Context} {p : ℕ} {a b σ : Term}
      → B ∣ v ∣ Γ ⊢⟨ L ⟩ a ⦂ σ → σ ≢ star → Fails B v L Γ p (pi a b) not_star (first_part p)
  pi_codomain : {Γ : Context} {p q : ℕ} {a b : Term} {r : Reason}
      → B ∣ v ∣ Γ ⊢⟨ L ⟩ a ⦂ star → Fails B v L (a ∷ Γ) (second_part p a) b r q → Fails B v L Γ p (pi a b) r q
  pi_codomain_not_star : {Γ : Context} {p : ℕ} {a b σ : Term}
      → B ∣ v ∣ Γ ⊢⟨ L ⟩ a ⦂ star → B ∣ v ∣ (a ∷ Γ) ⊢⟨ L ⟩ b ⦂ σ → σ ≢ star → Fails B v L Γ p (pi a b) not_star (second_part p a)
  pi_over : {Γ : Context} {p : ℕ} {a b : Term}
      → B ∣ v ∣ Γ ⊢⟨ L ⟩ a ⦂ star → B ∣ v ∣ (a ∷ Γ) ⊢⟨ L ⟩ b ⦂ star → L < size star → Fails B v L Γ p (pi a b) over_limit p
  -- "Up cast: annotation has type star, else 10; body; the annotation steps, else 13; the stepped annotation is measured; it equals
  -- the body's type, else 14; the annotation is the type."
  castup_annotation : {Γ : Context} {p q : ℕ} {a e : Term} {r : Reason}
      → Fails B v L Γ (first_part p) a r q → Fails B v L Γ p (castup a e) r q
  castup_not_star : {Γ : Context} {p : ℕ} {a e σ : Term}
      → B ∣ v ∣ Γ ⊢⟨ L ⟩ a ⦂ σ → σ ≢ star → Fails B v L Γ p (castup a e) not_star (first_part p)
  castup_body : {Γ : Context} {p q : ℕ} {a e : Term} {r : Reason}
      → B ∣ v ∣ Γ ⊢⟨ L ⟩ a ⦂ star → Fails B v L Γ (second_part p a) e r q → Fails B v L Γ p (castup a e) r q
  castup_rests : {Γ : Context} {p : ℕ} {a e σ : Term}
      → B ∣ v ∣ Γ ⊢⟨ L ⟩ a ⦂ star → B ∣ v ∣ Γ ⊢⟨ L ⟩ e ⦂ σ → ¬ CanStep v a → Fails B v L Γ p (castup a e) no_step p
  castup_step_over : {Γ : Context} {p : ℕ} {a a' e σ : Term}
      → B ∣ v ∣ Γ ⊢⟨ L ⟩ a ⦂ star → B ∣ v ∣ Γ ⊢⟨ L ⟩ e ⦂ σ → v ⊩ a ⟶ a' → L < size a' → Fails B v L Γ p (castup a e) over_limit p
  castup_mismatch : {Γ : Context} {p : ℕ} {a a' e σ : Term}
      → B ∣ v ∣ Γ ⊢⟨ L ⟩ a ⦂ star → B ∣ v ∣ Γ ⊢⟨ L ⟩ e ⦂ σ → v ⊩ a ⟶ a' → size a' ≤ L → a' ≢ σ → Fails B v L Γ p (castup a e) wrong_cast p
  castup_over : {Γ : Context} {p : ℕ} {a a' e : Term}
      → B ∣ v ∣ Γ ⊢⟨ L ⟩ a ⦂ star → B ∣ v ∣ Γ ⊢⟨ L ⟩ e ⦂ a' → v ⊩ a ⟶ a' → L < size a → Fails B v L Γ p (castup a e) over_limit p
  -- "Down cast: body; its type steps, else 13; the stepped type."
  castdown_body : {Γ : Context} {p q : ℕ} {e : Term} {r : Reason}
      → Fails B v L Γ (first_part p) e r q → Fails B v L Γ p (castdown e) r q
  castdown_rests : {Γ : Context} {p : ℕ} {e τ : Term} → B ∣ v ∣ Γ ⊢⟨ L ⟩ e ⦂ τ → ¬ CanStep v τ → Fails B v L Γ p (castdown e) no_step p
  castdown_over : {Γ : Context} {p : ℕ} {e τ τ' : Term}
      → B ∣ v ∣ Γ ⊢⟨ L ⟩ e ⦂ τ → v ⊩ τ ⟶ τ' → L < size τ' → Fails B v L Γ p (castdown e) over_limit p
  -- "Recursion: annotation has type star, else 10; body under it; its type equals the raised annotation, else 15; the annotation."
  mu_annotation : {Γ : Context} {p q : ℕ} {a e : Term} {r : Reason}
      → Fails B v L Γ (first_part p) a r q → Fails B v L Γ p (mu a e) r q
  mu_not_star : {Γ : Context} {p : ℕ} {a e σ : Term}
      → B ∣ v ∣ Γ ⊢⟨ L ⟩ a ⦂ σ → σ ≢ star → Fails B v L Γ p (mu a e) not_star (first_part p)
  mu_body : {Γ : Context} {p q : ℕ} {a e : Term} {r : Reason}
      → B ∣ v ∣ Γ ⊢⟨ L ⟩ a ⦂ star → Fails B v L (a ∷ Γ) (second_part p a) e r q → Fails B v L Γ p (mu a e) r q
  mu_mismatch : {Γ : Context} {p : ℕ} {a e σ : Term}
      → B ∣ v ∣ Γ ⊢⟨ L ⟩ a ⦂ star → B ∣ v ∣ (a ∷ Γ) ⊢⟨ L ⟩ e ⦂ σ → σ ≢ raise 1 0 a → Fails B v L Γ p (mu a e) wrong_recursion p
  mu_over : {Γ : Context} {p : ℕ} {a e : Term}
      → B ∣ v ∣ Γ ⊢⟨ L ⟩ a ⦂ star → B ∣ v ∣ (a ∷ Γ) ⊢⟨ L ⟩ e ⦂ raise 1 0 a → L < size a → Fails B v L Γ p (mu a e) over_limit p
  -- "Such a word has the stored type".
  name_over : {Γ : Context} {p i : ℕ} {τ : Term} → types B i ≡ some τ → L < size τ → Fails B v L Γ p (name i) over_limit p
