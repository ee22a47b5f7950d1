-- Type safety (document 002, Theorems B.10 and B.11): with all bodies open, over a sound book, a step keeps the type, and a closed typed
-- term is a value or steps. A value's form is told by its type, at any view. By induction on the step, and on the term, whose node fixes
-- the rule; the casts need that a step is unique.
use Prim.Native.Nat.{ℕ}
use mathlib.Core.Bool.{true≢false}
use mathlib.Core.List.{[], ◌∷◌}
use mathlib.Core.Option.{some}
use mathlib.Core.Path.{◌≡◌, refl}
use mathlib.Core.Logic.{◌⊎◌, inl, inr}
use Rattle.calculus.specs.Term.{Term, var, star, app, lam, pi, castup, castdown, mu, name, raise, substitute}
use Rattle.calculus.specs.Book.{Book, View, types, bodies}
use Rattle.calculus.specs.Rules.{Context, ◌∋◌⦂◌, ◌⊩◌⟶◌, s_beta, s_castdownup, s_app, s_castdown, s_mu, s_name, CanStep, Value, v_star, v_lam, v_pi, v_castup, WellFormed, ◌∣◌∣◌⊢◌⦂◌, t_ax, t_var, t_app, t_lam, t_pi, t_castup, t_castdown, t_mu, t_name}
use Rattle.calculus.specs.Safety.{Only, Canonical}
use Rattle.calculus.proofs.Bridge.{substitute_raise}
use Rattle.calculus.proofs.Books.{types_within, body_of}
use Rattle.calculus.proofs.Reduction.{determinism, value_rests}
use Rattle.calculus.proofs.Substitution.{substitution, anywhere}
use Rattle.calculus.proofs.Types.{Sound}

-- One rule for each node: what it says of the parts.
module _ {B : Book} {v : View} {Γ : Context} where
  variable_typed : {i : ℕ} {τ : Term} → B ∣ v ∣ Γ ⊢ var i ⦂ τ → Γ ∋ i ⦂ τ
  variable_typed (t_var w x) = x

  application_typed : {f u τ : Term}
      → B ∣ v ∣ Γ ⊢ app f u ⦂ τ
      → (a : Term) × (b : Term) × (τ ≡ substitute 0 u b) × (B ∣ v ∣ Γ ⊢ f ⦂ pi a b) × (B ∣ v ∣ Γ ⊢ u ⦂ a)
  application_typed (t_app {τ₁ = b} {τ₂ = a} f u) = (a, b, refl, f, u)

  abstraction_typed : {a e τ : Term} → B ∣ v ∣ Γ ⊢ lam a e ⦂ τ → (b : Term) × (τ ≡ pi a b) × (B ∣ v ∣ (a ∷ Γ) ⊢ e ⦂ b)
  abstraction_typed (t_lam {τ₂ = b} e p) = (b, refl, e)

  castup_typed : {a e τ : Term} → B ∣ v ∣ Γ ⊢ castup a e ⦂ τ → (t : Term) × (τ ≡ a) × (v ⊩ a ⟶ t) × (B ∣ v ∣ Γ ⊢ e ⦂ t)
  castup_typed (t_castup {τ₂ = t} e a s) = (t, refl, s, e)

  castdown_typed : {e τ : Term}
      → B ∣ v ∣ Γ ⊢ castdown e ⦂ τ
      → (σ : Term) × (B ∣ v ∣ Γ ⊢ e ⦂ σ) × (B ∣ bodies B ∣ Γ ⊢ τ ⦂ star) × (v ⊩ σ ⟶ τ)
  castdown_typed (t_castdown {τ₁ = σ} e a s) = (σ, e, a, s)

  recursion_typed : {a e τ : Term} → B ∣ v ∣ Γ ⊢ mu a e ⦂ τ → (τ ≡ a) × (B ∣ v ∣ (a ∷ Γ) ⊢ e ⦂ raise 1 0 a)
  recursion_typed (t_mu e a) = (refl, e)

  name_typed : {i : ℕ} {τ : Term} → B ∣ v ∣ Γ ⊢ name i ⦂ τ → WellFormed B v Γ × (types B i ≡ some τ)
  name_typed (t_name w h) = (w, h)

  castdownup_typed : {a e σ τ : Term} → B ∣ v ∣ Γ ⊢ castup a e ⦂ σ → v ⊩ σ ⟶ τ → B ∣ v ∣ Γ ⊢ e ⦂ τ
  castdownup_typed h s =
      let (t, p, r, k) = castup_typed h in
      rw (determinism (rw p at s) r) k

module _ {B : Book} (S : Sound B) where
  beta_typed : {Γ : Context} {a b c e u : Term}
      → B ∣ bodies B ∣ Γ ⊢ lam c e ⦂ pi a b
      → B ∣ bodies B ∣ Γ ⊢ u ⦂ a
      → B ∣ bodies B ∣ Γ ⊢ substitute 0 u e ⦂ substitute 0 u b
  beta_typed {Γ} {a} {b} {c} {e} {u} f h =
      let (d, p, k) = abstraction_typed f in
      let domain : a ≡ c = cc p in
      let codomain : b ≡ d = cc p in
      rw codomain (substitution S.closed k (rw domain at h))

  pub preservation : {Γ : Context} {e e' τ : Term} → B ∣ bodies B ∣ Γ ⊢ e ⦂ τ → bodies B ⊩ e ⟶ e' → B ∣ bodies B ∣ Γ ⊢ e' ⦂ τ
  preservation d s_beta = let (a, b, p, f, u) = application_typed d in rw p (beta_typed f u)
  preservation d s_castdownup = let (σ, e, a, s) = castdown_typed d in castdownup_typed e s
  preservation d (s_app h) = let (a, b, p, f, u) = application_typed d in rw p (t_app (preservation f h) u)
  preservation d (s_castdown h) = let (σ, e, a, s) = castdown_typed d in t_castdown (preservation e h) a s
  preservation {τ = τ} d s_mu =
      let (p, e) = recursion_typed d in
      rw p (rw substitute_raise at (substitution S.closed e (rw p at d)))
  preservation {τ = τ} d (s_name {i} {e} k) =
      let (w, h) = name_typed d in
      anywhere S.closed (S.closed.shut_bodies i e k) (S.closed.shut_types i τ h) w (S.bodies_typed i e τ k h)

pub canonical : {B : Book} {v : View} {Γ : Context} {e τ : Term} → Value e → B ∣ v ∣ Γ ⊢ e ⦂ τ → Canonical v e τ
canonical v_star (t_ax w) =
    record {
      stars = (λ p. inl refl, λ s. refl);
      products = (λ p. absurd (true≢false (cc p.2)), λ l. absurd (true≢false (cc l.2)));
      stepping = (λ s. absurd (value_rests v_star s.1), λ c. absurd (true≢false (cc c.2)));
    }
canonical v_pi (t_pi {τ₁ = a} {τ₂ = b} d e) =
    record {
      stars = (λ p. inr (a, b, refl), λ s. refl);
      products = (λ p. absurd (true≢false (cc p.2)), λ l. absurd (true≢false (cc l.2)));
      stepping = (λ s. absurd (value_rests v_star s.1), λ c. absurd (true≢false (cc c.2)));
    }
canonical v_lam (t_lam {e = e} {τ₁ = a} {τ₂ = b} d q) =
    record {
      stars = (λ p. absurd (true≢false (cc p)), λ s. elim s [ inl p ↦ absurd (true≢false (cc p)) | inr p ↦ absurd (true≢false (cc p.2)) ]);
      products = (λ p. (a, e, refl), λ l. (a, b, refl));
      stepping = (λ s. absurd (value_rests v_pi s.1), λ c. absurd (true≢false (cc c.2)));
    }
canonical v_castup (t_castup {e = e} {τ₁ = a} {τ₂ = b} d q r) =
    record {
      stars = (λ p. absurd (value_rests v_star (rw p at r)), λ s. elim s [ inl p ↦ absurd (true≢false (cc p)) | inr p ↦ absurd (true≢false (cc p.2)) ]);
      products = (λ p. absurd (value_rests v_pi (rw p.2 at r)), λ l. absurd (true≢false (cc l.2)));
      stepping = (λ s. (a, e, refl), λ c. (b, r));
    }

-- The part of an application or a down cast that is a value is, by its type, of the form that a rule takes.
app_progress : {B : Book} {v : View} {Γ : Context} {f u a b : Term}
    → B ∣ v ∣ Γ ⊢ f ⦂ pi a b
    → Value f ⊎ CanStep v f
    → CanStep v (app f u)
app_progress {u = u} {a} {b} h (inl w) =
    let (c, e, p) = (canonical w h).products.0 (a, b, refl) in
    rw p (substitute 0 u e, s_beta)
app_progress {u = u} h (inr (x, s)) = (app x u, s_app s)

castdown_progress : {B : Book} {v : View} {Γ : Context} {e σ τ : Term}
    → B ∣ v ∣ Γ ⊢ e ⦂ σ
    → v ⊩ σ ⟶ τ
    → Value e ⊎ CanStep v e
    → CanStep v (castdown e)
castdown_progress {τ = τ} h r (inl w) =
    let (a, x, p) = (canonical w h).stepping.0 (τ, r) in
    rw p (x, s_castdownup)
castdown_progress h r (inr (x, s)) = (castdown x, s_castdown s)

-- Over any book: a name in it steps, with all bodies open.
pub progress : (B : Book) (e : Term) {τ : Term} → B ∣ bodies B ∣ [] ⊢ e ⦂ τ → Value e ⊎ CanStep (bodies B) e
progress B (var i) d = elim (variable_typed d) [ ]
progress B star d = inl v_star
progress B (app f u) d = let (a, b, p, h, k) = application_typed d in inr (app_progress h (progress B f h))
progress B (lam a e) d = inl v_lam
progress B (pi a b) d = inl v_pi
progress B (castup a e) d = inl v_castup
progress B (castdown e) d = let (σ, h, a, s) = castdown_typed d in inr (castdown_progress h s (progress B e h))
progress B (mu a e) d = inr (substitute 0 (mu a e) e, s_mu)
progress B (name i) d =
    let (w, h) = name_typed d in
    let (e, k) = body_of B i (types_within B i h) in
    inr (e, s_name k)

-- A closed typed term is a value or has exactly one next state, and never both.
pub typed_next : (B : Book) {e τ : Term}
    → B ∣ bodies B ∣ [] ⊢ e ⦂ τ
    → (Value e × ¬ CanStep (bodies B) e) ⊎ (¬ Value e × ((x : Term) × Only (λ y. bodies B ⊩ e ⟶ y) x))
typed_next B {e} h = told (progress B e h)
  where
    told : Value e ⊎ CanStep (bodies B) e → (Value e × ¬ CanStep (bodies B) e) ⊎ (¬ Value e × ((x : Term) × Only (λ y. bodies B ⊩ e ⟶ y) x))
    told (inl v) = inl (v, λ s. value_rests v s.1)
    told (inr (x, s)) = inr (λ v. value_rests v s, (x, (s, λ y r. determinism r s)))
