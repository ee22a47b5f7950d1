-- Typing within a limit, node by node, over a sound book and at any view of its bodies: a node is typed within L as soon as its parts are and its own type fits, and the parts of a
-- node typed within L are typed within L. What is measured at a node is its type, which is unique, the step of an up cast's
-- annotation, which is determined, and what is measured at its parts.
use Prim.Native.Nat.{ℕ, ◌≤◌}
use mathlib.Core.List.{◌∷◌}
use mathlib.Core.Option.{some}
use mathlib.Core.Path.{◌≡◌, subst}
use Rattle.calculus.specs.Term.{Term, var, star, app, lam, pi, castup, castdown, mu, name, size, raise, substitute}
use Rattle.calculus.specs.Book.{Book, View, ◌⊆◌, types, bodies}
use Rattle.calculus.specs.Rules.{Context, WellFormed, ◌⊩◌⟶◌, ◌∋◌⦂◌, ◌∣◌∣◌⊢◌⦂◌, t_ax, t_var, t_app, t_lam, t_pi, t_castup, t_castdown, t_mu, t_name}
use Rattle.calculus.specs.Limit.{Part, function, argument, lam_annotation, lam_body, domain, codomain, castup_annotation, castup_body, castdown_body, mu_annotation, mu_body, Measured, its_type, stepped_annotation, at_part, ◌∣◌∣◌⊢⟨◌⟩◌⦂◌}
use Rattle.calculus.proofs.Reduction.{determinism}
use Rattle.calculus.proofs.Extension.{step_more, extended}
use Rattle.calculus.proofs.Types.{Sound, correctness, uniqueness}
use Rattle.calculus.proofs.Safety.{preservation}

-- Everything measured at `e` fits.
abbrev pub Fits : Book → View → ℕ → Context → Term → Type 0
Fits B v L Γ e = (σ : Term) → Measured B v Γ e σ → size σ ≤ L

-- A type of `e` fits when one type of `e` does.
its_type_fits : {B : Book} {v : View} {L : ℕ} {Γ : Context} {e τ σ : Term} → B ∣ v ∣ Γ ⊢ e ⦂ τ → size τ ≤ L → B ∣ v ∣ Γ ⊢ e ⦂ σ → size σ ≤ L
its_type_fits {L = L} d h d' = subst (λ x. size x ≤ L) (uniqueness d d') h

-- The type of a term typed within a limit fits it.
pub type_fits : {B : Book} {v : View} {L : ℕ} {Γ : Context} {e τ : Term} → B ∣ v ∣ Γ ⊢⟨ L ⟩ e ⦂ τ → size τ ≤ L
type_fits {τ = τ} h = h.fits τ (its_type h.typed)

-- What is measured at a part is measured at the node.
pub part_fits : {B : Book} {v : View} {L : ℕ} {Γ Γ' : Context} {e e' : Term} → Part Γ e Γ' e' → Fits B v L Γ e → Fits B v L Γ' e'
part_fits part h σ m = h σ (at_part part m)

-- What is typed at a view of the bodies is typed with all of them open.
openly : {B : Book} {v : View} {Γ : Context} {e τ : Term} → v ⊆ bodies B → B ∣ v ∣ Γ ⊢ e ⦂ τ → B ∣ bodies B ∣ Γ ⊢ e ⦂ τ
openly {B} s d = extended B B (λ i e h. h) (λ i e h. h) d (bodies B) s

pub star_within : {B : Book} {v : View} {L : ℕ} {Γ : Context} → WellFormed B v Γ → size star ≤ L → B ∣ v ∣ Γ ⊢⟨ L ⟩ star ⦂ star
star_within {B} {v} {L} {Γ} w h = record { typed = t_ax w; fits = fit }
  where
    fit : Fits B v L Γ star
    fit σ (its_type d) = its_type_fits (t_ax w) h d
    fit σ (at_part part _) = elim part [ ]

pub var_within : {B : Book} {v : View} {L : ℕ} {Γ : Context} {i : ℕ} {τ : Term} → WellFormed B v Γ → Γ ∋ i ⦂ τ → size τ ≤ L → B ∣ v ∣ Γ ⊢⟨ L ⟩ var i ⦂ τ
var_within {B} {v} {L} {Γ} {i} w x h = record { typed = t_var w x; fits = fit }
  where
    fit : Fits B v L Γ (var i)
    fit σ (its_type d) = its_type_fits (t_var w x) h d
    fit σ (at_part part _) = elim part [ ]

pub app_within : {B : Book} {v : View} {L : ℕ} {Γ : Context} {f u a b : Term}
    → B ∣ v ∣ Γ ⊢⟨ L ⟩ f ⦂ pi a b
    → B ∣ v ∣ Γ ⊢⟨ L ⟩ u ⦂ a
    → size (substitute 0 u b) ≤ L
    → B ∣ v ∣ Γ ⊢⟨ L ⟩ app f u ⦂ substitute 0 u b
app_within {B} {v} {L} {Γ} {f} {u} hf hu h = record { typed = t_app hf.typed hu.typed; fits = fit }
  where
    fit : Fits B v L Γ (app f u)
    fit σ (its_type d) = its_type_fits (t_app hf.typed hu.typed) h d
    fit σ (at_part function m) = hf.fits σ m
    fit σ (at_part argument m) = hu.fits σ m

pub lam_within : {B : Book} {v : View} {L : ℕ} {Γ : Context} {a e b : Term}
    → Sound B
    → v ⊆ bodies B
    → B ∣ v ∣ Γ ⊢⟨ L ⟩ a ⦂ star
    → B ∣ v ∣ (a ∷ Γ) ⊢⟨ L ⟩ e ⦂ b
    → size (pi a b) ≤ L
    → B ∣ v ∣ Γ ⊢⟨ L ⟩ lam a e ⦂ pi a b
lam_within {B} {v} {L} {Γ} {a} {e} {b} S s ha he h = record { typed = typing; fits = fit }
  where
    typing : B ∣ v ∣ Γ ⊢ lam a e ⦂ pi a b
    typing = t_lam he.typed (t_pi (openly s ha.typed) (correctness S (openly s he.typed)))

    fit : Fits B v L Γ (lam a e)
    fit σ (its_type d) = its_type_fits typing h d
    fit σ (at_part lam_annotation m) = ha.fits σ m
    fit σ (at_part lam_body m) = he.fits σ m

pub pi_within : {B : Book} {v : View} {L : ℕ} {Γ : Context} {a b : Term}
    → B ∣ v ∣ Γ ⊢⟨ L ⟩ a ⦂ star
    → B ∣ v ∣ (a ∷ Γ) ⊢⟨ L ⟩ b ⦂ star
    → size star ≤ L
    → B ∣ v ∣ Γ ⊢⟨ L ⟩ pi a b ⦂ star
pi_within {B} {v} {L} {Γ} {a} {b} ha hb h = record { typed = t_pi ha.typed hb.typed; fits = fit }
  where
    fit : Fits B v L Γ (pi a b)
    fit σ (its_type d) = its_type_fits (t_pi ha.typed hb.typed) h d
    fit σ (at_part domain m) = ha.fits σ m
    fit σ (at_part codomain m) = hb.fits σ m

pub castup_within : {B : Book} {v : View} {L : ℕ} {Γ : Context} {a a' e : Term}
    → B ∣ v ∣ Γ ⊢⟨ L ⟩ a ⦂ star
    → B ∣ v ∣ Γ ⊢⟨ L ⟩ e ⦂ a'
    → v ⊩ a ⟶ a'
    → size a ≤ L
    → B ∣ v ∣ Γ ⊢⟨ L ⟩ castup a e ⦂ a
castup_within {B} {v} {L} {Γ} {a} {a'} {e} ha he s h = record { typed = typing; fits = fit }
  where
    typing : B ∣ v ∣ Γ ⊢ castup a e ⦂ a
    typing = t_castup he.typed ha.typed s

    fit : Fits B v L Γ (castup a e)
    fit σ (its_type d) = its_type_fits typing h d
    fit σ (stepped_annotation s') = subst (λ x. size x ≤ L) (determinism s s') (type_fits he)
    fit σ (at_part castup_annotation m) = ha.fits σ m
    fit σ (at_part castup_body m) = he.fits σ m

pub castdown_within : {B : Book} {v : View} {L : ℕ} {Γ : Context} {e τ τ' : Term}
    → Sound B
    → v ⊆ bodies B
    → B ∣ v ∣ Γ ⊢⟨ L ⟩ e ⦂ τ
    → v ⊩ τ ⟶ τ'
    → size τ' ≤ L
    → B ∣ v ∣ Γ ⊢⟨ L ⟩ castdown e ⦂ τ'
castdown_within {B} {v} {L} {Γ} {e} {τ} {τ'} S m he s h = record { typed = typing; fits = fit }
  where
    typing : B ∣ v ∣ Γ ⊢ castdown e ⦂ τ'
    typing = t_castdown he.typed (preservation S (correctness S (openly m he.typed)) (step_more m s)) s

    fit : Fits B v L Γ (castdown e)
    fit σ (its_type d) = its_type_fits typing h d
    fit σ (at_part castdown_body m) = he.fits σ m

pub mu_within : {B : Book} {v : View} {L : ℕ} {Γ : Context} {a e : Term}
    → B ∣ v ∣ Γ ⊢⟨ L ⟩ a ⦂ star
    → B ∣ v ∣ (a ∷ Γ) ⊢⟨ L ⟩ e ⦂ raise 1 0 a
    → size a ≤ L
    → B ∣ v ∣ Γ ⊢⟨ L ⟩ mu a e ⦂ a
mu_within {B} {v} {L} {Γ} {a} {e} ha he h = record { typed = t_mu he.typed ha.typed; fits = fit }
  where
    fit : Fits B v L Γ (mu a e)
    fit σ (its_type d) = its_type_fits (t_mu he.typed ha.typed) h d
    fit σ (at_part mu_annotation m) = ha.fits σ m
    fit σ (at_part mu_body m) = he.fits σ m

pub name_within : {B : Book} {v : View} {L : ℕ} {Γ : Context} {i : ℕ} {τ : Term}
    → WellFormed B v Γ
    → types B i ≡ some τ
    → size τ ≤ L
    → B ∣ v ∣ Γ ⊢⟨ L ⟩ name i ⦂ τ
name_within {B} {v} {L} {Γ} {i} w k h = record { typed = t_name w k; fits = fit }
  where
    fit : Fits B v L Γ (name i)
    fit σ (its_type d) = its_type_fits (t_name w k) h d
    fit σ (at_part part _) = elim part [ ]
