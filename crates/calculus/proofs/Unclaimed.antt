-- The counterexamples, by computing: what inference answers over a grown book is what the rules say. Over the forged book the rules are
-- taken apart.
use Prim.Native.Nat.{ℕ, ◌<◌}
use mathlib.Core.Bool.{Bool, true, false, decide, true≢false}
use mathlib.Core.List.{[], ◌∷◌, ◌++◌}
use mathlib.Core.Path.{◌≡◌, refl, sym, ◌∙◌}
use native.Mathlib.Decide.{ℕ_discrete}
use native.Mathlib.Omega.{arith}
use lib.Dec.{lit≤}
use lib.ListN.{length}
use Rattle.calculus.specs.Term.{Term, var, star, lam, pi, castdown, mu, name, size, raise, substitute}
use Rattle.calculus.specs.Answer.{ok, ◌>>=◌, ◌>>◌, require, no_step, wrong_cast}
use Rattle.calculus.specs.Words.{Scoped, Named, Readable, levels}
use Rattle.calculus.specs.Book.{Book, View, most, view, types, bodies, seen}
use Rattle.calculus.specs.Rules.{Context, s_name, v_star, env_empty, ◌∣◌∣◌⊢◌⦂◌, t_ax, t_lam, t_castdown, t_mu, t_name}
use Rattle.calculus.specs.Failing.{Fails}
use Rattle.calculus.specs.Growing.{nothing_added, one_added, Grown}
use Rattle.calculus.specs.Step.{unfolded, step}
use Rattle.calculus.specs.Infer.{annotation, stored, same, measure, product, stepped, infer}
use Rattle.calculus.specs.Outcomes.{largest_limit}
use Rattle.calculus.specs.Opening.{defined, alike_none, alike_same, alike_closed}
use Rattle.calculus.specs.Unclaimed.{forged, Forged, needs_0, closed_0, lent, changed, NotCorrect, NotPreserved, NotGrown, TypedOpen}
use Rattle.calculus.proofs.Says.{ok_not_refused}
use Rattle.calculus.proofs.Reduction.{value_rests}
use Rattle.calculus.proofs.Along.{product_typed}
use Rattle.calculus.proofs.Books.{seen_in_bodies}
use Rattle.calculus.proofs.Types.{Sound}
use Rattle.calculus.proofs.Soundness.{sound}
use Rattle.calculus.proofs.Completeness.{refused_complete}
use Rattle.calculus.proofs.Inference.{infer_sound, refused_sound}
use Rattle.calculus.proofs.Refusals.{no_type}

-- A down cast of star has no type, since star does not step.
castdown_star : {B : Book} {v : View} {Γ : Context} {τ : Term} → ¬ (B ∣ v ∣ Γ ⊢ castdown star ⦂ τ)
castdown_star (t_castdown (t_ax w) a s) = value_rests v_star s

accepts_forged : (v : View) → infer (types forged) (step v) largest_limit [] 0 (lam star (name 0)) ≡ ok (pi star (castdown star))
unfolding infer ◌>>=◌ ◌>>◌ require measure same decide ℕ_discrete size stored types view
accepts_forged v = refl

untyped_forged : {v : View} {τ : Term} → ¬ (forged ∣ v ∣ [] ⊢ lam star (name 0) ⦂ τ)
unfolding types view
untyped_forged (t_lam {τ₂ = τ} (t_name w h) p) =
    let stored_type : castdown star ≡ τ = cc h in
    castdown_star (rw (← stored_type) at (product_typed p).2)

pub forged_accepted : Forged
forged_accepted v =
    (accepts_forged v, λ τ d. untyped_forged d, λ r p f. absurd (ok_not_refused (sym (accepts_forged v) ∙ refused_complete f)))

-- One definition of owner 0 more, by what inference answers.
added : (C : Book) (m : Bool) {t τ : Term} → Grown C → length C < most → Readable (length C) t
    → infer (types C) (step (seen 0 C)) largest_limit [] 0 t ≡ ok τ
    → Grown (C ++ defined m t τ 0 ∷ [])
added C m g l c i =
    one_added m g l (lit≤ tt) (lit≤ tt) c (infer_sound (sound g) (seen_in_bodies 0 C) 0 env_empty c.closed c.named i)

grown_star : Grown (closed_0 star ∷ [])
unfolding infer ◌>>=◌ ◌>>◌ require measure size Scoped Named levels
grown_star = added [] false nothing_added (lit≤ tt) (record { closed = tt; named = tt; short = lit≤ tt; shallow = lit≤ tt }) refl

grown_product : Grown (closed_0 (pi star star) ∷ [])
unfolding infer ◌>>=◌ ◌>>◌ require measure same decide ℕ_discrete size Scoped Named levels
grown_product =
    added [] false nothing_added (lit≤ tt) (record { closed = (tt, tt); named = (tt, tt); short = lit≤ tt; shallow = lit≤ tt }) refl

-- The type of definition 1 is closed and names definition 0 alone.
scoped_1 : Scoped 0 needs_0
unfolding Scoped
scoped_1 = ((tt, tt), (tt, tt))

named_1 : (n : ℕ) → 0 < n → Named n needs_0
unfolding Named
named_1 n h = ((h, tt), (h, tt))

grown_lent : Grown lent
unfolding infer ◌>>=◌ ◌>>◌ require measure product stepped annotation stored same decide ℕ_discrete size raise substitute step unfolded types seen view Scoped Named levels
grown_lent =
    added (closed_0 star ∷ []) true grown_star (lit≤ tt)
    (record { closed = (scoped_1, omega arith); named = (named_1 1 (omega arith), tt); short = lit≤ tt; shallow = lit≤ tt })
    refl

-- For owner 1 the up cast in it is refused by 13.
fails_1 : Fails lent (seen 1 lent) largest_limit [] 0 needs_0 no_step 4
unfolding infer ◌>>=◌ ◌>>◌ require measure product stepped stored same decide ℕ_discrete size substitute step unfolded types seen view
fails_1 = refused_sound (sound grown_lent) (seen_in_bodies 1 lent) env_empty scoped_1 (named_1 2 (omega arith)) refl

-- So it has no type there.
untyped_1 : {τ : Term} → ¬ (lent ∣ seen 1 lent ∣ [] ⊢ needs_0 ⦂ τ)
untyped_1 d = no_type fails_1 (λ e. absurd (true≢false (cc e))) d

name_1 : lent ∣ seen 1 lent ∣ [] ⊢ name 1 ⦂ needs_0
unfolding types view
name_1 = t_name env_empty refl

pub not_correct : NotCorrect
not_correct = (grown_lent, name_1, untyped_1)

pub not_preserved : NotPreserved
unfolding seen view
not_preserved = (grown_lent, name_1, (mu needs_0 (var 0), s_name refl, body_untyped))
  where
    body_untyped : {τ : Term} → ¬ (lent ∣ seen 1 lent ∣ [] ⊢ mu needs_0 (var 0) ⦂ τ)
    body_untyped (t_mu e a) = untyped_1 a

pub typed_open : TypedOpen
unfolding infer ◌>>=◌ ◌>>◌ require measure product stepped stored same decide ℕ_discrete size substitute step unfolded types bodies view
typed_open =
    let d = infer_sound (sound grown_lent) (λ i e h. h) {L = largest_limit} 0 env_empty scoped_1 (named_1 2 (omega arith)) refl in
    (grown_lent, fails_1, d.typed)

-- In the changed book the type of definition 1 is refused by 14, with all bodies open; a sound book's types are typed there.
unsound_changed : ¬ Sound changed
unfolding infer ◌>>=◌ ◌>>◌ require measure product stepped stored same decide ℕ_discrete size substitute step unfolded types bodies view
unsound_changed S = no_type fails (λ e. absurd (true≢false (cc e))) (S.types_typed 1 needs_0 refl)
  where
    fails : Fails changed (bodies changed) largest_limit [] 0 needs_0 wrong_cast 4
    fails = refused_sound S (λ i e h. h) env_empty scoped_1 (named_1 2 (omega arith)) refl

pub not_grown : NotGrown
not_grown =
    (grown_lent, grown_product, alike_closed {u = 0} (λ e. omega (arith, e)) (alike_same alike_none), λ g. unsound_changed (sound g))
