-- A list of words begins with a term that fits or fails to be read, by recursion on the levels left: the word is tested, and its parts
-- are decided one after the other. A word that means something is the word of its meaning, so the node made of the parts has it.
use Prim.Native.Nat.{ℕ, zero, suc, ◌+◌, ◌<◌, max}
use mathlib.Core.List.{List, [], ◌∷◌}
use mathlib.Core.Logic.{◌≢◌, ◌⊎◌, inl, inr}
use mathlib.Core.Path.{◌≡◌, refl, sym, ap, ap₂, ◌∙◌, subst}
use native.Mathlib.Decide.{dec_le}
use native.Mathlib.Nat.{add-zero}
use native.Mathlib.Numerals.{add-one}
use native.Mathlib.Omega.{arith}
use lib.Dec.{T}
use Rattle.calculus.specs.Term.{Term, var, star, app, lam, pi, castup, castdown, mu}
use Rattle.calculus.specs.Answer.{Reason}
use Rattle.calculus.specs.Words.{emit, first_part, second_part, levels, Scoped, Named}
use Rattle.calculus.specs.Meaning.{Meaning, a_star, a_castdown, an_app, a_castup, a_lam, a_pi, a_mu, a_variable, a_name, nothing, meaning, binds}
use Rattle.calculus.specs.Reading.{Begins, Unread, no_word, meaningless, unnamed, too_deep, outside, in_first, in_second}
use Rattle.calculus.specs.Scan.{means}
use Rattle.calculus.proofs.Meanings.{word, the_word, sorted}

-- What the words at a place say of a subterm: it is there, or where reading it first fails.
abbrev pub Told : ℕ → ℕ → ℕ → List ℕ → Type 0
Told room binders p ws = ((t : Term) × (rest : List ℕ) × Begins room binders ws t rest) ⊎ ((r : Reason) × (q : ℕ) × Unread room binders p ws r q)

module _ (room binders p w : ℕ) (ws : List ℕ) (below : (b q : ℕ) (vs : List ℕ) → Told room b q vs) where
  -- A word without parts is its node,
  no_part : (t : Term)
      → ((rest : List ℕ) → emit t rest ≡ w ∷ rest)
      → levels t ≡ 1
      → Scoped binders t
      → Named 0 t
      → Told (suc room) binders p (w ∷ ws)
  no_part t written deep scoped named =
      inl (t, ws, record { written = sym (written ws); within = omega (arith, deep); scoped = scoped; named = named })

  -- a down cast has one part,
  one_part : meaning w ≡ a_castdown → Told (suc room) binders p (w ∷ ws)
  unfolding emit levels Scoped Named means word binds
  one_part h = first (below (binders + 0) (first_part p) ws)
    where
      first : Told room (binders + 0) (first_part p) ws → Told (suc room) binders p (w ∷ ws)
      first (inl (e, rest, he)) =
          inl (
            castdown e,
            rest,
            record {
              written = ap₂ ◌∷◌ (sym (the_word w h tt)) he.written;
              within = omega (arith, he.within);
              scoped = rw add-zero at he.scoped;
              named = he.named;
            },
          )
      first (inr (r, q, f)) = inr (r, q, in_first (ap binds h) f)

  -- and the others have two, with `k` variables bound in the second.
  two_parts : (m : Meaning) (c : Term → Term → Term) (k : ℕ)
      → meaning w ≡ m
      → T (means m)
      → binds m ≡ 0 ∷ k ∷ []
      → ((a e : Term) (rest : List ℕ) → emit (c a e) rest ≡ word m ∷ emit a (emit e rest))
      → ((a e : Term) → levels (c a e) ≡ suc (max (levels a) (levels e)))
      → ((a e : Term) → Scoped binders a → Scoped (binders + k) e → Scoped binders (c a e))
      → ((a e : Term) → Named 0 a → Named 0 e → Named 0 (c a e))
      → Told (suc room) binders p (w ∷ ws)
  two_parts m c k h meant parts written deep scoped named = first (below (binders + 0) (first_part p) ws)
    where
      bound : binds (meaning w) ≡ 0 ∷ k ∷ []
      bound = ap binds h ∙ parts

      second : (a : Term) (rest : List ℕ)
          → Begins room (binders + 0) ws a rest
          → Told room (binders + k) (second_part p a) rest
          → Told (suc room) binders p (w ∷ ws)
      second a rest ha (inl (e, after, he)) =
          inl (
            c a e,
            after,
            record {
              written = ap₂ ◌∷◌ (sym (the_word w h meant)) (ha.written ∙ ap (emit a) he.written) ∙ sym (written a e after);
              within = omega (arith, deep a e, ha.within, he.within);
              scoped = scoped a e (rw add-zero at ha.scoped) he.scoped;
              named = named a e ha.named he.named;
            },
          )
      second a rest ha (inr (r, q, f)) = inr (r, q, in_second bound ha f)

      first : Told room (binders + 0) (first_part p) ws → Told (suc room) binders p (w ∷ ws)
      first (inl (a, rest, ha)) = second a rest ha (below (binders + k) (second_part p a) rest)
      first (inr (r, q, f)) = inr (r, q, in_first bound f)

  told_word : (m : Meaning) → meaning w ≡ m → Told (suc room) binders p (w ∷ ws)
  unfolding means word binds emit levels Scoped Named
  told_word a_star h = no_part star (λ rest. ap (λ v. v ∷ rest) (the_word w h tt)) refl tt tt
  told_word a_castdown h = one_part h
  told_word an_app h = two_parts an_app app 0 h tt refl (λ a e k. refl) (λ a e. refl) (λ a e i j. (i, rw add-zero at j)) (λ a e i j. (i, j))
  told_word a_castup h = two_parts a_castup castup 0 h tt refl (λ a e k. refl) (λ a e. refl) (λ a e i j. (i, rw add-zero at j)) (λ a e i j. (i, j))
  told_word a_lam h = two_parts a_lam lam 1 h tt refl (λ a e k. refl) (λ a e. refl) (λ a e i j. (i, rw add-one at j)) (λ a e i j. (i, j))
  told_word a_pi h = two_parts a_pi pi 1 h tt refl (λ a e k. refl) (λ a e. refl) (λ a e i j. (i, rw add-one at j)) (λ a e i j. (i, j))
  told_word a_mu h = two_parts a_mu mu 1 h tt refl (λ a e k. refl) (λ a e. refl) (λ a e i j. (i, rw add-one at j)) (λ a e i j. (i, j))
  told_word (a_variable i) h = on (dec_le (suc i) binders)
    where
      on : Dec (i < binders) → Told (suc room) binders p (w ∷ ws)
      on (yes l) = no_part (var i) (λ rest. ap (λ v. v ∷ rest) (the_word w h tt)) refl l tt
      on (no n) = inr (_, _, outside {binders = binders} h (omega arith))
  told_word (a_name i) h = inr (_, _, unnamed h)
  told_word nothing h = inr (_, _, meaningless h)

-- What is not read is no meaning that is.
another : (m n : Meaning) → T (means m) → ¬ T (means n) → m ≢ n
another m n t k e = k (subst (λ x. T (means x)) e t)

-- Where no level is left, no term fits.
told_deep : (binders p w : ℕ) (ws : List ℕ) → Told zero binders p (w ∷ ws)
unfolding means
told_deep binders p w ws = on (sorted (meaning w))
  where
    on : (meaning w ≡ nothing) ⊎ ((i : ℕ) × (meaning w ≡ a_name i)) ⊎ T (means (meaning w)) → Told zero binders p (w ∷ ws)
    on (inl e) = inr (_, _, meaningless e)
    on (inr (inl (i, e))) = inr (_, _, unnamed e)
    on (inr (inr t)) = inr (_, _, too_deep (another (meaning w) nothing t (λ k. k)) (λ i. another (meaning w) (a_name i) t (λ k. k)))

pub told : (room binders p : ℕ) (ws : List ℕ) → Told room binders p ws
told zero binders p [] = inr (_, _, no_word)
told zero binders p (w ∷ ws) = told_deep binders p w ws
told (suc room) binders p [] = inr (_, _, no_word)
told (suc room) binders p (w ∷ ws) = told_word room binders p w ws (told room) (meaning w) refl
