-- `find_redex` meets its contract: each return gives the redex that the node behind the leading down casts and applications, and
-- the one before it, decide; of a name, what the book shows.
use Rattle.std.proofs.Common.{◌≡◌, refl, sym, ◌∙◌, List, ℕ, get_or, Bool, true, false, ◌⊎◌, inl, inr, Result}
use Rattle.term.specs.declared.word.Meaning.{Meaning}
use Rattle.term.specs.declared.word.Meaning.TheVariants as word
use Rattle.term.specs.Kept.{word_at}
use Rattle.term.specs.Word.{meaning_of}
use Rattle.calculus.specs.Meaning.{meaning}
use Rattle.reduction.specs.declared.stepping.Redex.{Redex}
use Rattle.reduction.specs.declared.stepping.Rest.{Rest}
use Rattle.reduction.proofs.Deciding.{Decides, found, found_framed, found_name, name_defined}
use Rattle.reduction.proofs.Heads.{value, stuck, outermost, framed}
use Rattle.reduction.proofs.WordKinds.{variant_kind, no_application, no_castdown}
use Rattle.reduction.proofs.stepping.find_redex.Goals as goal
use Rattle.reduction.proofs.stepping.find_redex.Goals.{After-classify, After-leading-at}

-- The word behind the leading down casts and applications.
decides : (c : goal.After-classify)
    → let a = c.args in
    Decides a.reader a.state.now c.leading-at.result c.classify.result
decides c = record { counted = c.leading-at.ensures; known = c.classify.ensures }

-- A star, a product, an abstraction and an up cast are values by themselves; the first two are stuck behind frames.
is_value : {m : Meaning}
    → ((m ≡ word.Star) ⊎ (m ≡ word.Product)) ⊎ ((m ≡ word.Abstraction) ⊎ (m ≡ word.CastUp))
    → (s : Bool)
    → get_or (outermost s) (variant_kind m) stuck ≡ value
is_value (inl (inl e)) s = rw e refl
is_value (inl (inr e)) s = rw e refl
is_value (inr (inl e)) s = rw e refl
is_value (inr (inr e)) s = rw e refl

ends_there : {m : Meaning}
    → (m ≡ word.Star) ⊎ (m ≡ word.Product)
    → (s : Bool) (n b p : ℕ)
    → get_or (framed s n b p) (variant_kind m) stuck ≡ stuck
ends_there (inl e) s n b p = rw e refl
ends_there (inr e) s n b p = rw e refl

-- What has no step anywhere.
is_stuck : {m : Meaning}
    → (((i : ℕ) × (m ≡ word.Variable i)) ⊎ (m ≡ word.Nothing)) ⊎ ((m ≡ word.CastDown) ⊎ (m ≡ word.Application))
    → (row : List (Result Redex Rest))
    → get_or row 7 stuck ≡ stuck
    → get_or row 8 stuck ≡ stuck
    → get_or row 1 stuck ≡ stuck
    → get_or row 2 stuck ≡ stuck
    → get_or row (variant_kind m) stuck ≡ stuck
is_stuck (inl (inl e)) row a b d f = rw e.1 a
is_stuck (inl (inr e)) row a b d f = rw e b
is_stuck (inr (inl e)) row a b d f = rw e d
is_stuck (inr (inr e)) row a b d f = rw e f

pub shown-requires : goal.shown-requires
shown-requires c =
    let k = (goal.at.shown-requires c).After-classify in
    let (B, t, held, keeps) = k.requires in
    name_defined (decides k) B t held keeps c.in-Name.is c.from.ensures

pub returns-in-Name : goal.returns-in-Name
returns-in-Name c =
    found_name
    (decides (goal.at.returns-in-Name c).After-classify)
    true
    c.in-Name.is
    c.from.ensures
    (λ d defined. sym c.if-shown.true ∙ c.shown.ensures d defined)

pub returns-in-Recursion : goal.returns-in-Recursion
returns-in-Recursion c =
    found
    (decides (goal.at.returns-in-Recursion c).After-classify)
    (λ z s. rw (c.in-Recursion.is, z) refl)
    (λ _ s. rw c.in-Recursion.is refl)

-- The same of a word that one variant alone classifies.
decides_by : (c : goal.After-leading-at) (m : Meaning)
    → let a = c.args in
    meaning_of m ≡ meaning (word_at a.state.now c.leading-at.result) → Decides a.reader a.state.now c.leading-at.result m
decides_by c m known = record { counted = c.leading-at.ensures; known = known }

pub returns-in-Star : goal.returns-in-Star
returns-in-Star c =
    found
    (decides (goal.at.returns-in-Star c).After-classify)
    (λ _. is_value (inl c.in-Star.is))
    (λ n. absurd (n c.if-at-eq0.true))

pub returns-in-Abstraction : goal.returns-in-Abstraction
returns-in-Abstraction c =
    found
    (decides (goal.at.returns-in-Abstraction c).After-classify)
    (λ _. is_value (inr c.in-Abstraction.is))
    (λ n. absurd (n c.if-at-eq0-2.true))

pub returns-in-Application : goal.returns-in-Application
returns-in-Application c =
    let d = decides_by (goal.at.returns-in-Application c).After-leading-at word.Abstraction c.in-Abstraction-2.ensures in
    found_framed d word.Application c.in-Application.ensures c.if-at-eq0-2.false (λ s. refl)

pub returns-in_default : goal.returns-in_default
returns-in_default c =
    let d = decides_by (goal.at.returns-in_default c).After-leading-at word.Abstraction c.in-Abstraction-2.ensures in
    let k = c.classify-in-Abstraction-2 in
    found_framed d k.result k.ensures c.if-at-eq0-2.false (λ s. rw (no_application k.result c.in_default.not-Application) refl)

pub returns-in-CastDown-classify : goal.returns-in-CastDown-classify
returns-in-CastDown-classify c =
    let d = decides_by (goal.at.returns-in-CastDown-classify c).After-leading-at word.CastUp c.in-CastUp.ensures in
    found_framed d word.CastDown c.in-CastDown-classify.ensures c.if-at-eq0-2.false (λ s. refl)

pub returns-in_default-classify : goal.returns-in_default-classify
returns-in_default-classify c =
    let d = decides_by (goal.at.returns-in_default-classify c).After-leading-at word.CastUp c.in-CastUp.ensures in
    let k = c.classify-in-CastUp in
    found_framed d k.result k.ensures c.if-at-eq0-2.false (λ s. rw (no_castdown k.result c.in_default-classify.not-CastDown) refl)

pub returns-in-Name-2 : goal.returns-in-Name-2
returns-in-Name-2 c =
    found_name
    (decides (goal.at.returns-in-Name-2 c).After-classify)
    false
    c.in-Name.is
    c.from.ensures
    (λ d defined. sym c.if-shown.false ∙ c.shown.ensures d defined)

pub returns-in-Name-2-2 : goal.returns-in-Name-2-2
returns-in-Name-2-2 c =
    found
    (decides (goal.at.returns-in-Name-2-2 c).After-classify)
    (λ z. absurd (c.if-at-eq0.false z))
    (λ _ s. ends_there c.in-Star.is s _ _ _)

pub returns-in-Variable-2 : goal.returns-in-Variable-2
returns-in-Variable-2 c =
    found
    (decides (goal.at.returns-in-Variable-2 c).After-classify)
    (λ _ s. is_stuck (inl c.in-Variable.is) (outermost s) refl refl refl refl)
    (λ _ s. is_stuck (inl c.in-Variable.is) (framed s _ _ _) refl refl refl refl)

pub returns-in-CastDown-2 : goal.returns-in-CastDown-2
returns-in-CastDown-2 c =
    found
    (decides (goal.at.returns-in-CastDown-2 c).After-classify)
    (λ _ s. is_stuck (inr c.in-CastDown.is) (outermost s) refl refl refl refl)
    (λ _ s. is_stuck (inr c.in-CastDown.is) (framed s _ _ _) refl refl refl refl)
