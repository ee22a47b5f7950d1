-- The first word of a term says which node it is, in the words read and where a type is kept that was found: so the code's one
-- decision over a word is a decision over terms.
use Prim.Native.Nat.{ℕ, ◌*◌}
use mathlib.Core.List.{List, []}
use mathlib.Core.Logic.{◌≢◌}
use mathlib.Core.Path.{◌≡◌, refl, sym, ap, subst, ◌∙◌}
use native.Mathlib.Nat.{add-zero}
use native.Mathlib.Omega.{arith}
use lib.ListN.{take, drop, get_or}
use lib.Seq.{get_or-take, get_or-drop}
use Rattle.calculus.specs.Term.{Term, var, star, app, lam, pi, castup, castdown, mu, name, size}
use Rattle.calculus.specs.Answer.{Answer}
use Rattle.calculus.specs.Words.{emit, Scoped, Named, deepest}
use Rattle.calculus.specs.Meaning as calculus
use Rattle.calculus.specs.Meaning.{meaning, a_star, a_castdown, an_app, a_castup, a_lam, a_pi, a_mu, a_variable, a_name, nothing}
use Rattle.calculus.specs.Rules.{Context}
use Rattle.calculus.proofs.Coding.{size_positive}
use Rattle.calculus.proofs.Meanings.{meaning_word, word, Indexed}
use Rattle.term.specs.Kept.{keep, kept, word_at}
use Rattle.term.specs.Word.{meaning_of}
use Rattle.term.specs.declared.word.Meaning.{Meaning}
use Rattle.term.specs.declared.word.Meaning.TheVariants as code
use Rattle.inference.specs.Inference.{judge, Subject}
use Rattle.inference.proofs.Rooms.{own_scope, deeper_scoped}
use Rattle.inference.proofs.Types.{type_scoped, type_named}
use Rattle.inference.proofs.Passing.{Part}
use Rattle.book.specs.declared.Reader.{Reader}
use Rattle.calculus.specs.Book.{most}
use Rattle.calculus.proofs.Scoping.{named_more}

-- A term with the node that is meant.
unfoldable pub Headed : calculus.Meaning → Term → Type 0
Headed a_star e = e ≡ star
Headed a_castdown e = (d : Term) × (e ≡ castdown d)
Headed an_app e = (f : Term) × (u : Term) × (e ≡ app f u)
Headed a_castup e = (a : Term) × (d : Term) × (e ≡ castup a d)
Headed a_lam e = (a : Term) × (d : Term) × (e ≡ lam a d)
Headed a_pi e = (a : Term) × (b : Term) × (e ≡ pi a b)
Headed a_mu e = (a : Term) × (d : Term) × (e ≡ mu a d)
Headed (a_variable i) e = e ≡ var i
Headed (a_name i) e = e ≡ name i
Headed nothing e = ⊥

headed : (e : Term) (r : List ℕ) → Scoped deepest e → Named most e → Headed (meaning (get_or (emit e r) 0 0)) e
unfolding Headed emit meaning Scoped Named word Indexed
headed (var i) r s n = subst (λ m. Headed m (var i)) (sym (meaning_word (a_variable i) (omega arith))) refl
headed star r s n = refl
headed (app f u) r s n = (f, u, refl)
headed (lam a e) r s n = (a, e, refl)
headed (pi a b) r s n = (a, b, refl)
headed (castup a e) r s n = (a, e, refl)
headed (castdown e) r s n = (e, refl)
headed (mu a e) r s n = (a, e, refl)
headed (name i) r s n = subst (λ m. Headed m (name i)) (sym (meaning_word (a_name i) n)) refl

-- The first word of the words read, which the code found to mean `m`.
pub subject_headed : {book : List ℕ} {Γ : Context} {e : Term} {term sub places : List ℕ} {depth : ℕ} {r m : Meaning}
    → Subject book Γ e term sub places depth
    → r ≡ m
    → meaning_of r ≡ meaning (get_or sub 0 0)
    → Headed (meaning_of m) e
subject_headed {e} S told means =
    subst (λ k. Headed k e) (ap (λ ws. meaning (get_or ws 0 0)) (sym S.begins) ∙ sym means ∙ ap meaning_of told)
    (headed e S.rest (deeper_scoped S e (own_scope S)) (named_more e S.holds.few S.named))

-- A kept term begins with the same word.
same_head : (e : Term) (k r : List ℕ) → get_or (keep e k) 0 0 ≡ get_or (emit e r) 0 0
unfolding keep emit
same_head (var i) k r = refl
same_head star k r = refl
same_head (app f u) k r = refl
same_head (lam a e) k r = refl
same_head (pi a b) k r = refl
same_head (castup a e) k r = refl
same_head (castdown e) k r = refl
same_head (mu a e) k r = refl
same_head (name i) k r = refl

-- The first word of what is kept in a slice.
lying_word : (τ : Term) (m top : ℕ) (after : List ℕ)
    → take (2 * m) (drop (2 * top) after) ≡ kept τ
    → m ≡ size τ
    → word_at after top ≡ get_or (emit τ []) 0 0
unfolding kept
lying_word τ m top after x l =
    ap (λ n. get_or after n 0) (sym (add-zero (2 * top)))
    ∙ sym (get_or-drop (2 * top) after 0 0)
    ∙ sym (get_or-take (2 * m) (drop (2 * top) after) 0 0 (omega (arith, size_positive τ)))
    ∙ ap (λ ws. get_or ws 0 0) x
    ∙ same_head τ [] []

-- The type that was found of a subterm: its first word says which node it is.
pub type_headed : (who : Reader) {book : List ℕ} {Γ : Context} {e : Term} {term sub places : List ℕ} {depth : ℕ} (L p : ℕ) {places₀ work : List ℕ} {depth₀ top n m : ℕ} {after places' : List ℕ} {k : calculus.Meaning}
    → Subject book Γ e term sub places depth
    → (part : Part (judge who book L Γ p e) e places₀ depth₀ work top n m after places')
    → k ≡ meaning (word_at after top)
    → Headed k part.type
type_headed who L p {top} {m} {after} S part w =
    let τ = part.type in
    subst (λ k. Headed k τ) (ap meaning (sym (lying_word τ m top after part.lies part.long)) ∙ sym w)
    (headed τ [] (deeper_scoped S τ (type_scoped S who L p part.found)) (named_more τ S.holds.few (type_named S who L p part.found)))

pub type_meaning : {x : Answer Term} {e τ : Term} {places : List ℕ} {depth : ℕ} {work : List ℕ} {top n m : ℕ} {after places' : List ℕ}
    → (part : Part x e places depth work top n m after places')
    → part.type ≡ τ
    → meaning (word_at after top) ≡ meaning (get_or (emit τ []) 0 0)
type_meaning {τ} {top} {m} {after} part x =
    ap meaning (lying_word τ m top after (part.lies ∙ ap kept x) (part.long ∙ ap size x))

-- What a decision says that takes another way: another variant means another node.
pub not_star : (r : Meaning) → (r ≡ code.Star → ⊥) → meaning_of r ≢ a_star
not_star code.Star n x = n refl
not_star code.CastDown n x = absurd cc
not_star code.Application n x = absurd cc
not_star code.CastUp n x = absurd cc
not_star code.Abstraction n x = absurd cc
not_star code.Product n x = absurd cc
not_star code.Recursion n x = absurd cc
not_star (code.Variable i) n x = absurd cc
not_star code.Nothing n x = absurd cc
not_star (code.Name i) n x = absurd cc

pub not_product : (r : Meaning) → (r ≡ code.Product → ⊥) → meaning_of r ≢ a_pi
not_product code.Star n x = absurd cc
not_product code.CastDown n x = absurd cc
not_product code.Application n x = absurd cc
not_product code.CastUp n x = absurd cc
not_product code.Abstraction n x = absurd cc
not_product code.Product n x = n refl
not_product code.Recursion n x = absurd cc
not_product (code.Variable i) n x = absurd cc
not_product code.Nothing n x = absurd cc
not_product (code.Name i) n x = absurd cc
