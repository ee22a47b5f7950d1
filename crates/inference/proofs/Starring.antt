-- A part whose type has to be star: it is, by the first word of the type, or the part is refused.
use Prim.Native.Nat.{ℕ}
use mathlib.Core.List.{List}
use mathlib.Core.Logic.{◌≢◌}
use mathlib.Core.Path.{◌≡◌, refl, ap, ap₂, ◌∙◌}
use Rattle.calculus.specs.Term.{Term, star, size}
use Rattle.calculus.specs.Answer as reason
use Rattle.calculus.specs.Answer.{refused, ◌>>=◌, ◌>>◌, require}
use Rattle.calculus.specs.Words.{emit}
use Rattle.calculus.specs.Meaning.{meaning, a_star}
use Rattle.calculus.specs.Rules.{Context}
use Rattle.calculus.proofs.Testing.{equal, unequal}
use Rattle.term.specs.Kept.{word_at}
use Rattle.std.specs.Prelude.{Ok}
use Rattle.inference.specs.declared.Typed.{Typed}
use Rattle.inference.specs.Inference.{judge, Subject, Infers, star_typed}
use Rattle.inference.proofs.Passing.{Part, lying, found}
use Rattle.inference.proofs.Heads.{Headed, type_headed, type_meaning}
use Rattle.book.specs.declared.Reader.{Reader}

-- A type whose first word is that of star.
pub of_star : (who : Reader) {book : List ℕ} (L p : ℕ) {Γ : Context} {e : Term} {term sub places : List ℕ} {depth : ℕ} {work : List ℕ} {top : ℕ} {t : Typed}
    {after places' : List ℕ}
    → Subject book Γ e term sub places depth
    → Part (judge who book L Γ p e) e places depth work top t.read t.length after places'
    → a_star ≡ meaning (word_at after top)
    → Infers (star_typed who book L Γ p e) e places depth work top (Ok t) after places'
unfolding star_typed ◌>>=◌ ◌>>◌ require Headed
of_star who L p S part w =
    found
    (rw (part.found, x, equal star) refl)
    (record {
      answer = ap₂ (λ n m. Ok (record { read = n; length = m })) part.read (part.long ∙ ap size x);
      lies = lying part x;
      front = part.front;
      context = part.context;
      wide = part.wide;
    })
  where
    x : part.type ≡ star
    x = type_headed who L p S part w

-- A type whose first word is not that of star.
pub of_no_star : (who : Reader) (book : List ℕ) (L : ℕ) (Γ : Context) (p : ℕ) {e : Term} {places : List ℕ} {depth : ℕ} {work : List ℕ} {top n m : ℕ}
    {after places' : List ℕ}
    → Part (judge who book L Γ p e) e places depth work top n m after places'
    → meaning (word_at after top) ≢ a_star
    → star_typed who book L Γ p e ≡ refused reason.not_star p
unfolding star_typed ◌>>=◌ ◌>>◌ require emit meaning
of_no_star who book L Γ p part n = rw (part.found, unequal λ x. n (type_meaning part x)) refl
