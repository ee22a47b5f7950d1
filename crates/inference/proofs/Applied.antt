-- The argument's type is the domain or not, and the codomain with the argument put in is within the limit or over it: each has its
-- own answer.
use Prim.Native.Nat.{ℕ, ◌*◌, ◌≤◌, ◌<◌}
use mathlib.Core.Bool.{true≢false}
use mathlib.Core.List.{List}
use mathlib.Core.Logic.{◌≢◌}
use mathlib.Core.Path.{◌≡◌, refl, ap, ◌∙◌}
use native.Mathlib.Decide.{ℕ_discrete}
use lib.Seq.{sets}
use Rattle.std.specs.Prelude.{Result, Ok, Err}
use Rattle.calculus.specs.Term.{Term, Term-discrete, size, substitute}
use Rattle.calculus.specs.Answer.{Answer, refused, wrong_argument, over_limit}
use Rattle.term.specs.Kept.{kept}
use Rattle.term.specs.Reasons.{reason_of}
use Rattle.term.specs.declared.refusal.Reason.{Reason}
use Rattle.term.specs.declared.refusal.Reason.TheVariants.{WrongArgument, OverLimit}
use Rattle.inference.specs.Moving.{Applies}
use Rattle.inference.proofs.Putting.{within_or_over}

-- The application has a type, which lies at `top`.
pub record Instance (a b u σ : Term) (work : List ℕ) (top limit n : ℕ) (after : List ℕ) : Type 0 where
  pub alike : σ ≡ a
  pub fits : size (substitute 0 u b) ≤ limit
  pub long : n ≡ size (substitute 0 u b)
  pub stored : after ≡ sets work (2 * top) (kept (substitute 0 u b))

-- What each answer says.
module _ {a b u σ : Term} {work : List ℕ} {top limit : ℕ} {r : Result ℕ Reason} {after : List ℕ} (A : Applies a b u σ work top limit r after) where
  by_cases : {R : Type 0}
      → (σ ≢ a → r ≡ Err WrongArgument → R)
      → (σ ≡ a → limit < size (substitute 0 u b) → r ≡ Err OverLimit → R)
      → (Instance a b u σ work top limit (size (substitute 0 u b)) after → r ≡ Ok (size (substitute 0 u b)) → R)
      → R
  by_cases {R} wrong over right = on (Term-discrete ℕ_discrete σ a)
    where
      on : Dec (σ ≡ a) → R
      on (no n) = wrong n (A.wrong n).0
      on (yes h) =
          within_or_over (substitute 0 u b) limit
          (λ f. right (record { alike = h; fits = f; long = refl; stored = (A.fits h f).1 }) (A.fits h f).0)
          (λ o. over h o (A.full h o))

  -- The application is refused by the same reason, at its own place.
  pub says_refused : {x : Answer Term} {q : Reason} (p : ℕ)
      → (σ ≢ a → x ≡ refused wrong_argument p)
      → (σ ≡ a → limit < size (substitute 0 u b) → x ≡ refused over_limit p)
      → r ≡ Err q
      → x ≡ refused (reason_of q) p
  says_refused {q} p wrong over e =
      by_cases (λ n h. let same : WrongArgument ≡ q = cc (h, e) in wrong n ∙ ap (λ s. refused (reason_of s) p) same)
      (λ k o h. let same : OverLimit ≡ q = cc (h, e) in over k o ∙ ap (λ s. refused (reason_of s) p) same)
      (λ i h. absurd (true≢false (cc (h, e))))

  pub says_typed : {n : ℕ} → r ≡ Ok n → Instance a b u σ work top limit n after
  says_typed q =
      by_cases (λ n p. absurd (true≢false (cc (p, q)))) (λ h o p. absurd (true≢false (cc (p, q))))
      (λ i p. record { alike = i.alike; fits = i.fits; long = cc (p, q); stored = i.stored })
