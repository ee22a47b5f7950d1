-- What an accepted call says: the words are those of a readable term, which is typed within the limit, and the output begins with the
-- words of its type.
use Prim.Native.Nat.{ℕ}
use mathlib.Core.Bool.{true≢false}
use mathlib.Core.List.{List, []}
use mathlib.Core.Path.{◌≡◌, ap, ◌∙◌}
use lib.ListN.{length, take, drop}
use lib.Seq.{take_at}
use Rattle.calculus.specs.Term.{Term, size}
use Rattle.calculus.specs.Answer.{ok}
use Rattle.calculus.specs.Words.{words, Codes}
use Rattle.calculus.specs.Book.{Book, seen}
use Rattle.calculus.specs.Limit.{◌∣◌∣◌⊢⟨◌⟩◌⦂◌}
use Rattle.calculus.specs.Growing.{Grown}
use Rattle.calculus.specs.Outcomes.{begun, Checked, check_over}
use Rattle.calculus.specs.Checks.{Allowed, Checks, limit_refused, work_refused, output_refused, unread, untyped, typed}
use Rattle.calculus.proofs.Coding.{words_length}
use Rattle.calculus.proofs.CheckDemand.{check_checks}

pub record Accepted (B : Book) (o : ℕ) (ws : List ℕ) (L : ℕ) (n : ℕ) (output : List ℕ) (t τ : Term) : Type 0 where
  pub allowed : Allowed L
  pub coded : Codes 0 ws t
  pub typing : B ∣ seen o B ∣ [] ⊢⟨ L ⟩ t ⦂ τ
  pub extent : n ≡ size τ
  pub front : take n output ≡ words τ

pub front_of_begun : (τ : Term) (O : List ℕ) → take (size τ) (begun (words τ) O) ≡ words τ
unfolding begun
front_of_begun τ O = take_at (words τ) (drop (length (words τ)) O) (size τ) (words_length τ)

accepted_as : {B : Book} {o : ℕ} {ws : List ℕ} {L : ℕ} {W O : List ℕ} {n : ℕ} {c : Checked}
    → Checks B o ws L W O c
    → c.answer ≡ ok n
    → (t : Term) × (τ : Term) × Accepted B o ws L n c.output t τ
accepted_as (limit_refused n) e = absurd (true≢false (cc e))
accepted_as (work_refused a w) e = absurd (true≢false (cc e))
accepted_as (output_refused a w o) e = absurd (true≢false (cc e))
accepted_as (unread a w o r) e = absurd (true≢false (cc e))
accepted_as (untyped a w o c f) e = absurd (true≢false (cc e))
accepted_as {O = O} {n} (typed {t} {τ} a w o c d) e =
    let extent : n ≡ size τ = cc e in (
      t,
      τ,
      record {
        allowed = a;
        coded = c;
        typing = d;
        extent = extent;
        front = ap (λ k. take k (begun (words τ) O)) extent ∙ front_of_begun τ O;
      },
    )

pub accepted : (B : Book) → Grown B → (o : ℕ) (ws : List ℕ) (L : ℕ) (W O : List ℕ) (n : ℕ)
    → (check_over B o ws L W O).answer ≡ ok n
    → (t : Term) × (τ : Term) × Accepted B o ws L n (check_over B o ws L W O).output t τ
accepted B g o ws L W O n e = accepted_as (check_checks B o ws L W O g) e
