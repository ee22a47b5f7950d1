-- A grown book is sound: what is added was typed for its owner, and so with all bodies open; its type has type star there; and what was
-- stored before is typed over the longer book as it was.
use Prim.Native.Nat.{ℕ}
use mathlib.Core.List.{[], ◌∷◌, ◌++◌}
use mathlib.Core.Logic.{◌⊎◌, inl, inr}
use mathlib.Core.Option.{some, none-ne-some}
use mathlib.Core.Path.{◌≡◌, subst}
use native.Mathlib.Omega.{arith}
use lib.ListN.{length}
use Rattle.calculus.specs.Term.{Term, star}
use Rattle.calculus.specs.Words.{Scoped}
use Rattle.calculus.specs.Book.{Definition, Book, View, ◌⊆◌, view, types, bodies}
use Rattle.calculus.specs.Rules.{◌∣◌∣◌⊢◌⦂◌}
use Rattle.calculus.specs.Limit.{◌∣◌∣◌⊢⟨◌⟩◌⦂◌}
use Rattle.calculus.specs.Growing.{GrownFrom, nothing_added, one_added, Grown}
use Rattle.calculus.proofs.Books.{types_within, bodies_within, types_more, bodies_more, types_last, bodies_last, seen_in_bodies}
use Rattle.calculus.proofs.Extension.{extended}
use Rattle.calculus.proofs.Types.{Sound, scoped, correctness}

-- What is typed over a book is typed over one that has more, with all bodies open.
pub opened : (B C : Book) → types B ⊆ types C → bodies B ⊆ bodies C → {v : View} {e τ : Term}
    → v ⊆ bodies B
    → B ∣ v ∣ [] ⊢ e ⦂ τ
    → C ∣ bodies C ∣ [] ⊢ e ⦂ τ
opened B C mt mb s d = extended B C mt mb d (bodies C) (λ i e h. mb i e (s i e h))

empty_sound : Sound []
unfolding types bodies view
empty_sound =
    record {
      closed = record { shut_types = λ i e h. absurd (none-ne-some _ h); shut_bodies = λ i e h. absurd (none-ne-some _ h) };
      types_typed = λ i τ h. absurd (none-ne-some _ h);
      bodies_typed = λ i e τ k h. absurd (none-ne-some _ k);
    }

-- One definition more, whose body has its type with all bodies open.
added_sound : (B : Book) (d : Definition) → Sound B → B ∣ bodies B ∣ [] ⊢ d.body ⦂ d.type → Sound (B ++ d ∷ [])
added_sound B d S h =
    record {
      closed = record { shut_types = λ i τ k. shut_type τ (types_last B d i τ k); shut_bodies = λ i e k. shut_body e (bodies_last B d i e k) };
      types_typed = λ i τ k. type_typed i τ (types_last B d i τ k);
      bodies_typed = λ i e τ k l. body_typed i e τ (bodies_last B d i e k) (types_last B d i τ l);
    }
  where
    C : Book
    C = B ++ d ∷ []

    up : {e τ : Term} → B ∣ bodies B ∣ [] ⊢ e ⦂ τ → C ∣ bodies C ∣ [] ⊢ e ⦂ τ
    up k = opened B C (types_more B (d ∷ [])) (bodies_more B (d ∷ [])) (λ i e q. q) k

    shut_type : {i : ℕ} (τ : Term) → (types B i ≡ some τ) ⊎ ((i ≡ length B) × (d.type ≡ τ)) → Scoped 0 τ
    shut_type {i} τ (inl k) = S.closed.shut_types i τ k
    shut_type τ (inr (p, q)) = subst (Scoped 0) q (scoped (correctness S h))

    shut_body : {i : ℕ} (e : Term) → (bodies B i ≡ some e) ⊎ ((i ≡ length B) × (d.body ≡ e)) → Scoped 0 e
    shut_body {i} e (inl k) = S.closed.shut_bodies i e k
    shut_body e (inr (p, q)) = subst (Scoped 0) q (scoped h)

    type_typed : (i : ℕ) (τ : Term) → (types B i ≡ some τ) ⊎ ((i ≡ length B) × (d.type ≡ τ)) → C ∣ bodies C ∣ [] ⊢ τ ⦂ star
    type_typed i τ (inl k) = up (S.types_typed i τ k)
    type_typed i τ (inr (p, q)) = subst (λ x. C ∣ bodies C ∣ [] ⊢ x ⦂ star) q (up (correctness S h))

    body_typed : (i : ℕ) (e τ : Term)
        → (bodies B i ≡ some e) ⊎ ((i ≡ length B) × (d.body ≡ e))
        → (types B i ≡ some τ) ⊎ ((i ≡ length B) × (d.type ≡ τ))
        → C ∣ bodies C ∣ [] ⊢ e ⦂ τ
    body_typed i e τ (inl k) (inl l) = up (S.bodies_typed i e τ k l)
    body_typed i e τ (inl k) (inr (p, q)) = absurd (omega (arith, bodies_within B i k, p))
    body_typed i e τ (inr (p, q)) (inl l) = absurd (omega (arith, types_within B i l, p))
    body_typed i e τ (inr (p, q)) (inr (r, t)) = rw (← q, ← t) (up h)

pub grown_sound : {B C : Book} → Sound B → GrownFrom B C → Sound C
grown_sound S nothing_added = S
grown_sound S (one_added {C} {t} {τ} {o} m g l a b r d) =
    added_sound C (record { body = t; type = τ; owner = o; is_open = m }) (grown_sound S g)
    (extended C C (λ i e h. h) (λ i e h. h) d.typed (bodies C) (seen_in_bodies o C))

pub sound : {B : Book} → Grown B → Sound B
sound g = grown_sound empty_sound g

-- A book grown from another has all that it has.
pub grown_more : {B C : Book} → GrownFrom B C → (types B ⊆ types C) × (bodies B ⊆ bodies C)
grown_more nothing_added = (λ i e h. h, λ i e h. h)
grown_more (one_added {C} m g l a b r d) =
    let (mt, mb) = grown_more g in
    (λ i e h. types_more C _ i e (mt i e h), λ i e h. bodies_more C _ i e (mb i e h))
