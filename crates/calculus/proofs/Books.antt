-- What is seen of a book: of a name in it and of no other, the same when definitions are added behind it, and of a definition added last
-- what is seen of that definition. An owner sees no more than all bodies.
use Prim.Native.Nat.{ℕ, zero, suc, ◌<◌}
use mathlib.Core.Bool.{Bool, true, false, cond}
use mathlib.Core.List.{[], ◌∷◌, ◌++◌}
use mathlib.Core.Logic.{◌⊎◌, inl, inr}
use mathlib.Core.Option.{Option, none, some, none-ne-some}
use mathlib.Core.Path.{◌≡◌, refl, ap, fun_ext}
use native.Mathlib.Nat.{le_of_suc-le-suc}
use native.Mathlib.Omega.{arith}
use lib.ListN.{length}
use Rattle.calculus.specs.Term.{Term}
use Rattle.calculus.specs.Book.{Definition, Book, ◌⊆◌, view, types, bodies, sees, seen}

module _ (see : Definition → Option Term) where
  view_within : (B : Book) (i : ℕ) {x : Term} → view see B i ≡ some x → i < length B
  unfolding view
  view_within [] i h = absurd (none-ne-some _ h)
  view_within (d ∷ B) zero h = omega arith
  view_within (d ∷ B) (suc i) h = omega (arith, view_within B i h)

  view_more : (B C : Book) → view see B ⊆ view see (B ++ C)
  unfolding view
  view_more [] C i x h = absurd (none-ne-some _ h)
  view_more (d ∷ B) C zero x h = h
  view_more (d ∷ B) C (suc i) x h = view_more B C i x h

  -- With one definition more, it is seen where it was, or the definition is the last.
  view_last : (B : Book) (d : Definition) (i : ℕ) (x : Term)
      → view see (B ++ d ∷ []) i ≡ some x
      → (view see B i ≡ some x) ⊎ ((i ≡ length B) × (see d ≡ some x))
  unfolding view
  view_last [] d zero x h = inr (refl, h)
  view_last [] d (suc i) x h = absurd (none-ne-some _ h)
  view_last (c ∷ B) d zero x h = inl h
  view_last (c ∷ B) d (suc i) x h = on (view_last B d i x h)
    where
      on : (view see B i ≡ some x) ⊎ ((i ≡ length B) × (see d ≡ some x))
          → (view see B i ≡ some x) ⊎ ((suc i ≡ suc (length B)) × (see d ≡ some x))
      on (inl k) = inl k
      on (inr (e, k)) = inr (ap suc e, k)

pub types_within : (B : Book) (i : ℕ) {τ : Term} → types B i ≡ some τ → i < length B
unfolding types
types_within B i h = view_within _ B i h

pub types_more : (B C : Book) → types B ⊆ types (B ++ C)
unfolding types
types_more B C = view_more _ B C

pub bodies_more : (B C : Book) → bodies B ⊆ bodies (B ++ C)
unfolding bodies
bodies_more B C = view_more _ B C

pub types_last : (B : Book) (d : Definition) (i : ℕ) (τ : Term)
    → types (B ++ d ∷ []) i ≡ some τ
    → (types B i ≡ some τ) ⊎ ((i ≡ length B) × (d.type ≡ τ))
unfolding types
types_last B d i τ h = on (view_last (λ d. some d.type) B d i τ h)
  where
    on : (types B i ≡ some τ) ⊎ ((i ≡ length B) × (some d.type ≡ some τ)) → (types B i ≡ some τ) ⊎ ((i ≡ length B) × (d.type ≡ τ))
    on (inl k) = inl k
    on (inr (e, k)) = inr (e, cc k)

pub bodies_last : (B : Book) (d : Definition) (i : ℕ) (e : Term)
    → bodies (B ++ d ∷ []) i ≡ some e
    → (bodies B i ≡ some e) ⊎ ((i ≡ length B) × (d.body ≡ e))
unfolding bodies
bodies_last B d i e h = on (view_last (λ d. some d.body) B d i e h)
  where
    on : (bodies B i ≡ some e) ⊎ ((i ≡ length B) × (some d.body ≡ some e)) → (bodies B i ≡ some e) ⊎ ((i ≡ length B) × (d.body ≡ e))
    on (inl k) = inl k
    on (inr (p, k)) = inr (p, cc k)

-- A definition in the book has a type and a body.
pub body_of : (B : Book) (i : ℕ) → i < length B → (e : Term) × (bodies B i ≡ some e)
unfolding bodies view
body_of [] i h = absurd (omega arith)
body_of (d ∷ B) zero h = (d.body, refl)
body_of (d ∷ B) (suc i) h = body_of B i (le_of_suc-le-suc h)

pub type_of : (B : Book) (i : ℕ) → i < length B → (τ : Term) × (types B i ≡ some τ)
unfolding types view
type_of [] i h = absurd (omega arith)
type_of (d ∷ B) zero h = (d.type, refl)
type_of (d ∷ B) (suc i) h = type_of B i (le_of_suc-le-suc h)

pub bodies_within : (B : Book) (i : ℕ) {e : Term} → bodies B i ≡ some e → i < length B
unfolding bodies
bodies_within B i h = view_within _ B i h

pub seen_in_bodies : (o : ℕ) (B : Book) → seen o B ⊆ bodies B
unfolding seen bodies view
seen_in_bodies o [] i e h = h
seen_in_bodies o (d ∷ B) zero e h = on (sees o d) h
  where
    on : (b : Bool) → cond b (some d.body) none ≡ some e → some d.body ≡ some e
    on true k = k
    on false k = absurd (none-ne-some _ k)
seen_in_bodies o (d ∷ B) (suc i) e h = seen_in_bodies o B i e h

-- Of the empty book every owner sees the same.
pub nothing_seen : (o : ℕ) → seen o [] ≡ bodies []
unfolding seen bodies view
nothing_seen o = fun_ext (λ i. refl)
