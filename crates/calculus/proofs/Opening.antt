-- Inference by a step that finds as much, with stored types that are the same for the names of the term, accepts what was accepted, with
-- the same type: it goes through the same tests, and each that passed passes. By recursion on the term, test by test. A larger view
-- finds as much, so a check that is accepted stays so; and as inference says what the rules say, so does a typing. Two books that are
-- alike for an owner show the same stored types and the same bodies, and nothing else of them is looked at.
use Prim.Native.Nat.{ℕ, zero, suc, ◌<◌}
use mathlib.Core.Bool.{Bool, true, false, true≢false, cond, ◌||◌}
use mathlib.Core.List.{List, [], ◌∷◌}
use mathlib.Core.Option.{Option, none, some, none-ne-some}
use mathlib.Core.Path.{◌≡◌, refl, sym, ◌∙◌, ap, fun_ext}
use lib.Dec.{T, eqb, eqb→eq}
use lib.ListN.{length}
use Rattle.calculus.specs.Term.{Term, var, star, app, lam, pi, castup, castdown, mu, name}
use Rattle.calculus.specs.Answer.{Reason, Answer, ok, refused, ◌>>=◌, ◌>>◌}
use Rattle.calculus.specs.Words.{Named, first_part, second_part}
use Rattle.calculus.specs.Book.{Book, View, ◌⊆◌, view, types, seen}
use Rattle.calculus.specs.Rules.{Context}
use Rattle.calculus.specs.Growing.{nothing_added}
use Rattle.calculus.specs.Kinds.{Kind, kind}
use Rattle.calculus.specs.Scan.{read}
use Rattle.calculus.specs.Step.{Next, value, stuck, next, step}
use Rattle.calculus.specs.Infer.{stored, product, stepped, infer}
use Rattle.calculus.specs.Outcomes.{check_room, checked, verdict, check_by, check_over}
use Rattle.calculus.specs.Opening.{Opened, opened_none, opened_one, MoreOpen, StillTyped, Alike, alike_none, alike_same, alike_closed, Isolation}
use Rattle.calculus.proofs.Says.{ok_not_refused}
use Rattle.calculus.proofs.ReadBack.{read_sound}
use Rattle.calculus.proofs.Stepping.{step_next, next_step}
use Rattle.calculus.proofs.Books.{type_of}
use Rattle.calculus.proofs.Extension.{step_more, extended}
use Rattle.calculus.proofs.Thinning.{well_formed}
use Rattle.calculus.proofs.Types.{scoped, named}
use Rattle.calculus.proofs.Soundness.{sound, grown_sound, grown_more}
use Rattle.calculus.proofs.Completeness.{infer_complete}
use Rattle.calculus.proofs.Inference.{infer_sound}

-- `Keeps x y`: what `x` answers, `y` answers; of a refusal nothing is said.
data Keeps {A : Type 0} : Answer A → Answer A → Type 0 where
  kept : {a : A} → Keeps (ok a) (ok a)
  lost : {r : Reason} {p : ℕ} {y : Answer A} → Keeps (refused r p) y

alike : {A : Type 0} (x : Answer A) → Keeps x x
alike (ok a) = kept
alike (refused r p) = lost

-- One thing after another.
then : {A B : Type 0} {x y : Answer A} {f g : A → Answer B} → Keeps x y → ((a : A) → Keeps (f a) (g a)) → Keeps (x >>= f) (y >>= g)
unfolding ◌>>=◌
then (kept {a}) h = h a
then lost h = lost

-- The same where the first thing is the same.
past : {A B : Type 0} (x : Answer A) {f g : A → Answer B} → ((a : A) → x ≡ ok a → Keeps (f a) (g a)) → Keeps (x >>= f) (x >>= g)
unfolding ◌>>=◌
past (ok a) h = h a refl
past (refused r p) h = lost

of_kept : {A : Type 0} {x y : Answer A} {a : A} → Keeps x y → x ≡ ok a → y ≡ ok a
of_kept kept e = e
of_kept lost e = absurd (ok_not_refused (sym e))

-- By two step functions, of which the second has every next state that the first has, and with two views of stored types that are the
-- same below N.
module _ (N : ℕ) (T T' : View) (s s' : Term → Next)
    (shown : (i : ℕ) → i < N → stored (T i) ≡ stored (T' i))
    (more : (x y : Term) (k : Kind) → s x ≡ next k y → (k' : Kind) × (s' x ≡ next k' y))
  where
    stepped_keeps : (p : ℕ) (e : Term) → Keeps (stepped p (s e)) (stepped p (s' e))
    unfolding stepped
    stepped_keeps p e = on (s e) refl
      where
        on : (x : Next) → s e ≡ x → Keeps (stepped p x) (stepped p (s' e))
        on value q = lost
        on stuck q = lost
        on (next k x) q = let (k', q') = more e x k q in rw q' kept

    infer_keeps : (L : ℕ) (Γ : Context) (p : ℕ) (e : Term) → Named N e → Keeps (infer T s L Γ p e) (infer T' s' L Γ p e)
    unfolding infer ◌>>◌ Named
    infer_keeps L Γ p (var i) h = alike _
    infer_keeps L Γ p star h = alike _
    infer_keeps L Γ p (app f u) h =
        then (infer_keeps L Γ (first_part p) f h.0) λ τ.
        past (product p τ) λ (a, b) _.
        then (infer_keeps L Γ (second_part p f) u h.1) λ σ.
        alike _
    infer_keeps L Γ p (lam a e) h =
        then (infer_keeps L Γ (first_part p) a h.0) λ σ.
        past _ λ _ _.
        then (infer_keeps L (a ∷ Γ) (second_part p a) e h.1) λ b.
        alike _
    infer_keeps L Γ p (pi a b) h =
        then (infer_keeps L Γ (first_part p) a h.0) λ σ.
        past _ λ _ _.
        then (infer_keeps L (a ∷ Γ) (second_part p a) b h.1) λ τ.
        alike _
    infer_keeps L Γ p (castup a e) h =
        then (infer_keeps L Γ (first_part p) a h.0) λ σ.
        past _ λ _ _.
        then (infer_keeps L Γ (second_part p a) e h.1) λ τ.
        then (stepped_keeps p a) λ a'.
        alike _
    infer_keeps L Γ p (castdown e) h =
        then (infer_keeps L Γ (first_part p) e h) λ τ.
        then (stepped_keeps p τ) λ τ'.
        alike _
    infer_keeps L Γ p (mu a e) h =
        then (infer_keeps L Γ (first_part p) a h.0) λ σ.
        past _ λ _ _.
        then (infer_keeps L (a ∷ Γ) (second_part p a) e h.1) λ τ.
        alike _
    infer_keeps L Γ p (name i) h = rw (shown i h) (alike _)

    pub infer_more : (L : ℕ) (Γ : Context) (p : ℕ) (e : Term) {τ : Term} → Named N e → infer T s L Γ p e ≡ ok τ → infer T' s' L Γ p e ≡ ok τ
    infer_more L Γ p e h = of_kept (infer_keeps L Γ p e h)

-- A larger view has every next state.
step_keeps : {v w : View} → v ⊆ w → (x y : Term) (k : Kind) → step v x ≡ next k y → (k' : Kind) × (step w x ≡ next k' y)
step_keeps {v} m x y k q = let s = step_more m (next_step v x q).0 in (kind s, step_next s)

-- What is stored for a name of the book is stored in a book that has more.
same_stored : (B C : Book) → types B ⊆ types C → (i : ℕ) → i < length B → stored (types B i) ≡ stored (types C i)
same_stored B C m i l = let (τ, k) = type_of B i l in ap stored (k ∙ sym (m i τ k))

pub still_typed : StillTyped
still_typed B C g h v w m i Γ L e τ d =
    let (mt, mb) = grown_more h in
    let typed = extended B C mt mb d.typed w m in
    infer_sound (grown_sound (sound g) h) i 0 (well_formed typed) (scoped typed) (named typed)
    (infer_more (length B) (types B) (types C) (step v) (step w) (same_stored B C mt) (step_keeps m) L Γ 0 e
    (named d.typed) (infer_complete 0 d))

checked_keeps : {x y : Answer Term} {n : ℕ} (room : ℕ) (W O : List ℕ)
    → Keeps x y
    → (checked room W O x).answer ≡ ok n
    → checked room W O y ≡ checked room W O x
unfolding checked
checked_keeps room W O kept e = refl
checked_keeps room W O lost e = absurd (ok_not_refused (sym e))

-- What a check looks at of a book and an owner: the stored types, and the bodies that the owner sees.
module _ (B B' : Book) (o o' : ℕ) (same-types : types B ≡ types B') (ws : List ℕ) (L : ℕ) (W O : List ℕ) where
  same_check : seen o B ≡ seen o' B' → check_over B o ws L W O ≡ check_over B' o' ws L W O
  unfolding check_by verdict
  same_check same-bodies = rw (same-types, same-bodies) refl

  verdict_keeps : (room : ℕ) → seen o B ⊆ seen o' B' → Keeps (verdict room B o ws L W O) (verdict room B' o' ws L W O)
  unfolding verdict ◌>>◌
  verdict_keeps room m =
      past _ λ _ _.
      past _ λ _ _.
      past _ λ _ _.
      past (read ws) λ t e.
      infer_keeps _ (types B) (types B') (step (seen o B)) (step (seen o' B')) (λ i _. ap (λ T. stored (T i)) same-types) (step_keeps m)
      L [] 0 t
      (read_sound ws t e).1.named

  accepted_more : seen o B ⊆ seen o' B'
      → (n : ℕ)
      → (check_over B o ws L W O).answer ≡ ok n
      → check_over B' o' ws L W O ≡ check_over B o ws L W O
  unfolding check_by
  accepted_more m n e = checked_keeps (check_room L) W O (verdict_keeps (check_room L) m) e

opened_types : {B B' : Book} → Opened B B' → (i : ℕ) → types B i ≡ types B' i
unfolding types view
opened_types opened_none i = refl
opened_types (opened_one h r) zero = refl
opened_types (opened_one h r) (suc i) = opened_types r i

opened_seen : {B B' : Book} (o : ℕ) → Opened B B' → seen o B ⊆ seen o B'
unfolding seen view
opened_seen o opened_none i e k = k
opened_seen o (opened_one {t = t} {o = u} {m} {m'} h r) zero e k = on m m' h (eqb u o) k
  where
    on : (m m' : Bool) → (m ≡ true → m' ≡ true) → (b : Bool) → cond (m || b) (some t) none ≡ some e → cond (m' || b) (some t) none ≡ some e
    on true true h b k = k
    on true false h b k = absurd (true≢false (sym (h refl)))
    on false true h true k = k
    on false true h false k = absurd (none-ne-some _ k)
    on false false h b k = k
opened_seen o (opened_one h r) (suc i) e k = opened_seen o r i e k

-- Every mark opened: then all owners see the same.
all_open : Book → Book
all_open [] = []
all_open (d ∷ B) = record { body = d.body; type = d.type; owner = d.owner; is_open = true } ∷ all_open B

opens_all : (B : Book) → Opened B (all_open B)
unfolding all_open
opens_all [] = opened_none
opens_all (d ∷ B) = opened_one (λ _. refl) (opens_all B)

all_seen : (o o' : ℕ) (B : Book) (i : ℕ) → seen o (all_open B) i ≡ seen o' (all_open B) i
unfolding all_open seen view
all_seen o o' [] i = refl
all_seen o o' (d ∷ B) zero = refl
all_seen o o' (d ∷ B) (suc i) = all_seen o o' B i

with_opened : (B B' : Book) → Opened B B' → (o : ℕ) (ws : List ℕ) (L : ℕ) (W O : List ℕ) (n : ℕ)
    → (check_over B o ws L W O).answer ≡ ok n
    → check_over B' o ws L W O ≡ check_over B o ws L W O
with_opened B B' r o ws L W O = accepted_more B B' o o (fun_ext (opened_types r)) ws L W O (opened_seen o r)

pub more_open : MoreOpen
more_open =
    record {
      by_rules = λ B g v w m i. still_typed B B g nothing_added v w m i;
      with_marks = with_opened;
      with_owner = λ B o o' m ws L W O. accepted_more B B o o' refl ws L W O m;
      two_owners =
          λ B o o' ws L W O n n' e e'.
          sym (with_opened B (all_open B) (opens_all B) o ws L W O n e)
          ∙ same_check (all_open B) (all_open B) o o' refl ws L W O (fun_ext (all_seen o o' B))
          ∙ with_opened B (all_open B) (opens_all B) o' ws L W O n' e';
    }

alike_types : {o : ℕ} {B B' : Book} → Alike o B B' → (i : ℕ) → types B i ≡ types B' i
unfolding types view
alike_types alike_none i = refl
alike_types (alike_same r) zero = refl
alike_types (alike_same r) (suc i) = alike_types r i
alike_types (alike_closed n r) zero = refl
alike_types (alike_closed n r) (suc i) = alike_types r i

-- A closed body of another owner is not seen.
alike_seen : {o : ℕ} {B B' : Book} → Alike o B B' → (i : ℕ) → seen o B i ≡ seen o B' i
unfolding seen view
alike_seen alike_none i = refl
alike_seen (alike_same r) zero = refl
alike_seen (alike_same r) (suc i) = alike_seen r i
alike_seen {o} (alike_closed {t = t} {t' = t'} {u = u} n r) zero = on (eqb u o) (λ h. n (eqb→eq u o h))
  where
    on : (b : Bool) → ¬ T b → ◌≡◌ {A = Option Term} (cond b (some t) none) (cond b (some t') none)
    on true h = absurd (h tt)
    on false h = refl
alike_seen (alike_closed n r) (suc i) = alike_seen r i

pub isolation : Isolation
isolation o B B' r ws L W O = same_check B B' o o (fun_ext (alike_types r)) ws L W O (fun_ext (alike_seen r))
