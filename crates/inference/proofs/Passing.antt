-- What the answer for a part says of the whole. Inference of a node goes on from a part that is typed and ends at one that is
-- refused: so a part's refusal is the answer of the whole, and a part that is typed has a type, which lies where the part was
-- asked for. The whole refuses where the code does, by the same reason at the same place.
use Prim.Native.Nat.{ℕ, ◌*◌}
use mathlib.Core.Bool.{Bool, true, false, true≢false}
use mathlib.Core.List.{List}
use mathlib.Core.Path.{◌≡◌, refl, sym, ap, subst, ◌∙◌}
use native.Mathlib.Decide.{ℕ_discrete}
use lib.ListN.{length, take, drop}
use Rattle.calculus.specs.Term.{Term, Term-discrete, star, size}
use Rattle.calculus.specs.Answer.{Answer, ok, refused, ◌>>=◌, ◌>>◌, require, not_star}
use Rattle.calculus.specs.Rules.{Context}
use Rattle.calculus.specs.Infer.{same}
use Rattle.calculus.proofs.Testing.{equal, unequal}
use Rattle.term.specs.Kept.{kept}
use Rattle.term.specs.Reasons.{reason_of}
use Rattle.term.specs.declared.refusal.Reason.{Reason}
use Rattle.term.specs.declared.refusal.Refusal.{Refusal}
use Rattle.std.specs.Prelude.{Result, Ok, Err}
use Rattle.std.specs.Result.{MatchResult, IsErrAnd}
use Rattle.std.proofs.lemmas.Result.{err_from_is_err_and}
use Rattle.inference.specs.declared.Typed.{Typed}
use Rattle.inference.specs.Inference.{judge, Infers, finds, refuses, TypeFound, inferred_of, star_typed}
use Rattle.book.specs.declared.Reader.{Reader}

-- A part `e` that is typed: the answer has its length and that of its type.
pub record Part (x : Answer Term) (e : Term) (places : List ℕ) (depth : ℕ) (work : List ℕ) (top n m : ℕ) (after places' : List ℕ) : Type 0 where
  pub type : Term
  pub found : x ≡ ok type
  pub read : n ≡ size e
  pub long : m ≡ size type
  pub lies : take (2 * m) (drop (2 * top) after) ≡ kept type
  pub front : take (2 * top) after ≡ take (2 * top) work
  pub context : take depth places' ≡ take depth places
  pub wide : length places' ≡ length places

-- The type by another name.
pub lying : {x : Answer Term} {e τ : Term} {places : List ℕ} {depth : ℕ} {work : List ℕ} {top n m : ℕ} {after places' : List ℕ}
    → (part : Part x e places depth work top n m after places')
    → part.type ≡ τ
    → take (2 * size τ) (drop (2 * top) after) ≡ kept τ
lying {top} {after} part x = subst (λ t. take (2 * size t) (drop (2 * top) after) ≡ kept t) x (rw (← part.long) part.lies)

module _ {e : Term} {places : List ℕ} {depth : ℕ} {work : List ℕ} {top : ℕ} {r : Result Typed Refusal} {after places' : List ℕ} where
  pub typed_as : {x : Answer Term} {t : Typed}
      → Infers x e places depth work top r after places'
      → r ≡ Ok t
      → Part x e places depth work top t.read t.length after places'
  typed_as {t} (finds {τ} f) q =
      let same : record { read = size e; length = size τ } ≡ t = cc (f.answer, q) in
      record {
        type = τ;
        found = refl;
        read = sym (ap (λ t. t.read) same);
        long = sym (ap (λ t. t.length) same);
        lies = rw (← same) f.lies;
        front = f.front;
        context = f.context;
        wide = f.wide;
      }
  typed_as (refuses f) q = let g = rw q at f in absurd (true≢false cc)

  -- The whole finds a type.
  pub found : {x : Answer Term} {τ : Term} → x ≡ ok τ → TypeFound τ (size e) places depth work top r after places'
      → Infers x e places depth work top r after places'
  found g f = rw g (finds f)

  -- The code's refusal is the whole's answer.
  pub turned : {x : Answer Term} {reason : Reason} {place : ℕ}
      → x ≡ refused (reason_of reason) place
      → r ≡ Err (record { reason = reason; place = place })
      → Infers x e places depth work top r after places'
  turned g q = rw g (refuses (ap inferred_of q))

  refused_as : {x y : Answer Term} {f g : Refusal} {e₁ : Term} {places₁ : List ℕ} {depth₁ : ℕ} {work₁ : List ℕ} {top₁ : ℕ} {r₁ : Result Typed Refusal} {after₁ places₁' : List ℕ}
      (k : Term → Answer Term)
      → Infers y e₁ places₁ depth₁ work₁ top₁ r₁ after₁ places₁'
      → r₁ ≡ Err f
      → r ≡ Err g
      → g ≡ f
      → x ≡ (y >>= k)
      → Infers x e places depth work top r after places'
  unfolding ◌>>=◌
  refused_as k (finds t) q a b g = absurd (true≢false (cc (t.answer, q)))
  refused_as k (refuses t) q a b g = rw g (refuses (ap inferred_of (a ∙ ap Err b ∙ sym q) ∙ t))

  -- A part's refusal, which the whole passes on, is the whole's answer.
  pub passed : {x y : Answer Term} {f : Refusal} {e₁ : Term} {places₁ : List ℕ} {depth₁ : ℕ} {work₁ : List ℕ} {top₁ : ℕ} {after₁ places₁' : List ℕ}
      (k : Term → Answer Term)
      → Infers y e₁ places₁ depth₁ work₁ top₁ (Err f) after₁ places₁'
      → IsErrAnd r (λ g. g ≡ f)
      → x ≡ (y >>= k)
      → Infers x e places depth work top r after places'
  passed k I q g = let p = err_from_is_err_and r q in refused_as k I refl p.1 p.2 g

  -- A refusal of the node's own, which is passed on.
  pub placed : {x : Answer Term} {f : Refusal} {reason : Reason} {place : ℕ}
      → x ≡ refused (reason_of reason) place
      → IsErrAnd r (λ g. g ≡ f)
      → f ≡ record { reason = reason; place = place }
      → Infers x e places depth work top r after places'
  placed g q h = let p = err_from_is_err_and r q in turned g (p.1 ∙ ap Err (p.2 ∙ h))

pub typed : {x : Answer Term} {e : Term} {places : List ℕ} {depth : ℕ} {work : List ℕ} {top : ℕ} {t : Typed} {after places' : List ℕ}
    → Infers x e places depth work top (Ok t) after places'
    → Part x e places depth work top t.read t.length after places'
typed I = typed_as I refl

-- What a call answered, before its refusal got a place.
module _ {A E F : Type 0} (r : Result A E) {m : Result A F} (Q : E → F → Type 0) (h : MatchResult r (λ x. m ≡ Ok x) (λ e. IsErrAnd m (Q e))) where
  pub ok_before : {x : A} → m ≡ Ok x → r ≡ Ok x
  ok_before {x} q = on r h
    where
      on : (r : Result A E) → MatchResult r (λ x. m ≡ Ok x) (λ e. IsErrAnd m (Q e)) → r ≡ Ok x
      on (Ok y) h = let same : y ≡ x = cc (h, q) in ap Ok same
      on (Err e) h = let p = err_from_is_err_and m h in let z = p.1 in absurd (true≢false (cc (z, q)))

  pub err_before : {f : F} → m ≡ Err f → (e : E) × (r ≡ Err e) × Q e f
  err_before {f} q = on r h
    where
      on : (r : Result A E) → MatchResult r (λ x. m ≡ Ok x) (λ e. IsErrAnd m (Q e)) → (e : E) × (r ≡ Err e) × Q e f
      on (Ok y) h = absurd (true≢false (cc (h, q)))
      on (Err e) h = let p = err_from_is_err_and m h in let z = p.1 in let same : p.0 ≡ f = cc (z, q) in (e, refl, subst (Q e) same p.2)

-- A test that a type is star, and then `k`: the same test with star as its answer, and then `k`.
pub star_first : (y : Answer Term) (p : ℕ) (k : Answer Term)
    → (y >>= λ σ. require not_star p (same σ star) >> k) ≡ (y >>= (λ σ. require not_star p (same σ star) >> ok star) >>= λ _. k)
unfolding ◌>>=◌ ◌>>◌ require
star_first (ok σ) p k = on (same σ star)
  where
    on : (b : Bool) → (require not_star p b >> k) ≡ (require not_star p b >> ok star >>= λ _. k)
    on true = refl
    on false = refl
star_first (refused s q) p k = refl

-- A part that has to be of type star and is typed: it is of type star, and star is the answer.
pub starred : (who : Reader) (book : List ℕ) (L : ℕ) (Γ : Context) (p : ℕ) (e : Term) {σ : Term} → star_typed who book L Γ p e ≡ ok σ → (judge who book L Γ p e ≡ ok star) × (σ ≡ star)
unfolding star_typed ◌>>=◌ ◌>>◌ require
starred who book L Γ p e {σ} g = on (judge who book L Γ p e) g
  where
    tested : (τ : Term)
        → Dec (τ ≡ star)
        → (require not_star p (same τ star) >> ok star) ≡ ok σ
        → (◌≡◌ {A = Answer Term} (ok τ) (ok star)) × (σ ≡ star)
    tested τ (yes x) g = let g = rw (x, equal star) at g in (ap ok x, cc)
    tested τ (no n) g = let g = rw (unequal n) at g in absurd (true≢false cc)

    on : (y : Answer Term) → (y >>= λ σ. require not_star p (same σ star) >> ok star) ≡ ok σ → (y ≡ ok star) × (σ ≡ star)
    on (ok τ) g = tested τ (Term-discrete ℕ_discrete τ star) g
    on (refused s q) g = absurd (true≢false cc)
