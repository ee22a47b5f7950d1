-- The table of the starred terms. One test computes a row: it reads the words, infers or runs, and compares with the row's columns. A
-- row that passes holds, since what the functions answer is what the rules say; and every row of the table passes, by computing.
use Prim.Native.Nat.{ℕ, zero, suc, ◌≤◌}
use mathlib.Core.Bool.{Bool, true, false, ◌&&◌, decide}
use mathlib.Core.List.{List, [], ◌∷◌}
use mathlib.Core.Path.{◌≡◌, refl, sym, ◌∙◌, ap, ap₂, subst}
use native.Mathlib.Omega.{arith}
use lib.Dec.{T, leb, eqb, leb→le, eqb→eq}
use lib.ListN.{length}
use Rattle.calculus.specs.Term.{Term, size, raise, substitute}
use Rattle.calculus.specs.Answer.{Reason, Answer, ok, refused, ◌>>=◌, ◌>>◌, require, number}
use Rattle.calculus.specs.Words.{emit, words, Codes, longest}
use Rattle.calculus.specs.Meaning.{meaning, binds}
use Rattle.calculus.specs.Scan.{means, bound, test, node₁, node₂, node, below, scan, the_first, read}
use Rattle.calculus.specs.Book.{view, bodies, seen}
use Rattle.calculus.specs.Book as book
use Rattle.calculus.specs.Rules.{◌⊩◌⟶◌, env_empty}
use Rattle.calculus.specs.Growing.{nothing_added}
use Rattle.calculus.specs.Kinds.{Kind, by_substitution, by_unfolding, by_cancellation, kind, Counts, counts, counting, total, Counted, counted_none, counted_more}
use Rattle.calculus.specs.Step.{Next, value, stuck, next, under, applied, cancelled, unfolded, step}
use Rattle.calculus.specs.Infer.{annotation, stored, same, measure, product, stepped, infer}
use Rattle.calculus.specs.Run.{State, state_zero, state_suc, End, spent, end_number, Ends, ends_spent, Ended, done, one_more, advance, last_end, run_until, run_from}
use Rattle.calculus.specs.Outcomes.{largest_limit, grant}
use Rattle.calculus.specs.Checks.{Allowed, untyped, typed}
use Rattle.calculus.specs.Runs.{ended}
use Rattle.calculus.specs.Starred.{Row, types, refuses, ends, spins, Claim, Claims, starred, StarredTerms}
use Rattle.calculus.specs.MoreLimit.{examples, LimitExamples}
use Rattle.calculus.proofs.Comparisons.{both}
use Rattle.calculus.proofs.Coding.{words_length, worded, words_injective, codes_worded}
use Rattle.calculus.proofs.ReadBack.{read_sound}
use Rattle.calculus.proofs.Scoping.{step_scoped}
use Rattle.calculus.proofs.Stepping.{next_step}
use Rattle.calculus.proofs.Books.{seen_in_bodies}
use Rattle.calculus.proofs.Soundness.{sound}
use Rattle.calculus.proofs.Inference.{infer_sound, refused_sound}
use Rattle.calculus.proofs.Refusals.{no_type}
use Rattle.calculus.proofs.NumberInjective.{number_injective, end_number_injective}
use Rattle.calculus.proofs.Courses.{Course, state_unique, run_course}
use Rattle.calculus.proofs.CheckDemand.{check_answer}
use Rattle.calculus.proofs.RunDemand.{run_answer}

same_words : List ℕ → List ℕ → Bool
same_words [] [] = true
same_words [] (y ∷ ys) = false
same_words (x ∷ xs) [] = false
same_words (x ∷ xs) (y ∷ ys) = eqb x y && same_words xs ys

-- A test of what is answered, which a refusal fails;
on_answer : {A : Type 0} → (A → Bool) → Answer A → Bool
on_answer f (ok a) = f a
on_answer f (refused r p) = false

-- of a refusal, which an answer fails;
refused_by : {A : Type 0} → Reason → ℕ → Answer A → Bool
refused_by r p (ok a) = false
refused_by r p (refused s q) = eqb (number s) (number r) && eqb q p

-- and of a next state, which a term that has none fails.
on_next : (Kind → Term → Bool) → Next → Bool
on_next f value = false
on_next f stuck = false
on_next f (next k x) = f k x

allowed : ℕ → Bool
allowed L = leb 1 L && leb L largest_limit

same_counts : Counts → Counts → Bool
same_counts c d =
    eqb c.substitutions d.substitutions && (eqb c.unfoldings d.unfoldings && eqb c.cancellations d.cancellations)

ended_by : End → ℕ → Counts → List ℕ → Ended → Bool
ended_by E n c out r =
    eqb (end_number r.end) (end_number E)
    && (eqb r.steps n && (same_counts r.counts c && same_words (words r.state) out))

-- A step is an unfolding.
unfolds : Kind → Bool
unfolds k = same_counts (counting k (counts 0 0 0)) (counts 0 1 0)

row_holds : Row → Bool
row_holds (types ws L out) = allowed L && on_answer (λ t. on_answer (λ τ. same_words (words τ) out) (infer (book.types []) (step (seen 0 [])) L [] 0 t)) (read ws)
row_holds (refuses ws L r p) = allowed L && on_answer (λ t. refused_by r p (infer (book.types []) (step (seen 0 [])) L [] 0 t)) (read ws)
row_holds (ends ws budget E n c out) = on_answer (λ t. ended_by E n c out (run_from (step (bodies [])) budget t)) (read ws)
row_holds (spins ws) = on_answer (λ t. on_next (λ k x. unfolds k && same_words (words x) (words t)) (step (bodies []) t)) (read ws)

rows_hold : List Row → Bool
rows_hold [] = true
rows_hold (r ∷ rs) = row_holds r && rows_hold rs

-- What each test says.
same_words_equal : (xs ys : List ℕ) → T (same_words xs ys) → xs ≡ ys
unfolding same_words
same_words_equal [] [] h = refl
same_words_equal [] (y ∷ ys) h = elim h [ ]
same_words_equal (x ∷ xs) [] h = elim h [ ]
same_words_equal (x ∷ xs) (y ∷ ys) h =
    let (p, q) = both (eqb x y) (same_words xs ys) h in
    ap₂ ◌∷◌ (eqb→eq x y p) (same_words_equal xs ys q)

answers : {A : Type 0} (f : A → Bool) (x : Answer A) → T (on_answer f x) → (a : A) × (x ≡ ok a) × T (f a)
unfolding on_answer
answers f (ok a) h = (a, refl, h)
answers f (refused r p) h = elim h [ ]

refuses_by : {A : Type 0} (r : Reason) (p : ℕ) (x : Answer A) → T (refused_by r p x) → x ≡ refused r p
unfolding refused_by
refuses_by r p (ok a) h = elim h [ ]
refuses_by r p (refused s q) h =
    let (i, j) = both (eqb (number s) (number r)) (eqb q p) h in
    ap₂ refused (number_injective s r (eqb→eq (number s) (number r) i)) (eqb→eq q p j)

steps_on : (f : Kind → Term → Bool) (m : Next) → T (on_next f m) → (k : Kind) × (x : Term) × (m ≡ next k x) × T (f k x)
unfolding on_next
steps_on f value h = elim h [ ]
steps_on f stuck h = elim h [ ]
steps_on f (next k x) h = (k, x, refl, h)

is_allowed : (L : ℕ) → T (allowed L) → Allowed L
unfolding allowed
is_allowed L h =
    let (i, j) = both (leb 1 L) (leb L largest_limit) h in
    (leb→le 1 L i, leb→le L largest_limit j)

equal_counts : (c d : Counts) → T (same_counts c d) → c ≡ d
unfolding same_counts
equal_counts c d h =
    let (i, jk) = both (eqb c.substitutions d.substitutions) _ h in
    let (j, k) = both (eqb c.unfoldings d.unfoldings) _ jk in
    ap (λ n. counts n c.unfoldings c.cancellations) (eqb→eq c.substitutions d.substitutions i)
    ∙ ap₂ (counts d.substitutions) (eqb→eq c.unfoldings d.unfoldings j) (eqb→eq c.cancellations d.cancellations k)

ends_by : (E : End) (n : ℕ) (c : Counts) (out : List ℕ) (r : Ended)
    → T (ended_by E n c out r)
    → (r.end ≡ E) × (r.steps ≡ n) × (r.counts ≡ c) × (words r.state ≡ out)
unfolding ended_by
ends_by E n c out r h =
    let (i, jkl) = both (eqb (end_number r.end) (end_number E)) _ h in
    let (j, kl) = both (eqb r.steps n) _ jkl in
    let (k, l) = both (same_counts r.counts c) _ kl in (
      end_number_injective r.end E (eqb→eq (end_number r.end) (end_number E) i),
      eqb→eq r.steps n j,
      equal_counts r.counts c k,
      same_words_equal (words r.state) out l,
    )

is_unfolding : (k : Kind) → T (unfolds k) → k ≡ by_unfolding
unfolding unfolds same_counts counting
is_unfolding by_substitution h = elim h [ ]
is_unfolding by_unfolding h = refl
is_unfolding by_cancellation h = elim h [ ]

-- What a row claims, from what the functions answer.
types_claim : (ws : List ℕ) (L : ℕ) (out : List ℕ) {t τ : Term}
    → Allowed L
    → read ws ≡ ok t
    → infer (book.types []) (step (seen 0 [])) L [] 0 t ≡ ok τ
    → words τ ≡ out
    → Claim (types ws L out)
unfolding Claim
types_claim ws L out {t} {τ} a e i o =
    let c = read_sound ws t e in
    let d = infer_sound (sound nothing_added) (seen_in_bodies 0 []) 0 env_empty c.1.closed c.1.named i in
    (t, τ, c, sym o, d, λ W O l m. rw (← o, words_length τ) (check_answer [] 0 ws L W O (typed a l m c d)))

refuses_claim : (ws : List ℕ) (L : ℕ) (r : Reason) (p : ℕ) {t : Term}
    → Allowed L
    → read ws ≡ ok t
    → infer (book.types []) (step (seen 0 [])) L [] 0 t ≡ refused r p
    → Claim (refuses ws L r p)
unfolding Claim
refuses_claim ws L r p {t} a e i =
    let c = read_sound ws t e in
    let f = refused_sound (sound nothing_added) (seen_in_bodies 0 []) env_empty c.1.closed c.1.named i in
    (t, c, f, λ n τ d. no_type f n d, λ W O l m. check_answer [] 0 ws L W O (untyped a l m c f))

ends_claim : (ws : List ℕ) (budget : ℕ) (E : End) (n : ℕ) (c : Counts) (out : List ℕ) {t x : Term}
    → read ws ≡ ok t
    → Course (bodies []) (Ends (bodies [])) budget t E n c x
    → words x ≡ out
    → Claim (ends ws budget E n c out)
unfolding Claim
ends_claim ws budget E n c out {t} {x} e k o =
    let w = read_sound ws t e in (
      t,
      x,
      w,
      sym o,
      k.last,
      k.counted,
      k.ends,
      λ caller desk W S i g l m.
          let given : budget ≡ grant budget caller desk = omega arith in
          rw
          (← o)
          (run_answer [] ws budget caller desk W S (ended i l m w k.last k.counted k.adds k.bounded (rw given at k.within) (rw given at k.ends))),
    )

-- A term that unfolds to itself is each of its states, so every run of it is spent, in unfoldings.
module _ {t : Term} (s : bodies [] ⊩ t ⟶ t) (u : kind s ≡ by_unfolding) where
  spinning : (k : ℕ) → State (bodies []) t k t
  spinning zero = state_zero
  spinning (suc k) = state_suc (spinning k) s

  unfoldings : (k : ℕ) → Counted (bodies []) t (counts 0 k 0) t
  unfolding counting
  unfoldings zero = counted_none
  unfoldings (suc k) = subst (λ j. Counted (bodies []) t (counting j (counts 0 k 0)) t) u (counted_more (unfoldings k) s)

  spinning_course : size t ≤ longest → (g : ℕ) → Course (bodies []) (Ends (bodies [])) g t spent g (counts 0 g 0) t
  unfolding total
  spinning_course h g =
      record {
        last = spinning g;
        counted = unfoldings g;
        adds = omega arith;
        bounded = λ k y l r. rw (state_unique r (spinning k)) h;
        within = omega arith;
        ends = ends_spent refl (t, s);
      }

  spins_claim : (ws : List ℕ) → read ws ≡ ok t → Claim (spins ws)
  unfolding Claim
  spins_claim ws e =
      let (w, c) = read_sound ws t e in (
        t,
        (w, c),
        (s, u),
        λ budget caller desk W S i l m.
            let k = spinning_course c.short (grant budget caller desk) in
            rw w (run_answer [] (words t) budget caller desk W S
            (ended i l m (refl, c) k.last k.counted k.adds k.bounded k.within k.ends)),
      )

-- A next state with the words of a readable term is that term: it is closed, and no longer.
same_term : {ws : List ℕ} {t x : Term} → bodies [] ⊩ t ⟶ x → Codes 0 ws t → words x ≡ words t → x ≡ t
same_term {t = t} {x} s c w =
    let closed = step_scoped 0 (sound nothing_added).closed.shut_bodies s c.1.closed in
    words_injective x t
    (worded 0 x closed (omega (arith, words_length x, words_length t, ap length w, c.1.short)))
    (codes_worded c) w

-- A row that passes holds.
row_claim : (r : Row) → T (row_holds r) → Claim r
unfolding row_holds
row_claim (types ws L out) h =
    let (a, i) = both (allowed L) _ h in
    let (t, e, j) = answers _ (read ws) i in
    let (τ, d, k) = answers _ (infer (book.types []) (step (seen 0 [])) L [] 0 t) j in
    types_claim ws L out (is_allowed L a) e d (same_words_equal (words τ) out k)
row_claim (refuses ws L r p) h =
    let (a, i) = both (allowed L) _ h in
    let (t, e, j) = answers _ (read ws) i in
    refuses_claim ws L r p (is_allowed L a) e (refuses_by r p (infer (book.types []) (step (seen 0 [])) L [] 0 t) j)
row_claim (ends ws budget E n c out) h =
    let (t, e, i) = answers _ (read ws) h in
    let (p, q, k, o) = ends_by E n c out (run_from (step (bodies [])) budget t) i in
    let course = run_course (bodies []) budget t (read_sound ws t e).1.short in
    ends_claim ws budget E n c out e (rw (p, q, k) at course) o
row_claim (spins ws) h =
    let (t, e, i) = answers _ (read ws) h in
    let (k, x, s, j) = steps_on _ (step (bodies []) t) i in
    let (u, same) = both (unfolds k) _ j in
    let c = read_sound ws t e in
    let itself = same_term (next_step (bodies []) t s).0 c (same_words_equal (words x) (words t) same) in
    let (r, kind) = next_step (bodies []) t (s ∙ ap (next k) itself) in
    spins_claim r (kind ∙ is_unfolding k u) ws e

rows_claim : (rs : List Row) → T (rows_hold rs) → Claims rs
unfolding Claims rows_hold
rows_claim [] h = tt
rows_claim (r ∷ rs) h =
    let (i, j) = both (row_holds r) (rows_hold rs) h in
    (row_claim r i, rows_claim rs j)

rows : Claims starred × Claims examples
unfolding rows_hold row_holds same_words on_answer refused_by on_next allowed ended_by same_counts unfolds read scan test means meaning bound binds node node₁ node₂ below the_first ◌>>=◌ ◌>>◌ require number infer annotation stored measure product stepped same decide size raise substitute step under applied cancelled unfolded view book.types bodies seen words emit run_until last_end advance done one_more counting end_number
rows = (rows_claim starred tt, rows_claim examples tt)

pub starred_terms : StarredTerms
starred_terms = rows.0

pub limit_examples : LimitExamples
limit_examples = rows.1
