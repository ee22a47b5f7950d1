-- A scan refuses where reading fails: at each word the tests before the failing one pass, a part that is there is scanned through,
-- and the rest is the same at a part. One bound on binders and levels goes down to the parts, since a node binds one variable at most.
use Prim.Native.Nat.{ℕ, suc, ◌+◌, ◌-◌, ◌≤◌, zero-le}
use mathlib.Core.Bool.{true, true≢false}
use mathlib.Core.List.{List, [], ◌∷◌, ◌++◌, map}
use mathlib.Core.Logic.{◌≢◌, ◌⊎◌, inl, inr}
use mathlib.Core.Path.{◌≡◌, refl, ap, ◌∙◌}
use native.Mathlib.Omega.{arith}
use native.Mathlib.Nat.{le_refl}
use lib.Dec.{T, leb}
use Rattle.calculus.specs.Term.{Term}
use Rattle.calculus.specs.Words.{first_part, second_part}
use Rattle.calculus.specs.Answer.{Reason, unbound, Answer, ok, refused, ◌>>=◌, ◌>>◌, require}
use Rattle.calculus.specs.Meaning.{Meaning, a_star, a_castdown, an_app, a_castup, a_lam, a_pi, a_mu, a_variable, a_name, nothing, meaning, binds}
use Rattle.calculus.specs.Reading.{Begins, Unread, no_word, meaningless, unnamed, too_deep, outside, in_first, in_second}
use Rattle.calculus.specs.Scan.{means, bound, test, node, Pending, below, scan}
use Rattle.calculus.proofs.Comparisons.{passed, le_leb, gt_leb}
use Rattle.calculus.proofs.Meanings.{sorted}
use Rattle.calculus.proofs.ScanWords.{Fills, scan_term}

-- A node binds one variable in each part at most.
OneEach : List ℕ → Type 0
OneEach [] = Unit
OneEach (k ∷ ks) = (k ≤ 1) × OneEach ks

binds_one : (m : Meaning) → OneEach (binds m)
unfolding OneEach binds
binds_one a_star = tt
binds_one a_castdown = (zero-le, tt)
binds_one an_app = (zero-le, (zero-le, tt))
binds_one a_castup = (zero-le, (zero-le, tt))
binds_one a_lam = (zero-le, (le_refl 1, tt))
binds_one a_pi = (zero-le, (le_refl 1, tt))
binds_one a_mu = (zero-le, (le_refl 1, tt))
binds_one (a_variable i) = tt
binds_one (a_name i) = tt
binds_one nothing = tt

meant : (m : Meaning) → m ≢ nothing → ((i : ℕ) → m ≢ a_name i) → means m ≡ true
meant m n k = on (sorted m)
  where
    on : (m ≡ nothing) ⊎ ((i : ℕ) × (m ≡ a_name i)) ⊎ T (means m) → means m ≡ true
    on (inl e) = absurd (n e)
    on (inr (inl (i, e))) = absurd (k i e)
    on (inr (inr t)) = passed (means m) t

-- A word with parts means something and is no variable.
parted : (m : Meaning) (b : ℕ) {k : ℕ} {ks : List ℕ} → binds m ≡ k ∷ ks → (means m ≡ true) × (bound m b ≡ true)
unfolding binds means bound
parted a_star b e = absurd (true≢false (cc e))
parted a_castdown b e = (refl, refl)
parted an_app b e = (refl, refl)
parted a_castup b e = (refl, refl)
parted a_lam b e = (refl, refl)
parted a_pi b e = (refl, refl)
parted a_mu b e = (refl, refl)
parted (a_variable i) b e = absurd (true≢false (cc e))
parted (a_name i) b e = absurd (true≢false (cc e))
parted nothing b e = absurd (true≢false (cc e))

abbrev pending : ℕ → ℕ → Pending
pending room binders = record { room = room; binders = binders }

abbrev part_of : ℕ → ℕ → ℕ → Pending
part_of room binders k = pending room (binders + k)

-- Where a level is left, a word passes the test of its level.
left : (room : ℕ) → leb 1 (suc room) ≡ true
left room = le_leb 1 (suc room) (omega arith)

-- Where a level is left, a variable outside its binders is refused,
scan_outside : (room binders w i : ℕ)
    → meaning w ≡ a_variable i
    → binders ≤ i
    → (ws : List ℕ) (ss : List Pending) (p : ℕ)
    → scan (w ∷ ws) (pending (suc room) binders ∷ ss) p ≡ refused unbound p
unfolding scan test means bound require ◌>>=◌ ◌>>◌
scan_outside room binders w i e l ws ss p = rw (e, left room, gt_leb (suc i) binders (omega arith)) refl

-- and a word with parts passes its tests, and its parts are awaited.
scan_parts : (room binders w : ℕ) {k : ℕ} {ks : List ℕ}
    → binds (meaning w) ≡ k ∷ ks
    → (ws : List ℕ) (ss : List Pending) (p : ℕ)
    → scan (w ∷ ws) (pending (suc room) binders ∷ ss) p
    ≡ (scan ws (map (part_of room binders) (k ∷ ks) ++ ss) (first_part p) >>= λ ts. ok (node (meaning w) ts))
unfolding scan test require below ◌>>=◌ ◌>>◌
scan_parts room binders w {k} {ks} e ws ss p =
    let (m, b) = parted (meaning w) binders e in
    let one : suc room - 1 ≡ room = omega arith in
    let here : scan (w ∷ ws) (pending (suc room) binders ∷ ss) p ≡ then (suc room - 1) = rw (m, left room, b, e) refl in
    here ∙ ap then one
  where
    then : ℕ → Answer (List Term)
    then n = scan ws (map (part_of n binders) (k ∷ ks) ++ ss) (first_part p) >>= λ ts. ok (node (meaning w) ts)

-- A part that is there is scanned through.
scan_first : (room binders : ℕ) (ws : List ℕ) (a : Term) (rest : List ℕ)
    → Begins room binders ws a rest
    → binders + room ≤ 2032
    → (ss : List Pending) (p : ℕ)
    → scan ws (pending room binders ∷ ss) (first_part p) ≡ (scan rest ss (second_part p a) >>= λ ts. ok (a ∷ ts))
scan_first room binders ws a rest b known ss p =
    let fills : Fills (pending room binders) a = record { scoped = b.scoped; within = b.within; named = b.named } in
    rw b.written (scan_term a (pending room binders) fills (omega (arith, b.within)) rest ss (first_part p))

-- A refusal is the answer of all that waits for it.
passes : {A B : Type 0} {x : Answer A} {r : Reason} {q : ℕ} (f : A → Answer B) → x ≡ refused r q → (x >>= f) ≡ refused r q
unfolding ◌>>=◌
passes f e = ap (λ y. y >>= f) e

pub scan_refuses : {room binders p q : ℕ} {ws : List ℕ} {r : Reason}
    → Unread room binders p ws r q
    → binders + room ≤ 2032
    → (ss : List Pending)
    → scan ws (pending room binders ∷ ss) p ≡ refused r q
unfolding scan test means bound require ◌>>=◌ ◌>>◌ OneEach
scan_refuses no_word known ss = refl
scan_refuses (meaningless e) known ss = rw e refl
scan_refuses (unnamed e) known ss = rw e refl
scan_refuses (too_deep {w} n k) known ss = rw (meant (meaning w) n k) refl
scan_refuses (outside {room} {binders} {p} {w} {i} {ws} e l) known ss = scan_outside room binders w i e l ws ss p
scan_refuses (in_first {room} {binders} {p} {w} {ks} {ws} e u) known ss =
    let (small, _) = rw e at (binds_one (meaning w)) in
    scan_parts room binders w e ws ss p ∙ passes _ (scan_refuses u (omega (arith, small, known)) (map (part_of room binders) ks ++ ss))
scan_refuses (in_second {room} {binders} {p} {w} {j} {k} {ws} {rest} {a} e b u) known ss =
    let (small, (small', _)) = rw e at (binds_one (meaning w)) in
    scan_parts room binders w e ws ss p
    ∙ passes
    _
    (
    scan_first room (binders + j) ws a rest b (omega (arith, small, known)) (part_of room binders k ∷ ss) p
    ∙ passes _ (scan_refuses u (omega (arith, small', known)) ss)
    )
