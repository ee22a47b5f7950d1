-- A scan of the words of a term, whatever follows them, reads that term and goes on behind it: each word passes its tests, and
-- its parts come back from the scan of the rest just as the node wants them. The term must fit where it is expected, and its
-- indices must have words; since each binder takes a level, one bound on binders and levels sees to that at every part.
use Prim.Native.Nat.{ℕ, suc, ◌+◌, ◌≤◌, max, zero-le}
use mathlib.Core.List.{List, ◌∷◌, ◌++◌, map}
use mathlib.Core.Path.{◌≡◌, refl, ◌∙◌}
use native.Mathlib.Nat.{add-zero, le_refl}
use native.Mathlib.Numerals.{add-one}
use native.Mathlib.Omega.{arith}
use lib.Dec.{T, lt→ltb}
use Rattle.calculus.specs.Term.{Term, var, star, app, lam, pi, castup, castdown, mu, name, size}
use Rattle.calculus.specs.Words.{emit, levels, Scoped, Named}
use Rattle.calculus.specs.Answer.{Answer, ok, refused, ◌>>=◌, ◌>>◌, require}
use Rattle.calculus.specs.Meaning.{Meaning, a_star, a_castdown, an_app, a_castup, a_lam, a_pi, a_mu, a_variable, binds}
use Rattle.calculus.specs.Scan.{means, bound, test, node, node₁, node₂, Pending, below, scan}
use Rattle.calculus.proofs.Comparisons.{passed, le_leb}
use Rattle.calculus.proofs.Meanings.{word, Indexed, meaning_word}

-- A term that may stand where the pending subterm `s` is awaited.
pub record Fills (s : Pending) (t : Term) : Type 0 where
  pub scoped : Scoped s.binders t
  pub within : levels t ≤ s.room
  pub named : Named 0 t

-- A word that passes its tests is followed by its parts and what comes after, and makes its node of what the scan of those gives.
scan_word : (m : Meaning) (s : Pending) {n : ℕ}
    → Indexed m
    → T (means m)
    → suc n ≤ s.room
    → T (bound m s.binders)
    → (ws : List ℕ) (ss : List Pending) (p : ℕ)
    → scan (word m ∷ ws) (s ∷ ss) p ≡ (scan ws (map (below s) (binds m) ++ ss) (suc p) >>= λ ts. ok (node m ts))
unfolding scan test require ◌>>=◌ ◌>>◌
scan_word m s indexed meant room inside ws ss p =
    rw (meaning_word m indexed, passed (means m) meant, le_leb 1 s.room (omega arith), passed (bound m s.binders) inside) refl

-- The words of `t` are read as `t`, whatever follows.
abbrev pub Reads : Pending → Term → Type 0
Reads s t = (k : List ℕ) (ss : List Pending) (p : ℕ) → scan (emit t k) (s ∷ ss) p ≡ (scan k ss (p + size t) >>= λ ts. ok (t ∷ ts))

-- So it is wherever `t` fits and each of its indices has a word.
abbrev pub Readily : Term → Type 0
Readily t = (s : Pending) → Fills s t → s.binders + levels t ≤ 2032 → Reads s t

-- A part of a node at `s`, which binds `j` variables in it and has `n` levels below its own.
part : (s : Pending) (j n : ℕ) (t : Term)
    → Readily t
    → j ≤ 1
    → Scoped (s.binders + j) t
    → Named 0 t
    → levels t ≤ n
    → suc n ≤ s.room
    → s.binders + suc n ≤ 2032
    → Reads (below s j) t
unfolding below
part s j n t r small scoped named shallow room known =
    r (below s j) (record { scoped = scoped; within = omega arith; named = named }) (omega arith)

one_part : (s : Pending) (e : Term)
    → Readily e
    → Scoped s.binders e
    → Named 0 e
    → suc (levels e) ≤ s.room
    → s.binders + suc (levels e) ≤ 2032
    → (k : List ℕ) (ss : List Pending) (p : ℕ)
    → (scan (emit e k) (below s 0 ∷ ss) (suc p) >>= λ ts. ok (node₁ castdown ts))
    ≡ (scan k ss (p + suc (size e)) >>= λ ts. ok (castdown e ∷ ts))
unfolding node₁ ◌>>=◌
one_part s e r scoped named room known k ss p =
    rw (part s 0 (levels e) e r zero-le (rw add-zero scoped) named (le_refl _) room known k ss (suc p), places) (cases (scan k ss (p + suc (size e))))
  where
    places : suc p + size e ≡ p + suc (size e)
    places = omega arith

    cases : (x : Answer (List Term))
        → ((x >>= λ ts. ok (e ∷ ts)) >>= λ ts. ok (node₁ castdown ts)) ≡ (x >>= λ ts. ok (castdown e ∷ ts))
    cases (ok ts) = refl
    cases (refused r p) = refl

two_parts : (c : Term → Term → Term) (s : Pending) (j : ℕ) (a e : Term)
    → Readily a
    → Readily e
    → j ≤ 1
    → Scoped s.binders a
    → Scoped (s.binders + j) e
    → Named 0 a
    → Named 0 e
    → suc (max (levels a) (levels e)) ≤ s.room
    → s.binders + suc (max (levels a) (levels e)) ≤ 2032
    → (k : List ℕ) (ss : List Pending) (p : ℕ)
    → (scan (emit a (emit e k)) (below s 0 ∷ below s j ∷ ss) (suc p) >>= λ ts. ok (node₂ c ts))
    ≡ (scan k ss (p + suc (size a + size e)) >>= λ ts. ok (c a e ∷ ts))
unfolding node₂ ◌>>=◌
two_parts c s j a e ra re small sa se na ne room known k ss p =
    rw (first, second, places) (cases (scan k ss (p + suc (size a + size e))))
  where
    n : ℕ
    n = max (levels a) (levels e)

    first : scan (emit a (emit e k)) (below s 0 ∷ below s j ∷ ss) (suc p)
        ≡ (scan (emit e k) (below s j ∷ ss) (suc p + size a) >>= λ ts. ok (a ∷ ts))
    first = part s 0 n a ra zero-le (rw add-zero sa) na (omega arith) room known (emit e k) (below s j ∷ ss) (suc p)

    second : scan (emit e k) (below s j ∷ ss) (suc p + size a) ≡ (scan k ss (suc p + size a + size e) >>= λ ts. ok (e ∷ ts))
    second = part s j n e re small se ne (omega arith) room known k ss (suc p + size a)

    places : suc p + size a + size e ≡ p + suc (size a + size e)
    places = omega arith

    cases : (x : Answer (List Term))
        → (((x >>= λ ts. ok (e ∷ ts)) >>= λ ts. ok (a ∷ ts)) >>= λ ts. ok (node₂ c ts)) ≡ (x >>= λ ts. ok (c a e ∷ ts))
    cases (ok ts) = refl
    cases (refused r p) = refl

-- The law of a scan on the words of one term.
pub scan_term : (t : Term) → Readily t
unfolding emit size levels Scoped Named word Indexed means bound binds node
scan_term (var i) s h known k ss p =
    rw add-one (scan_word (a_variable i) s (omega (arith, h.scoped)) tt h.within (lt→ltb i s.binders h.scoped) k ss p)
scan_term star s h known k ss p = rw add-one (scan_word a_star s tt tt h.within tt k ss p)
scan_term (app f u) s h known k ss p =
    scan_word an_app s tt tt h.within tt (emit f (emit u k)) ss p
    ∙ two_parts app s 0 f u (scan_term f) (scan_term u) zero-le h.scoped.0 (rw add-zero h.scoped.1) h.named.0 h.named.1 h.within known k ss p
scan_term (lam a e) s h known k ss p =
    scan_word a_lam s tt tt h.within tt (emit a (emit e k)) ss p
    ∙ two_parts lam s 1 a e (scan_term a) (scan_term e) (le_refl 1) h.scoped.0 (rw add-one h.scoped.1) h.named.0 h.named.1 h.within known k ss p
scan_term (pi a b) s h known k ss p =
    scan_word a_pi s tt tt h.within tt (emit a (emit b k)) ss p
    ∙ two_parts pi s 1 a b (scan_term a) (scan_term b) (le_refl 1) h.scoped.0 (rw add-one h.scoped.1) h.named.0 h.named.1 h.within known k ss p
scan_term (castup a e) s h known k ss p =
    scan_word a_castup s tt tt h.within tt (emit a (emit e k)) ss p
    ∙ two_parts castup s 0 a e (scan_term a) (scan_term e) zero-le h.scoped.0 (rw add-zero h.scoped.1) h.named.0 h.named.1 h.within known k ss p
scan_term (castdown e) s h known k ss p =
    scan_word a_castdown s tt tt h.within tt (emit e k) ss p ∙ one_part s e (scan_term e) h.scoped h.named h.within known k ss p
scan_term (mu a e) s h known k ss p =
    scan_word a_mu s tt tt h.within tt (emit a (emit e k)) ss p
    ∙ two_parts mu s 1 a e (scan_term a) (scan_term e) (le_refl 1) h.scoped.0 (rw add-one h.scoped.1) h.named.0 h.named.1 h.within known k ss p
scan_term (name i) s h known k ss p = absurd (omega (arith, h.named))
