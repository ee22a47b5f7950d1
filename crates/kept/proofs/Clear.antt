-- Terms without variables and names: raising and substitution leave them as they are. A subterm is known to be one by its survey, where
-- the first variable or name at or behind its node stands behind the subterm. Along with it: what is known of a node holds of its parts.
use Prim.Native.Nat.{ℕ, suc, ◌+◌, ◌-◌, ◌≤◌, ◌<◌}
use mathlib.Core.List.{List, ◌∷◌}
use mathlib.Core.Path.{◌≡◌, refl, ap, ap₂, ◌∙◌, subst}
use native.Mathlib.Omega.{arith}
use borrow.Author.Tests.{lt-ltb, le-ltb}
use lib.ListN.{get_or}
use Rattle.calculus.specs.Term.{Term, var, star, app, lam, pi, castup, castdown, mu, name, size, raise, substitute}
use Rattle.calculus.specs.Words.{Scoped, deepest}
use Rattle.calculus.proofs.Coding.{size_positive}
use Rattle.term.specs.Kept.{keep, Lies}
use Rattle.term.proofs.Nodes.{Two, two_app, two_castup, two_lam, two_pi, two_mu, keep_two, size_two, raise_two, substitute_two}
use Rattle.term.proofs.Nodes.{scoped_two, word_two}
use Rattle.term.proofs.Keeping.{lies_first, lies_second, lies_body}
use Rattle.kept.specs.Rewriting.{clear_run, Subject, Surveyed}

-- A term by its nodes all the way down. Laws about all terms go by recursion on this, with the five nodes of two parts in one
-- clause.
pub data Built : Term → Type 0 where
  of_variable : (i : ℕ) → Built (var i)
  of_star : Built star
  of_name : (i : ℕ) → Built (name i)
  of_one : {e : Term} → Built e → Built (castdown e)
  of_two : {c : Term → Term → Term} {w k : ℕ} {a b : Term} → Two c w k → Built a → Built b → Built (c a b)

pub built : (t : Term) → Built t
built (var i) = of_variable i
built star = of_star
built (app f u) = of_two two_app (built f) (built u)
built (lam a e) = of_two two_lam (built a) (built e)
built (pi a b) = of_two two_pi (built a) (built b)
built (castup a e) = of_two two_castup (built a) (built e)
built (castdown e) = of_one (built e)
built (mu a e) = of_two two_mu (built a) (built e)
built (name i) = of_name i

pub data NoVariable : Term → Type 0 where
  no_star : NoVariable star
  no_one : {e : Term} → NoVariable e → NoVariable (castdown e)
  no_two : {c : Term → Term → Term} {w k : ℕ} {a b : Term} → Two c w k → NoVariable a → NoVariable b → NoVariable (c a b)

pub raise_clear : {e : Term} (n d : ℕ) → NoVariable e → raise n d e ≡ e
unfolding raise
raise_clear n d no_star = refl
raise_clear n d (no_one h) = ap castdown (raise_clear n d h)
raise_clear n d (no_two {c} {w} {k} {a} {b} two h j) =
    raise_two two n d a b ∙ ap₂ c (raise_clear n d h) (raise_clear n (d + k) j)

pub substitute_clear : {e : Term} (d : ℕ) (u : Term) → NoVariable e → substitute d u e ≡ e
unfolding substitute
substitute_clear d u no_star = refl
substitute_clear d u (no_one h) = ap castdown (substitute_clear d u h)
substitute_clear d u (no_two {c} {w} {k} {a} {b} two h j) =
    substitute_two two d u a b ∙ ap₂ c (substitute_clear d u h) (substitute_clear (d + k) u j)

-- The run of nodes without a variable or name: a node that is neither counts one more, each of these ends it.
pub run_more : (w l : ℕ) (ws : List ℕ) (n : ℕ) → w < 16 → clear_run (w ∷ l ∷ ws) (suc n) ≡ suc (clear_run ws n)
unfolding clear_run
run_more w l ws n h = rw (lt-ltb w 16 h) refl

pub run_ends : (w l : ℕ) (ws : List ℕ) (n : ℕ) → 16 ≤ w → clear_run (w ∷ l ∷ ws) (suc n) ≡ 0
unfolding clear_run
run_ends w l ws n h = rw (le-ltb w 16 h) refl

-- The same of a node with two parts and of a down cast, before the words `r`.
run_two : {c : Term → Term → Term} {w k : ℕ} → Two c w k → (a b : Term) (r : List ℕ) (n : ℕ)
    → clear_run (keep (c a b) r) (suc n) ≡ suc (clear_run (keep a (keep b r)) n)
run_two {c} {w} two a b r n =
    ap (λ ws. clear_run ws (suc n)) (keep_two two a b r)
    ∙ run_more w (size (c a b)) (keep a (keep b r)) n (omega (arith, (word_two two).1))

run_one : (e : Term) (r : List ℕ) (n : ℕ) → clear_run (keep (castdown e) r) (suc n) ≡ suc (clear_run (keep e r) n)
unfolding keep
run_one e r n = run_more 1 (size (castdown e)) (keep e r) n (omega arith)

-- So the run goes through a term without variables and names and on behind it,
run_through : {e : Term} → NoVariable e → (r : List ℕ) (n : ℕ) → clear_run (keep e r) (size e + n) ≡ size e + clear_run r n
unfolding keep size
run_through no_star r n =
    let sum : 1 + n ≡ suc n = omega arith in
    ap (clear_run (0 ∷ 1 ∷ r)) sum ∙ run_more 0 1 r n (omega arith) ∙ omega arith
run_through (no_one {e} h) r n =
    let sum : suc (size e) + n ≡ suc (size e + n) = omega arith in
    ap (clear_run (keep (castdown e) r)) sum ∙ run_one e r (size e + n) ∙ omega (arith, run_through h r n)
run_through (no_two {c} {w} {k} {a} {b} two h j) r n =
    let sum : size (c a b) + n ≡ suc (size a + (size b + n)) = omega (arith, size_two two a b) in
    ap (clear_run (keep (c a b) r)) sum
    ∙ run_two two a b r (size a + (size b + n))
    ∙ omega (arith, size_two two a b, run_through h (keep b r) (size b + n), run_through j r n)

-- and a term that it goes through has none.
run_clear : {e : Term} → Built e → (r : List ℕ) (n : ℕ) → size e ≤ clear_run (keep e r) (size e + n) → NoVariable e
unfolding keep size
run_clear (of_variable i) r n h =
    let sum : 1 + n ≡ suc n = omega arith in
    absurd (omega (arith, h, ap (clear_run ((16 + i) ∷ 1 ∷ r)) sum, run_ends (16 + i) 1 r n (omega arith)))
run_clear of_star r n h = no_star
run_clear (of_name i) r n h =
    let sum : 1 + n ≡ suc n = omega arith in
    absurd (omega (arith, h, ap (clear_run ((2048 + i) ∷ 1 ∷ r)) sum, run_ends (2048 + i) 1 r n (omega arith)))
run_clear (of_one {e} p) r n h =
    let sum : suc (size e) + n ≡ suc (size e + n) = omega arith in
    no_one (run_clear p r n (omega (arith, h, ap (clear_run (keep (castdown e) r)) sum, run_one e r (size e + n))))
run_clear (of_two {c} {w} {k} {a} {b} two p q) r n h =
    let m = size a + (size b + n) in
    let sum : size (c a b) + n ≡ suc m = omega (arith, size_two two a b) in
    let length = size_two two a b in
    let run = ap (clear_run (keep (c a b) r)) sum ∙ run_two two a b r m in
    let first : NoVariable a = run_clear p (keep b r) (size b + n) (omega (arith, h, length, run)) in
    let behind = run_through first (keep b r) (size b + n) in
    no_two two first (run_clear q r n (omega (arith, h, length, run, behind)))

pub clear_of : (e : Term) (r : List ℕ) (n : ℕ) → size e ≤ n → size e ≤ clear_run (keep e r) n → NoVariable e
clear_of e r n short h =
    let sum : n ≡ size e + (n - size e) = omega arith in
    run_clear (built e) r (n - size e) (omega (arith, h, ap (clear_run (keep e r)) sum))

-- By its survey, a subterm that ends at or before the first variable or name has none.
pub surveyed_clear : {e : Term} {slice : List ℕ} {node : ℕ} {first : List ℕ}
    → Lies e slice node
    → Surveyed e slice node first
    → node + size e ≤ get_or first node 0
    → NoVariable e
surveyed_clear {e} {slice} {node} {first} l s h =
    let told = s.firsts.each node (omega arith) (omega (arith, s.reach, size_positive e)) in
    let words = ap (λ ws. clear_run ws (s.to - node)) l.begins in
    clear_of e l.rest (s.to - node) (omega (arith, s.reach)) (omega (arith, h, told, words))

-- The survey of a subterm is one of every term that stands inside it.
pub surveyed_inside : {e : Term} {slice : List ℕ} {node : ℕ} {first : List ℕ} (s : Term) (m : ℕ)
    → Surveyed e slice node first
    → node ≤ m
    → m + size s ≤ node + size e
    → Surveyed s slice m first
surveyed_inside {e} {slice} {node} {first} s m v from fits =
    record {
      to = v.to;
      reach = omega (arith, v.reach);
      within = v.within;
      firsts = record { wide = v.firsts.wide; each = λ n low. v.firsts.each n (omega arith) };
    }

two_binds : {c : Term → Term → Term} {w k : ℕ} → Two c w k → k ≤ 1
two_binds two_app = omega arith
two_binds two_castup = omega arith
two_binds two_lam = omega arith
two_binds two_pi = omega arith
two_binds two_mu = omega arith

-- The parts of a node.
module _ {c : Term → Term → Term} {w k : ℕ} (two : Two c w k) {a b : Term} {slice : List ℕ} {n : ℕ} where
  pub surveyed_first : {first : List ℕ} → Surveyed (c a b) slice n first → Surveyed a slice (n + 1) first
  surveyed_first v = surveyed_inside a (n + 1) v (omega arith) (omega (arith, size_two two a b))

  pub surveyed_second : {first : List ℕ} → Surveyed (c a b) slice n first → Surveyed b slice (n + 1 + size a) first
  surveyed_second v = surveyed_inside b (n + 1 + size a) v (omega arith) (omega (arith, size_two two a b))

  pub subject_first : {depth : ℕ} → Subject (c a b) slice n depth → Subject a slice (n + 1) depth
  subject_first {depth} s =
      record {
        lies = lies_first two s.lies;
        scoped = (scoped_two two (suc deepest + depth) a b s.scoped).0;
        near = omega (arith, s.near, size_two two a b);
      }

  pub subject_second : {depth : ℕ} → Subject (c a b) slice n depth → Subject b slice (n + 1 + size a) (depth + k)
  subject_second {depth} s =
      let sum : suc deepest + depth + k ≡ suc deepest + (depth + k) = omega arith in
      record {
        lies = lies_second two s.lies;
        scoped = subst (λ m. Scoped m b) sum (scoped_two two (suc deepest + depth) a b s.scoped).1;
        near = omega (arith, s.near, size_two two a b, two_binds two, size_positive a);
      }

module _ {e : Term} {slice : List ℕ} {n : ℕ} where
  pub surveyed_body : {first : List ℕ} → Surveyed (castdown e) slice n first → Surveyed e slice (n + 1) first
  unfolding size
  surveyed_body v = surveyed_inside e (n + 1) v (omega arith) (omega arith)

  pub subject_body : {depth : ℕ} → Subject (castdown e) slice n depth → Subject e slice (n + 1) depth
  unfolding size Scoped
  subject_body s = record { lies = lies_body s.lies; scoped = s.scoped; near = omega (arith, s.near) }
