-- The type of an abstraction: where the body's type lies behind room for the annotation, the product's node and the annotation
-- written before it make the product, since its kept words are these one after the other.
use Prim.Native.Nat.{ℕ, suc, ◌+◌, ◌*◌, ◌≤◌}
use mathlib.Core.List.{List, [], ◌∷◌, ◌++◌}
use mathlib.Core.Path.{◌≡◌, ap, ◌∙◌}
use native.Mathlib.Nat.{le_refl}
use native.Mathlib.Numerals.{add-one}
use native.Mathlib.Omega.{arith}
use lib.ListN.{length, take, drop, set}
use lib.Seq.{sets, drop_at, length-take-le, take-append-add}
use Rattle.calculus.specs.Term.{Term, pi, size}
use Rattle.term.specs.Kept.{kept}
use Rattle.term.proofs.Nodes.{two_pi, keep_two}
use Rattle.term.proofs.Keeping.{keep_append, kept_length}
use Rattle.kept.proofs.Stores.{take_sets}
use Rattle.std.specs.Prelude.{Ok}
use Rattle.inference.specs.Inference.{TypeFound}
use Rattle.inference.proofs.Stored.{sets_between}

-- What is stored before what lies behind it.
stored_before : (l e u : List ℕ) (at m : ℕ)
    → at + length e ≤ length l
    → take m (drop (at + length e) l) ≡ u
    → take (length e + m) (drop at (sets l at e)) ≡ e ++ u
stored_before l e u at m h x =
    ap (λ k. take (length e + m) (drop at k)) (sets_between l e at h)
    ∙ ap (take (length e + m)) (drop_at (take at l) (e ++ drop (at + length e) l) at (length-take-le at l (omega arith)))
    ∙ take-append-add e (drop (at + length e) l) m
    ∙ ap (λ k. e ++ k) x

pi_kept : (a b : Term) → kept (pi a b) ≡ (5 ∷ size (pi a b) ∷ kept a) ++ kept b
unfolding kept
pi_kept a b = keep_two two_pi a b [] ∙ ap (λ k. 5 ∷ size (pi a b) ∷ k) (keep_append a (kept b))

pub product_written : {places places' work after : List ℕ} {depth top n m j k : ℕ} (before : List ℕ) (a b : Term) (long : ℕ)
    → j ≡ k
    → n ≡ size a
    → m ≡ size b
    → long ≡ 1 + n + m
    → after ≡ sets (set (set before (2 * top) 5) (2 * top + 1) long) (2 * (top + 1)) (kept a)
    → 2 * (top + (1 + n)) ≤ length before
    → take (2 * m) (drop (2 * (top + (1 + n))) before) ≡ kept b
    → take (2 * top) before ≡ take (2 * top) work
    → take depth places' ≡ take depth places
    → length places' ≡ length places
    → TypeFound (pi a b) k places depth work top (Ok (record { read = j; length = 1 + n + m })) after places'
unfolding size
product_written {work} {after} {top} {n} {m} before a b long reads first second all x room lies front context wide =
    let many = kept_length a in
    let e : List ℕ = 5 ∷ size (pi a b) ∷ kept a in
    let words : length e ≡ 2 * (1 + n) = omega arith in
    let next : 2 * (top + 1) ≡ suc (suc (2 * top)) = omega arith in
    let node : long ≡ size (pi a b) = omega arith in
    let y : after ≡ sets before (2 * top) e =
    x
    ∙ ap (λ i. sets (set (set before (2 * top) 5) (2 * top + 1) long) i (kept a)) next
    ∙ ap (λ i. sets (set (set before (2 * top) 5) i long) (suc (suc (2 * top))) (kept a)) (add-one (2 * top))
    ∙ ap (λ i. sets (set (set before (2 * top) 5) (suc (2 * top)) i) (suc (suc (2 * top))) (kept a)) node in
    let at : 2 * top + length e ≡ 2 * (top + (1 + n)) = omega arith in
    let behind : take (2 * m) (drop (2 * top + length e) before) ≡ kept b = ap (λ i. take (2 * m) (drop i before)) at ∙ lies in
    let whole : 1 + n + m ≡ suc (size a + size b) = omega arith in
    let both : 2 * suc (size a + size b) ≡ length e + 2 * m = omega arith in
    record {
      answer = cc;
      lies = rw (both, y, pi_kept a b) (stored_before before e (kept b) (2 * top) (2 * m) (omega arith) behind);
      front = rw y (take_sets (2 * top) before (2 * top) e (le_refl (2 * top)) ∙ front);
      context = context;
      wide = wide;
    }
