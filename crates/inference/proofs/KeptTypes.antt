-- Kept terms in a slice: the words cut out where a term lies are its own, and the other way round; a term lies where it was
-- written, and still where it lay if the slice is as it was up to its end; and a term that is raised where it was written is
-- written raised.
use Prim.Native.Nat.{ℕ, zero, suc, ◌+◌, ◌*◌, ◌≤◌}
use mathlib.Core.List.{List, [], ◌∷◌, ◌++◌}
use mathlib.Core.Path.{◌≡◌, refl, sym, ap, ◌∙◌}
use native.Mathlib.Nat.{zero-add, suc-add}
use native.Mathlib.Omega.{arith}
use lib.ListN.{length, take, drop, length-drop, take-append-drop}
use lib.Seq.{sets, take-nil, length-take-le}
use Rattle.calculus.specs.Term.{Term, size, raise}
use Rattle.term.specs.Kept.{kept, Lies}
use Rattle.term.proofs.Keeping.{keep_append, kept_length}
use Rattle.kept.proofs.Stores.{take_sets}
use Rattle.kept.proofs.InPlace.{raise_size}
use Rattle.inference.proofs.Stored.{stored, stored_over}

-- The words cut out at a node are those of the term that lies there. (`lies_taken` of `term` is the other way.)
pub cut_lies : (t : Term) (slice : List ℕ) (n : ℕ) → take (2 * size t) (drop (2 * n) slice) ≡ kept t → Lies t slice n
cut_lies t slice n h =
    let part = drop (2 * n) slice in
    let rest = drop (2 * size t) part in
    record {
      rest = rest;
      begins = sym (take-append-drop (2 * size t) part) ∙ ap (λ ws. ws ++ rest) h ∙ sym (keep_append t rest);
    }

-- So many nodes as were cut out of a slice that has them are those of the term.
pub cut_size : (t : Term) (slice : List ℕ) (n count : ℕ)
    → 2 * (n + count) ≤ length slice
    → take (2 * count) (drop (2 * n) slice) ≡ kept t
    → count ≡ size t
cut_size t slice n count h x =
    let rest = length-drop (2 * n) slice in
    let many = length-take-le (2 * count) (drop (2 * n) slice) (omega arith) in
    omega (arith, ap length x, kept_length t)

part_of_front : (l : List ℕ) (at n : ℕ) → take n (drop at l) ≡ drop at (take (at + n) l)
part_of_front l zero n = rw zero-add refl
part_of_front [] (suc at) n = rw (take-nil n, take-nil (suc at + n)) refl
part_of_front (w ∷ l) (suc at) n = rw (suc-add at n) (part_of_front l at n)

pub same_part : (before after : List ℕ) (at n : ℕ)
    → take (at + n) after ≡ take (at + n) before
    → take n (drop at after) ≡ take n (drop at before)
same_part before after at n x = part_of_front after at n ∙ ap (drop at) x ∙ sym (part_of_front before at n)

pub written : (before : List ℕ) (at : ℕ) {after : List ℕ} (t : Term)
    → after ≡ sets before (2 * at) (kept t)
    → 2 * (at + size t) ≤ length before
    → take (2 * size t) (drop (2 * at) after) ≡ kept t
written before at t x h =
    rw (x, ← kept_length t) (stored before (kept t) (2 * at) (omega (arith, kept_length t)))

-- So many nodes that lie at `top` before the words that were stored at the node `at`.
pub lies_still : (before : List ℕ) (top m at : ℕ) {after u : List ℕ} (ws : List ℕ)
    → top + m ≤ at
    → after ≡ sets before (2 * at) ws
    → take (2 * m) (drop (2 * top) before) ≡ u
    → take (2 * m) (drop (2 * top) after) ≡ u
lies_still before top m at {after} ws h x l =
    let n = 2 * top + 2 * m in
    same_part before after (2 * top) (2 * m) (ap (take n) x ∙ take_sets n before (2 * at) ws (omega arith)) ∙ l

-- The `n` words from the node `at` on, where `a` was written, were made those of `a` raised.
pub raised_there : (work : List ℕ) (at by n : ℕ) (a : Term) {noted part : List ℕ}
    → 2 * (at + size a) ≤ length work
    → n ≡ 2 * size a
    → noted ≡ sets work (2 * at) (kept a)
    → part ≡ kept (raise by 0 a)
    → take (2 * at) noted ++ (part ++ drop n (drop (2 * at) noted)) ≡ sets work (2 * at) (kept (raise by 0 a))
raised_there work at by n a h same x y =
    let τ = raise by 0 a in
    let own = kept_length a in
    let long = kept_length τ in
    let whole = stored_over work (kept a) (kept τ) (2 * at) n (omega arith) (omega (arith, raise_size by 0 a)) (omega arith) in
    rw (x, y) whole
