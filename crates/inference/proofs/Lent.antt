-- What a call writes into a part of the working slice, said of the whole slice: the part has room for as many nodes as the limit
-- allows, and a store into the part is a store into the slice.
use Prim.Native.Nat.{ℕ, ◌+◌, ◌-◌, ◌*◌, ◌≤◌}
use mathlib.Core.Bool.{true≢false}
use mathlib.Core.List.{List, ◌++◌}
use mathlib.Core.Path.{◌≡◌, refl, ap, ◌∙◌}
use native.Mathlib.Omega.{arith}
use lib.ListN.{length, take, drop, length-drop}
use lib.Seq.{sets, length-take-le}
use Rattle.calculus.specs.Term.{Term, size, substitute}
use Rattle.calculus.specs.Step as calculus
use Rattle.term.specs.Kept.{kept}
use Rattle.term.proofs.Keeping.{kept_length}
use Rattle.std.specs.Prelude.{Result, Option, Ok, Err, Some, None}
use Rattle.reduction.specs.declared.stepping.Stepped.{Stepped}
use Rattle.reduction.specs.declared.stepping.Halt.{Halt}
use Rattle.term.specs.declared.refusal.Reason.TheVariants.{OverLimit}
use Rattle.kept.specs.Writing as reduction
use Rattle.reduction.specs.Stepping.{Steps}
use Rattle.inference.specs.Moving.{Puts, Moves}
use Rattle.inference.proofs.Putting.{within_or_over}
use Rattle.inference.proofs.Stored.{stored_front, stored_part}

-- `u` put in for the outermost variable of `b`, written at `top` into the first `top` + `limit` nodes: the answer is the node behind
-- it, or none.
module _ (b u : Term) (work : List ℕ) (top limit : ℕ) {reached : Option ℕ} {part : List ℕ} (room_for : 2 * (top + limit) ≤ length work)
    (w : reduction.Puts (kept (substitute 0 u b)) (take (2 * (top + limit)) work) top reached part) where
  room : length (take (2 * (top + limit)) work) ≡ 2 * (top + limit)
  room = length-take-le (2 * (top + limit)) work room_for

  pub puts_over : reached ≡ None → Puts b u work top limit (Err OverLimit) (part ++ drop (2 * (top + limit)) work)
  puts_over far =
      let many = kept_length (substitute 0 u b) in
      record {
        fits = λ h. let g = w.fits (omega (arith, room)) in let e = g.1 in absurd (true≢false (cc (e, far)));
        full = λ h. refl;
      }

  module _ {end : ℕ} (near : reached ≡ Some end) where
    behind : (size (substitute 0 u b) ≤ limit) × (end ≡ top + size (substitute 0 u b)) × (part ≡ sets (take (2 * (top + limit)) work) (2 * top) (kept (substitute 0 u b)))
    behind =
        let x = substitute 0 u b in
        let many = kept_length x in
        within_or_over x limit
        (λ h.
        let g = w.fits (omega (arith, room)) in
        let e = g.1 in
        let same : end ≡ g.0 = cc (e, near) in
        (h, omega (arith, g.2, same), g.3))
        (λ h. let e = (w.full (omega (arith, room))).0 in absurd (true≢false (cc (e, near))))

    pub reached_behind : top ≤ end
    reached_behind = omega (arith, behind.1)

    pub puts_within : Puts b u work top limit (Ok (end - top)) (part ++ drop (2 * (top + limit)) work)
    puts_within =
        let x = substitute 0 u b in
        let many = kept_length x in
        record {
          fits = λ h.
              let count : end - top ≡ size x = omega (arith, behind.1) in
              let whole = stored_front work (kept x) (2 * top) (2 * (top + limit)) (omega arith) room_for in
              (ap Ok count, ap (λ l. l ++ drop (2 * (top + limit)) work) behind.2 ∙ whole);
          full = λ h. absurd (omega (arith, behind.0));
        }

-- The next state written to the front of the `limit` nodes from `top` on. (The code counts their words as the difference of two
-- ends.)
pub moves : (s : calculus.Next) (work : List ℕ) (top limit n : ℕ) (r : Result Stepped Halt) (part : List ℕ)
    → n ≡ 2 * limit
    → 2 * (top + limit) ≤ length work
    → Steps s (take n (drop (2 * top) work)) r part
    → Moves s work top limit r (take (2 * top) work ++ (part ++ drop n (drop (2 * top) work)))
unfolding Steps Moves
moves calculus.value work top limit n r part same room_for w = w.0
moves calculus.stuck work top limit n r part same room_for w = w.0
moves (calculus.next k x) work top limit n r part same room_for (K, kind, w) =
    let many = kept_length x in
    let rest = length-drop (2 * top) work in
    let long = length-take-le n (drop (2 * top) work) (omega arith) in (
      K,
      kind,
      λ h.
          let g = w.fits (omega arith) in
          let whole = stored_part work (kept x) (2 * top) n (omega arith) (omega arith) in
          (g.0, ap (λ l. take (2 * top) work ++ (l ++ drop n (drop (2 * top) work))) g.1 ∙ whole),
      λ h. (w.full (omega arith)).0,
    )
