-- A type that was written where its parts' types lay is found there.
use Prim.Native.Nat.{ℕ, ◌+◌, ◌*◌, ◌≤◌}
use mathlib.Core.List.{List}
use mathlib.Core.Path.{◌≡◌, ◌∙◌}
use native.Mathlib.Nat.{le_refl}
use lib.ListN.{length, take}
use lib.Seq.{sets}
use Rattle.calculus.specs.Term.{Term, size}
use Rattle.term.specs.Kept.{kept}
use Rattle.kept.proofs.Stores.{take_sets}
use Rattle.std.specs.Prelude.{Ok}
use Rattle.inference.specs.Inference.{TypeFound}
use Rattle.inference.proofs.KeptTypes.{written}

pub written_type : {places places' work after : List ℕ} {depth top n m k : ℕ} (before : List ℕ) (τ : Term)
    → n ≡ k
    → m ≡ size τ
    → after ≡ sets before (2 * top) (kept τ)
    → 2 * (top + size τ) ≤ length before
    → take (2 * top) before ≡ take (2 * top) work
    → take depth places' ≡ take depth places
    → length places' ≡ length places
    → TypeFound τ k places depth work top (Ok (record { read = n; length = m })) after places'
written_type {after} {top} before τ reads long x room front context wide =
    record {
      answer = cc;
      lies = written before top τ x room;
      front = rw x (take_sets (2 * top) before (2 * top) (kept τ) (le_refl (2 * top)) ∙ front);
      context = context;
      wide = wide;
    }
