-- What a node asks for a part `d` of it that stands behind the first word and `n` others: fewer words, by the measure of `infer` or
-- of `star_part`, the part as a subject, and its room.
use Prim.Native.Nat.{ℕ, ◌+◌, ◌*◌, ◌≤◌, ◌<◌}
use mathlib.Core.List.{List}
use mathlib.Core.Path.{◌≡◌}
use native.Mathlib.Omega.{arith}
use lib.ListN.{length}
use Rattle.calculus.specs.Term.{Term}
use Rattle.calculus.specs.Words.{levels}
use Rattle.calculus.specs.Rules.{Context}
use Rattle.inference.specs.Inference.{Subject, Roomy}
use Rattle.inference.proofs.Subjects.{behind, behind_length, subject_some}
use Rattle.inference.proofs.Rooms.{roomy_part}

pub part_asked : {book : List ℕ} {Γ Δ : Context} {e d : Term} {term sub places places' work work' : List ℕ}
    {depth depth' top top' limit t : ℕ} (n more : ℕ)
    → more ≤ 2
    → 3 * length sub ≡ t
    → Subject book Γ e term sub places depth
    → Roomy e work top limit
    → Subject book Δ d term (behind (1 + n) sub) places' depth'
    → levels d < levels e
    → length work' ≡ length work
    → top' ≤ top + limit
    → (3 * length (behind (1 + n) sub) + more < t)
    × ((Θ : Context) × (a : Term) × Subject book Θ a term (behind (1 + n) sub) places' depth' × Roomy a work' top' limit)
part_asked {sub = sub} n more few words S R D deep long fits =
    (omega (arith, behind_length (1 + n) sub, subject_some S), (_, _, D, roomy_part R deep long fits))
