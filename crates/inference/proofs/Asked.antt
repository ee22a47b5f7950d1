-- A node of two parts, which `K` makes: its own function is asked for what `infer` was asked for, and answers it.
use Prim.Native.Nat.{ℕ, ◌+◌, ◌*◌, ◌<◌}
use mathlib.Core.List.{List}
use mathlib.Core.Path.{◌≡◌}
use native.Mathlib.Omega.{arith}
use lib.ListN.{length}
use Rattle.calculus.specs.Term.{Term}
use Rattle.calculus.specs.Rules.{Context}
use Rattle.std.specs.Prelude.{Result}
use Rattle.inference.specs.declared.Typed.{Typed}
use Rattle.term.specs.declared.refusal.Refusal.{Refusal}
use Rattle.inference.specs.Inference.{Subject, Roomy, Infers, judge}
use Rattle.inference.proofs.Rooms.{roomy_renamed}
use Rattle.inference.proofs.Subjects.{renamed}
use Rattle.book.specs.declared.Reader.{Reader}

module _ (K : Term → Term → Term) {book : List ℕ} {Γ : Context} {e : Term} {term sub places : List ℕ} {depth : ℕ}
    (S : Subject book Γ e term sub places depth) (node : (a : Term) × (b : Term) × (e ≡ K a b)) where
  pub asked : {work : List ℕ} {top limit t : ℕ}
      → Roomy e work top limit
      → 3 * length sub + 1 ≡ t
      → (3 * length sub < t)
      × ((Δ : Context) × (a : Term) × (b : Term) × Subject book Δ (K a b) term sub places depth × Roomy (K a b) work top limit)
  asked R words = (omega arith, (Γ, node.0, node.1, renamed S node.2, roomy_renamed R node.2))

  pub answered : (who : Reader) (L p : ℕ) {work : List ℕ} {top : ℕ} {r : Result Typed Refusal} {after places' : List ℕ}
      → ((a b : Term) → Subject book Γ (K a b) term sub places depth → Infers (judge who book L Γ p (K a b))
      (K a b) places depth work top r after places')
      → Infers (judge who book L Γ p e) e places depth work top r after places'
  answered who L p f = rw node.2 (f node.0 node.1 (renamed S node.2))
