-- A caller gets what it got at a desk with its allowance alone: the tests and the grant are the same, and so is what is left.
use Prim.Native.Nat.{ℕ}
use mathlib.Core.List.{List}
use mathlib.Core.Path.{◌≡◌, refl, sym, ap}
use lib.ListN.{set}
use lib.Seq.{set-get_or}
use Rattle.calculus.specs.Answer.{Answer, ok, refused, ◌>>=◌, ◌>>◌, require}
use Rattle.calculus.specs.Run.{Ended}
use Rattle.calculus.specs.Outcomes.{run_room, Desk, last_caller, alone, allowance_of, lowered, course, ran, run_by}
use Rattle.calculus.specs.Changes.{AsAlone}
use Rattle.calculus.proofs.Comparisons.{le_leb}

-- By what the course of the run is.
left_alone : (caller : ℕ) (desk : Desk) (W S : List ℕ) (a : Answer Ended)
    → ran run_room caller desk W S a ≡ record {
      answer = (ran run_room 0 (alone (allowance_of desk caller)) W S a).answer;
      desk = set desk caller (allowance_of (ran run_room 0 (alone (allowance_of desk caller)) W S a).desk 0);
      work = (ran run_room 0 (alone (allowance_of desk caller)) W S a).work;
      state = (ran run_room 0 (alone (allowance_of desk caller)) W S a).state;
    }
unfolding ran lowered
left_alone caller desk W S (ok e) = refl
left_alone caller desk W S (refused r p) = ap (λ d. record { answer = refused r p; desk = d; work = W; state = S }) (sym (set-get_or desk caller 0))

pub as_alone : AsAlone
unfolding run_by course require ◌>>◌ ◌>>=◌
as_alone B ws budget caller desk W S k = rw (le_leb caller last_caller k) (left_alone caller desk W S _)
