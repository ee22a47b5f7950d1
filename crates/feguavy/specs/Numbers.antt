-- The numbers of documents 01 and 02 for the outcomes of the calls, as the structs of C and Rust hold them.
use Rattle.std.specs.Prelude.{ℕ, List, ◌≡◌}
use Rattle.calculus.specs.Answer.{Answer, ok, refused, number}
use Rattle.calculus.specs.Run.{end_number}
use Rattle.calculus.specs.Outcomes as calculus
use Rattle.feguavy.specs.declared.CheckedNumbers.{CheckedNumbers}
use Rattle.feguavy.specs.declared.RanNumbers.{RanNumbers}
use Rattle.feguavy.specs.declared.FoundNumbers.{FoundNumbers}

-- A check: 0, 0 and the length, or the number of the refusal, its place and 0.
unfoldable pub checked_numbers : Answer ℕ → CheckedNumbers
checked_numbers (ok n) = record { answer = 0; place = 0; length = n }
checked_numbers (refused r p) = record { answer = number r; place = p; length = 0 }

pub record NumberedCheck (c : calculus.Checked) (r : CheckedNumbers) (W O : List ℕ) : Type 0 where
  pub numbers : r ≡ checked_numbers c.answer
  pub work : W ≡ c.work
  pub output : O ≡ c.output

-- A run: 0, 0, the end and the steps, in all and by kind, or the number of the refusal, its place and 0s; and the desk.
unfoldable pub ran_numbers : Answer calculus.Stop → calculus.Desk → RanNumbers
ran_numbers (ok s) left =
    record {
      answer = 0;
      place = 0;
      end = end_number s.end;
      steps = s.steps;
      substitutions = s.counts.substitutions;
      unfoldings = s.counts.unfoldings;
      cancellations = s.counts.cancellations;
      desk = record { allowances = left };
    }
ran_numbers (refused r p) left =
    record {
      answer = number r;
      place = p;
      end = 0;
      steps = 0;
      substitutions = 0;
      unfoldings = 0;
      cancellations = 0;
      desk = record { allowances = left };
    }

pub record NumberedRun (c : calculus.Ran) (r : RanNumbers) (W S : List ℕ) : Type 0 where
  pub numbers : r ≡ ran_numbers c.answer c.desk
  pub work : W ≡ c.work
  pub state : S ≡ c.state

-- A part lookup, with its place.
abbrev pub found_numbers : FoundNumbers → calculus.Found
found_numbers f = record { start = f.start; extent = f.length }
