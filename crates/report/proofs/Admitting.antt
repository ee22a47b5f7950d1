-- The test of the number of bytes: what it refuses is refused as a length that is not allowed, and otherwise the words are judged.
-- As every number over 2,048 is refused alike, no byte behind the first 2,049 changes a report.
use Prim.Native.Nat.{ℕ, ◌≤◌}
use mathlib.Core.Bool.{true, false}
use mathlib.Core.List.{List}
use mathlib.Core.Path.{◌≡◌, refl, sym, ap, ◌∙◌}
use native.Mathlib.Decide.{dec_le}
use native.Mathlib.Omega.{arith}
use lib.ListN.{length, take, length-take}
use lib.Seq.{take_all}
use Rattle.calculus.specs.Answer.{refused, ◌>>=◌, ◌>>◌, require, number, length_not_allowed}
use Rattle.text.specs.Pairs.{pairs, allowed}
use Rattle.text.proofs.Pairs.{over}
use Rattle.report.specs.Report.{judged, outcome, told, printed, report_of, Enough}
use Rattle.report.proofs.Judging.{refusal}

pub not_admitted : (bs : List ℕ) → allowed bs ≡ false → outcome bs ≡ refused length_not_allowed 0
unfolding outcome require ◌>>◌ ◌>>=◌
not_admitted bs e = rw e refl

-- The lines of such a refusal.
pub not_allowed : (bs : List ℕ) → allowed bs ≡ false → refusal 4 0 ≡ told (outcome bs)
unfolding told number
not_allowed bs e = rw (not_admitted bs e) refl

pub admitted : (bs : List ℕ) → allowed bs ≡ true → outcome bs ≡ judged (pairs bs)
unfolding outcome require ◌>>◌ ◌>>=◌
admitted bs e = rw e refl

pub enough : Enough
unfolding report_of
enough bs = ap (λ a. printed (told a)) (on (dec_le (length bs) 2048))
  where
    on : Dec (length bs ≤ 2048) → outcome (take 2049 bs) ≡ outcome bs
    on (yes h) = ap outcome (take_all 2049 bs (omega arith))
    on (no h) =
        not_admitted (take 2049 bs) (over (take 2049 bs) (omega (arith, length-take 2049 bs)))
        ∙ sym (not_admitted bs (over bs (omega arith)))
