-- A page that was written out: what is told of the write is what may become of it.
use Prim.Native.Nat.{ℕ, ◌≤◌}
use mathlib.Core.List.{List, []}
use mathlib.Core.Path.{◌≡◌, refl}
use lib.ListN.{length, take}
use Rattle.std.specs.Prelude.{Result, Ok, Err, Some, None, IfErr, MatchResult}
use Rattle.streams.specs.Feeds.{feeds}
use Rattle.streams.specs.declared.Cut.{Cut}
use Rattle.protocol.specs.Outputs.{sent, sum, Flushed, all, some}
use Rattle.protocol.specs.declared.output.Output.{Output}

pub flushes : {o r : Output} {page : List ℕ} (put : Result Unit Cut)
    → o.error ≡ None
    → IfErr put (λ cut. cut.count ≤ length page)
    → MatchResult put (λ _. r ≡ sent o o.answered o.error) (λ cut. r ≡ sent o (sum o.written (feeds (take cut.count page))) (Some cut.error))
    → Flushed o page r []
flushes (Ok u) none within told = rw (told, none) (all refl)
flushes (Err cut) none within told = rw told (some cut.count cut.error none within)
