use Prim.Native.Nat.{◌<◌, ◌/◌}
use mathlib.Core.List.{◌++◌}
use mathlib.Core.Path.{◌≡◌, ap, ap₂, ◌∙◌}
use native.Mathlib.Omega.{arith}
use lib.ListN.{length, get_or, take, drop, set, length-take}
use lib.Seq.{sets}
use Rattle.text.specs.Pairs.{pairs}
use Rattle.text.proofs.Pairs.{length_pairs, pairs_at, store_next, front_stored}
use Rattle.text.proofs.words.of_bytes.Goals as goal

pub loop-i-preserved : goal.loop-i-preserved
loop-i-preserved c =
    let bytes = c.args.bytes.now in
    let count = c.min-count.result in
    let front = take count c.args.words.now in
    let i = c.loop-i.i in
    let inside : i < length bytes / 2 = omega (arith, length-take count c.args.words.now) in
    let value : c.from_le_bytes.result ≡ get_or (pairs bytes) i 0 = omega (arith, pairs_at bytes i inside) in
    ap₂ (λ l w. set l i w) c.loop-i.invariant value
    ∙ store_next (pairs bytes) front i (omega (arith, length_pairs bytes))

pub returns : goal.returns
returns c =
    let bytes = c.args.bytes.now in
    let words = c.args.words.now in
    let count = c.min-count.result in
    let end : c.loop-i.i ≡ count = omega (arith, length-take count words) in
    ap (λ l. l ++ drop count words)
    (c.loop-i.invariant ∙ ap (λ n. sets (take count words) 0 (take n (pairs bytes))) end)
    ∙ front_stored (pairs bytes) words count (omega (arith, length_pairs bytes))
