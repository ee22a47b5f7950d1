-- `fed_line` meets its contract: at a line feed and at the end of what there is the line is read; any other byte is one more.
use native.Mathlib.Omega.{arith}
use Rattle.protocol.proofs.Lining.{lined_start, lined_feed, lined_end, lined_next, whole_rest, whole_none}
use Rattle.protocol.proofs.request.Request.fed_line.Goals as goal

pub returns-in_default : goal.returns-in_default
returns-in_default c =
    let whole = whole_none c.args.input.now c.args.from _ (omega (arith, c.in_default.ensures.lookup)) in
    record { words_after = whole.0; at_value = whole.1 }

pub loop-read-init : goal.loop-read-init
loop-read-init c = lined_start _ _

pub returns-then-byte-eq10 : goal.returns-then-byte-eq10
returns-then-byte-eq10 c =
    let whole =
    whole_rest c.args.input.now c.args.from c.in-Some.ensures.lookup.0.2
    (lined_feed c.loop-read.invariant (omega arith) c.if-byte-eq10.true) in
    record { words_after = whole.0; at_value = whole.1 }

pub loop-read-preserved : goal.loop-read-preserved
loop-read-preserved c =
    lined_next c.loop-read.invariant (omega arith) c.if-byte-eq10.false c.fed-line.ensures c.fed-line.auto.words

pub returns : goal.returns
returns c =
    let whole =
    whole_rest c.args.input.now c.args.from c.in-Some.ensures.lookup.0.2
    (lined_end c.loop-read.invariant (omega arith)) in
    record { words_after = whole.0; at_value = whole.1 }
