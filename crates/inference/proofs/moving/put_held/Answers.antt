-- `put_held` meets its contract: what substitution puts into the first nodes of the working slice is the codomain with the
-- argument put in, which fits the limit if and only if the node reached is not behind them.
use Prim.Native.Nat.{◌+◌, ◌-◌, ◌*◌}
use mathlib.Core.Path.{◌≡◌}
use native.Mathlib.Omega.{arith}
use lib.ListN.{take}
use lib.Seq.{length-take-le}
use Rattle.calculus.specs.Term.{Term, substitute}
use Rattle.calculus.specs.Words.{Worded, longest}
use Rattle.term.specs.Kept.{Lies, kept}
use Rattle.term.proofs.Keeping.{lies_within}
use Rattle.kept.specs.Writing as reduction
use Rattle.term.specs.declared.refusal.Reason.TheVariants.{OverLimit}
use Rattle.std.proofs.lemmas.Result.{err_from_is_err_and}
use Rattle.inference.proofs.Holding.{body_subject, codomain_worded, argument_worded, argument_cut, argument_asked}
use Rattle.inference.proofs.Lent.{reached_behind, puts_over, puts_within}
use Rattle.inference.proofs.moving.put_held.Goals as goal
use Rattle.inference.proofs.moving.put_held.Goals.{After-substitute}

pub slice_bounds-substitute-end : goal.slice_bounds-substitute-end
slice_bounds-substitute-end c =
    let H = c.requires.2 in
    omega (arith, lies_within H.back, H.extent)

pub substitute-requires : goal.substitute-requires
substitute-requires c =
    let H = c.requires.2 in
    let n = 2 * (1024 + c.args.count) - 2048 in
    let long = length-take-le (2 * (c.args.top + c.args.limit)) c.args.work.now c.requires.0 in (
      omega (arith, long),
      omega (arith, long),
      (H.codomain, body_subject H, omega (arith, H.short.0)),
      (H.argument, argument_asked H n (omega arith)),
    )

-- What is put.
module _ (c : goal.After-substitute) (b u : Term) where
  puts : Lies b c.args.held.now 0
      → Worded b
      → Lies u c.args.held.now longest
      → Worded u
      → reduction.Puts (kept (substitute 0 u b)) (take (2 * (c.args.top + c.args.limit)) c.args.work.now) c.args.top
      c.substitute.result c.substitute.new.out
  puts h hb k hu =
      let n = 2 * (1024 + c.args.count) - 2048 in
      c.substitute.ensures b u h hb (argument_cut c.requires.2 n (omega arith) u k hu) hu

pub returns-in_err-reached : goal.returns-in_err-reached
returns-in_err-reached c b u h hb k hu =
    let v = (goal.at.returns-in_err-reached c).After-substitute in
    let p = err_from_is_err_and c.from_residual.result c.from_residual.ensures.1 in
    let q : c.in_err-reached.field-0.0 ≡ OverLimit = grind arith in
    rw (p.1, p.2, q) (puts_over b u c.args.work.now c.args.top c.args.limit c.requires.0 (puts v b u h hb k hu) (grind arith))

pub overflow_sub-result : goal.overflow_sub-result
overflow_sub-result c =
    let v = (goal.at.overflow_sub-result c).After-substitute in
    let H = c.requires.2 in
    reached_behind H.codomain H.argument c.args.work.now c.args.top c.args.limit c.requires.0
    (puts v H.codomain H.argument H.front (codomain_worded H) H.back (argument_worded H)) (grind arith)

pub returns : goal.returns
returns c b u h hb k hu =
    let v = (goal.at.returns c).After-substitute in
    puts_within b u c.args.work.now c.args.top c.args.limit c.requires.0 (puts v b u h hb k hu) (grind arith)
