-- `check` meets its contract. Each way out is one case of the demand on checks, whose premises are the tests passed on the way.
use Prim.Native.Nat.{ℕ, ◌-◌}
use mathlib.Core.List.{[]}
use mathlib.Core.Path.{◌≡◌, refl, sym, ◌∙◌}
use native.Mathlib.Omega.{arith}
use borrow.Author.Rules.{rules}
use lib.ListN.{length}
use lib.Seq.{length-take-le}
use Rattle.calculus.specs.Term.{Term}
use Rattle.calculus.specs.Words.{words, Readable}
use Rattle.calculus.specs.Outcomes.{check_room}
use Rattle.std.specs.Prelude.{Ok}
use Rattle.inference.specs.declared.Typed.{Typed}
use Rattle.calculus.specs.Checks.{limit_refused, work_refused, output_refused}
use Rattle.term.proofs.Walking.{reads_term}
use Rattle.typing.proofs.Checking.{Admitted, Asked, ok_behind, err_behind, refused_out, unread_out, whole, roomy, untyped_out, type_within, type_kept, type_fits, typed_out}
use Rattle.typing.proofs.check.Goals as goal
use Rattle.typing.proofs.check.Goals.{After-infer, After-map-found, Else-output-longest, In_ok-read, in-Ok, in_default}

pub returns-then-limit-eq0 : goal.returns-then-limit-eq0
returns-then-limit-eq0 c = refused_out c.refused.ensures (limit_refused (λ h. omega arith))

pub returns-then-work-longest : goal.returns-then-work-longest
returns-then-work-longest c = refused_out c.refused-then-work-longest.ensures (work_refused (omega arith) c.if-work-longest.true)

pub returns-then-output-longest : goal.returns-then-output-longest
returns-then-output-longest c =
    refused_out c.refused-then-output-longest.ensures (output_refused (omega arith) c.if-work-longest.false c.if-output-longest.true)

-- Past the tests of the call.
admitted : (c : goal.Else-output-longest)
    → let a = c.args in
    Admitted a.limit a.work.now a.output.now
admitted c = record { allowed = omega arith; room = c.if-work-longest.false; out = c.if-output-longest.false }

pub returns-in_err-read : goal.returns-in_err-read
returns-in_err-read c =
    unread_out c.args.term.now _ _ (admitted (goal.at.returns-in_err-read c).Else-output-longest) c.in_err-read.ensures c.from_residual.ensures.1

-- Past reading.
term_read : (c : goal.In_ok-read)
    → let ws = c.args.term.now in
    (t : Term) × (ws ≡ words t) × Readable 0 t
term_read c =
    reads_term c.args.term.now (sym c.in_ok-read.ensures)

pub slice_bounds-infer-end-2 : goal.slice_bounds-infer-end-2
slice_bounds-infer-end-2 c =
    let A = admitted (goal.at.slice_bounds-infer-end-2 c).Else-output-longest in
    let a = c.args in
    sym (length-take-le (check_room a.limit) a.work.now A.room)

pub infer-requires : goal.infer-requires
infer-requires c =
    let A = admitted (goal.at.infer-requires c).Else-output-longest in
    let g = term_read (goal.at.infer-requires c).In_ok-read in
    ([], g.0, whole A g.1 g.2 _ refl, roomy A g.1 g.2)

-- Past inference.
asked : (c : goal.After-infer)
    → let a = c.args in
    Admitted a.limit a.work.now a.output.now
    → (t : Term) × (a.term.now ≡ words t) × Readable 0 t
    → Asked a.term.now a.limit a.work.now a.output.now c.infer.result c.infer.new.work
asked c A g =
    let ws = c.args.term.now in
    record {
      admitted = A;
      term = g.0;
      coded = g.1;
      readable = g.2;
      place = length ws - length ws;
      outermost = omega arith;
      places = _;
      places' = _;
      infers = c.infer.ensures [] g.0 (whole A g.1 g.2 _ refl);
      same = c.infer.auto.work;
    }

-- The length of the type that was found.
typed : (c : goal.After-map-found) {n : ℕ} → c.map-found.result ≡ Ok n → (x : Typed) × (c.infer.result ≡ Ok x) × (n ≡ x.length)
typed c {n} q =
    let (x, e, h) = ok_behind _ c.infer.result c.map-found.result c.map-found.ensures.cases q in
    (x, e, grind arith)

pub slice_bounds-spell-end : goal.slice_bounds-spell-end
slice_bounds-spell-end c =
    let p = goal.at.slice_bounds-spell-end c in
    let x = typed p.After-map-found c.in-Ok.is in
    type_within (asked p.After-infer (admitted p.Else-output-longest) (term_read p.In_ok-read)) x.1 x.2

pub slice_bounds-spell-end-in-Ok : goal.slice_bounds-spell-end-in-Ok
slice_bounds-spell-end-in-Ok c = sym (length-take-le _ _ (slice_bounds-spell-end c))

pub spell-requires : goal.spell-requires
spell-requires c =
    let p = goal.at.spell-requires c in
    let x = typed p.After-map-found c.in-Ok.is in
    let a = asked p.After-infer (admitted p.Else-output-longest) (term_read p.In_ok-read) in
    (_, type_kept a x.1 x.2, type_fits a x.1 x.2)

pub overflow_mul-length : goal.overflow_mul-length
overflow_mul-length c =
    let within = slice_bounds-spell-end c in
    search rules

pub returns : goal.returns
returns c =
    let p = goal.at.returns c in
    let a = asked p.After-infer (admitted p.Else-output-longest) (term_read p.In_ok-read) in
    elim c.match-found.branch [
      | in-Ok w ↦
          let x = typed p.After-map-found w.in-Ok.is in
          typed_out a x.1 x.2 w.found-is w.output-is w.spell.ensures c.clear.ensures
      | in_default w ↦
          let e = err_behind _ c.infer.result c.map-found.result c.map-found.ensures.cases w.in_default.is in
          untyped_out a e (w.found-is ∙ w.in_default.is) w.output-is c.clear.ensures
    ]
