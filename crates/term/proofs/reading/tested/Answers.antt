-- `tested` meets its contract: a word that has a level and the binders that it needs passes all tests, and where one fails each
-- return answers the first that does.
use mathlib.Core.Bool.{false, true≢false}
use mathlib.Core.Path.{◌≡◌, sym, ap, ◌∙◌, subst}
use native.Mathlib.Nat.{pos_of_ne-zero}
use native.Mathlib.Omega.{arith}
use lib.Dec.{T}
use Rattle.calculus.specs.Meaning.{meaning}
use Rattle.calculus.specs.Scan.{means}
use Rattle.calculus.proofs.Comparisons.{le_leb, gt_leb}
use Rattle.term.specs.Subterms.{inside}
use Rattle.term.proofs.Visits.{meaningless, too_deep, outside, passes, unread, meant}
use Rattle.term.proofs.reading.tested.Goals as goal
use Rattle.term.proofs.reading.tested.Goals.{else-room-gt0-via-then-room-gt0+else-from-binders, else-room-gt0-via-else-room-gt0, in-Nothing, in_default, Else-matches}

pub returns-then-from-binders : goal.returns-then-from-binders
returns-then-from-binders c p =
    passes
    _ _ _ p
    (sym (c.needed.ensures c.args.binders c.requires)
    ∙ le_leb c.needed.result c.args.binders (omega (arith, c.from.ensures, c.if-from-binders.true)))
    c.if-room-gt0.true

pub returns-then-matches : goal.returns-then-matches
returns-then-matches c p =
    let m = c.classify in
    elim c.match-matches.branch [
      | in-Nothing w ↦ meaningless _ _ _ p (ap means (sym m.ensures) ∙ unread m.result w.in-Nothing.is)
      | in_default w ↦ absurd (true≢false (sym c.if-matches.true ∙ w.matches-is))
    ]

-- A word behind the test for 5 is one that is read.
something : (c : Else-matches) → T (means (meaning c.args.word))
something c =
    let m = c.classify in
    elim c.match-matches.branch [
      | in-Nothing w ↦ absurd (true≢false (sym w.matches-is ∙ c.if-matches.false))
      | in_default w ↦ subst (λ x. T (means x)) m.ensures (meant m.result w.in_default.not-Nothing w.in_default.not-Name)
    ]

pub returns-then-room-eq0 : goal.returns-then-room-eq0
returns-then-room-eq0 c p = too_deep _ _ _ p (something (goal.at.returns-then-room-eq0 c).Else-matches) c.if-room-eq0.true

-- A word that did not pass, though it has a level, has not the binders that it needs.
pub returns : goal.returns
returns c p =
    let few : inside (meaning c.args.word) c.args.binders ≡ false =
    elim c.else-room-gt0.branch [
      | else-room-gt0-via-then-room-gt0+else-from-binders w ↦
          sym (w.needed.ensures c.args.binders c.requires)
          ∙ gt_leb w.needed.result c.args.binders (omega (arith, w.from.ensures, w.if-from-binders.false))
      | else-room-gt0-via-else-room-gt0 w ↦ absurd (omega (arith, w.if-room-gt0.false, pos_of_ne-zero c.if-room-eq0.false))
    ]
    in
    outside _ _ _ p (something (goal.at.returns c).Else-matches) (pos_of_ne-zero c.if-room-eq0.false) few
