-- `step` meets its contract: the redex that is found is the term's, and its rule gives the next state; where there is none, the
-- term is a value or stuck.
use mathlib.Core.Path.{◌≡◌, sym, ap, ◌∙◌}
use Rattle.std.specs.Prelude.{Ok}
use Rattle.calculus.specs.Term.{Term}
use Rattle.calculus.specs.Book.{Book}
use Rattle.book.specs.Layout.{Holds, sight}
use Rattle.reduction.specs.declared.stepping.Redex.{Redex}
use Rattle.reduction.specs.Stepping.{Keeps, Located, Within, locate}
use Rattle.std.proofs.lemmas.Result.{err_from_is_err_and}
use Rattle.reduction.proofs.Placing.{stays}
use Rattle.reduction.proofs.stepping.step.Goals as goal
use Rattle.reduction.proofs.stepping.step.Goals.{After-find_redex, After-unfold, Start}

-- The redex that was found, of whatever term the state keeps.
located : (c : goal.After-find_redex) {r : Redex}
    → c.find_redex.result ≡ Ok r
    → let a = c.args in
    (B : Book) (t : Term) → Holds B a.book.now → Keeps B t a.state.now → locate (sight a.reader B) t ≡ Ok r
located c told B t held keeps = sym (c.find_redex.ensures B t held keeps) ∙ told

somewhere : (c : goal.After-find_redex) {r : Redex}
    → c.find_redex.result ≡ Ok r
    → Located c.args.state.now r
somewhere c told =
    let p = c.requires.0 in (
      sight c.args.reader p.lent,
      p.term,
      p.keeps.coded,
      p.keeps.has_words,
      p.short,
      located c told p.lent p.term p.holds p.keeps,
    )

within : (c : goal.Start) → Within c.args.state.now c.args.closed
within c =
    let p = c.requires.0 in
    record { term = p.term; coded = p.keeps.coded; short = p.short; scoped = p.scoped; shut = p.shut }

pub find_redex-requires : goal.find_redex-requires
find_redex-requires c =
    let p = c.requires.0 in
    (p.lent, p.term, p.holds, p.keeps)

pub beta-requires : goal.beta-requires
beta-requires c =
    let w = (goal.at.beta-requires c).After-find_redex in
    let s = (goal.at.beta-requires c).Start in
    (within s, somewhere w (c.in_ok-at.was ∙ ap Ok c.in-Beta.is), s.requires.1)

pub unfold-requires : goal.unfold-requires
unfold-requires c =
    let w = (goal.at.unfold-requires c).After-find_redex in
    let s = (goal.at.unfold-requires c).Start in
    (within s, somewhere w (c.in_ok-at.was ∙ ap Ok c.in-Unfold.is), s.requires.1)

pub cancel-requires : goal.cancel-requires
cancel-requires c =
    let w = (goal.at.cancel-requires c).After-find_redex in
    (somewhere w (c.in_ok-at.was ∙ ap Ok c.in-Cancel.is), w.requires.1)

pub unfold_name-requires : goal.unfold_name-requires
unfold_name-requires c =
    let w = (goal.at.unfold_name-requires c).After-find_redex in
    let p = c.requires.0 in
    ((p.lent, p.term, p.holds, p.keeps), somewhere w (c.in_ok-at.was ∙ ap Ok c.in-Name.is), c.requires.1)

pub returns-in_err-at : goal.returns-in_err-at
returns-in_err-at c B t held keeps =
    let (halt, is, same) = err_from_is_err_and c.from_residual.result c.from_residual.ensures.1 in
    rw (is, same) (stays _ _ t _ (sym (c.find_redex.ensures B t held keeps) ∙ c.in_err-at.was))

pub returns-in-Beta : goal.returns-in-Beta
returns-in-Beta c B t held keeps = c.beta.ensures _ t keeps.coded keeps.has_words

pub returns-in-Unfold : goal.returns-in-Unfold
returns-in-Unfold c B t held keeps = (goal.at.returns-in-Unfold c).After-unfold.«unfold».ensures _ t keeps.coded keeps.has_words

pub returns-in-Cancel : goal.returns-in-Cancel
returns-in-Cancel c B t held keeps = c.cancel.ensures _ t keeps.coded keeps.has_words

pub returns-in-Name : goal.returns-in-Name
returns-in-Name c B t held keeps =
    let w = (goal.at.returns-in-Name c).After-find_redex in
    let who = w.args.reader in
    c.unfold_name.ensures who B t held keeps (located w (c.in_ok-at.was ∙ ap Ok c.in-Name.is) B t held keeps)
