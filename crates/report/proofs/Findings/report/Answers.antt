-- `report` meets its contract: six lines one behind the other, which fit.
use mathlib.Core.List.{[]}
use native.Mathlib.Omega.{arith}
use mathlib.Core.Path.{◌≡◌}
use Rattle.text.specs.Appending.{appended}
use Rattle.text.specs.Texts.{ascii}
use Rattle.text.proofs.Appended.{both, whole}
use Rattle.report.specs.Report.{Lines, line, printed}
use Rattle.report.specs.declared.TheConstants.{ROOM}
use Rattle.report.proofs.Room.{printed_length, Short}
use Rattle.report.proofs.Findings.report.Goals as goal

whole_page : (c : goal.After-list_line-2) → appended ROOM [] (printed c.args.self.now) ≡ printed c.args.self.now
whole_page c =
    let f = c.self.inside in
    let found : Lines = record { answer = f.answer; place = f.place; type = f.typ; end = f.end; steps = f.steps; state = f.state } in
    let short : Short found = record {
      answer = c.line.ensures.short;
      place = c.line-2.ensures.short;
      type = rw c.words.ensures.words at c.list_line.ensures.short;
      end = c.line-3.ensures.short;
      steps = c.line-4.ensures.short;
      state = rw c.words-2.ensures.words at c.list_line-2.ensures.short;
    } in
    rw (← c.self.view_is)
    (whole ROOM [] (printed found) (omega (arith, printed_length found short, c.words.ensures.within, c.words-2.ensures.within)))

pub returns : goal.returns
unfolding printed line ascii
returns c =
    rw (c.list_line-2.ensures.appends, c.line-4.ensures.appends, c.line-3.ensures.appends)
    (rw (c.list_line.ensures.appends, c.line-2.ensures.appends, c.line.ensures.appends, c.new-page.ensures)
    (rw (c.words.ensures.words, c.words-2.ensures.words, ← c.self.view_is) (simp both (rw (← c.self.view_is) at (whole_page c)))))
