-- Requests that depend on those before them (docs/FORMAT.md, The desk): the reply to each, and the desk that the next one finds.
use Rattle.std.specs.Prelude.{ℕ, Bool, false, Option, Some, List, ◌++◌, ◌≡◌, take}
use Rattle.calculus.specs.Outcomes.{Desk, grant, run}
use Rattle.text.specs.Texts.{ascii, spaced}
use Rattle.protocol.specs.Answers.{Reply, lent, ran_line, reply, ended_by_feed, Replies}
use Rattle.protocol.specs.Forms.{asked, granted}
use Rattle.evaluation.specs.declared.Desk as evaluation
use Rattle.protocol.specs.declared.asked.Asked.{Asked}
use Rattle.protocol.specs.declared.asked.Asked.TheVariants.{DeskNew, DeskRun, DeskShow}
use Rattle.protocol.specs.declared.request.Request.{Request}

-- A reply, and the desk after it.
pub record Serving : Type 0 where
  pub reply : Reply
  pub desk : Desk

-- `ran END STEPS LEFT | WORDS`, with the counts where they are asked for, or the refusal.
abbrev pub run_for : Bool → List ℕ → ℕ → ℕ → Desk → List ℕ → Serving
run_for kinds ws budget caller desk W =
    let c = run ws budget caller desk W lent in
    record { reply = record { text = ran_line kinds caller c; work = c.work }; desk = c.desk }

-- `ok`: the eight numbers are the desk from now on. `desk ALLOWANCE …`: the desk as it is. What is about no desk is answered by itself.
abbrev pub serving : Option Asked → Desk → List ℕ → List ℕ → Reply → Serving
serving (Some (DeskNew allowances)) desk ws W alone = record { reply = record { text = ascii "ok"; work = W }; desk = allowances }
serving (Some (DeskRun caller budget)) desk ws W alone = run_for false ws budget caller desk W
serving (Some DeskShow) desk ws W alone = record { reply = record { text = ascii "desk" ++ spaced desk; work = W }; desk = desk }
serving _ desk ws W alone = record { reply = alone; desk = desk }

unfoldable pub served : Request → Desk → List ℕ → List ℕ → Serving
served q desk ws W = serving (asked q) desk (take q.count ws) W (reply q ws W)

-- The steps granted to the run that a request asks for, 0 where it asks for none.
unfoldable pub granted_at : Request → Desk → ℕ
granted_at q desk =
    elim (asked q) [
      | Some (DeskRun caller budget) ↦ grant budget caller desk
      | _ ↦ granted q
    ]

abbrev pub served_line : Serving → Serving
served_line a = record { reply = ended_by_feed a.reply; desk = a.desk }

-- `Serves N a W' page r page'`: the reply is appended to a page of N bytes, and the desk `r` is the one after it.
pub record Serves (N : ℕ) (a : Serving) (W' page : List ℕ) (r : evaluation.Desk) (page' : List ℕ) : Type 0 where
  pub replies : Replies N a.reply W' page page'
  pub desk : r.allowances ≡ a.desk
