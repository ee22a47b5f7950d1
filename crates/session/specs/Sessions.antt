-- What a session does with the bytes that it reads, whatever the device does with its answers.
use Rattle.std.specs.Prelude.{ℕ, suc, ◌≤◌, ◌<◌, Bool, true, false, cond, IsSome, List, None, ◌≡◌, length, drop}
use Rattle.calculus.specs.Outcomes.{alone}
use Rattle.evaluation.specs.declared.Desk.{Desk}
use Rattle.protocol.specs.Answers.{reply, ended_by_feed}
use Rattle.protocol.specs.Desks.{Serving, served, served_line, granted_at, Serves}
use Rattle.protocol.specs.Forms.{granted}
use Rattle.protocol.specs.Outputs.{none_yet, one_more, Flushed, Ready, Roomy}
use Rattle.protocol.specs.Requests.{line_of, unread, field_end, fed_line, line_length}
use Rattle.protocol.specs.declared.output.Output.{Output}
use Rattle.protocol.specs.declared.request.Request.{Request}
use Rattle.session.specs.declared.Session.{Session}

-- A session in which nothing is read yet, with no allowance for anyone.
abbrev pub begun : Bool → Session
begun keeps =
    record {
      request = unread;
      output = none_yet;
      desk = record { allowances = alone 0 };
      keeps = keeps;
    }

abbrev pub with_request : Session → Request → Session
with_request s q = record { request = q; output = s.output; desk = s.desk; keeps = s.keeps }

abbrev pub with_output : Session → Output → Session
with_output s o = record { request = s.request; output = o; desk = s.desk; keeps = s.keeps }

-- The steps granted to the run that the request asks for; and its answer, a line, with the desk after it: where the desk is kept, given
-- the one that the requests before it left, and else by itself.
unfoldable pub granted_in : Session → ℕ
granted_in s = cond s.keeps (granted_at s.request s.desk.allowances) (granted s.request)

unfoldable pub answer_in : Session → List ℕ → List ℕ → Serving
answer_in s ws W =
    cond s.keeps (served_line (served s.request s.desk.allowances ws W))
    (record { reply = ended_by_feed (reply s.request ws W); desk = s.desk.allowances })

-- A session with the words of the request being read, the working slice, and the page of the answers that wait to be written.
pub record Place : Type 0 where
  pub session : Session
  pub words : List ℕ
  pub work : List ℕ
  pub page : List ℕ

abbrev pub place : Session → List ℕ → List ℕ → List ℕ → Place
place s ws W page = record { session = s; words = ws; work = W; page = page }

-- The request is at its end.
unfoldable pub line_end : Place → Place
line_end p =
    let l = field_end p.session.request p.words in
    place (with_request p.session l.request) l.words p.work p.page

-- The bytes up to the first line feed are read.
unfoldable pub line_read : List ℕ → Place → Place
line_read bs p =
    let l = fed_line (line_of p.session.request p.words) bs in
    place (with_request p.session l.request) l.words p.work p.page

-- The output is written out.
pub data Flushes (p : Place) : Place → Type 0 where
  flushes : {o : Output} {page : List ℕ} → Flushed p.session.output p.page o page
      → Flushes p (place (with_output p.session o) p.words p.work page)

-- `Answers N p q`: the request is answered on a page of N bytes, with the answers before it written out first where it may take long, and
-- room made behind it for the next; or these cannot be written, and it is not.
pub data Answers (N : ℕ) (p : Place) : Place → Type 0 where
  withheld : {o : Output} {page : List ℕ} → Ready p.session.output (granted_in p.session) p.page o page → IsSome o.error
      → Answers N p (place (with_output p.session o) p.words p.work page)
  answered : {o o' : Output} {desk : Desk} {W page page' page'' : List ℕ}
      → Ready p.session.output (granted_in p.session) p.page o page → o.error ≡ None
      → Serves N (answer_in p.session p.words p.work) W page desk page'
      → Roomy N (one_more o) page' o' page''
      → Answers N p (place (record { request = unread; output = o'; desk = desk; keeps = p.session.keeps }) p.words W page'')

-- `Takes N bs p q`: the bytes are read line by line, and each line is answered; once an answer cannot be written, nothing more is read.
pub data Takes (N : ℕ) : List ℕ → Place → Place → Type 0 where
  unended : {bs : List ℕ} {p : Place} → length bs ≤ line_length bs → Takes N bs p (line_read bs p)
  stopped : {bs : List ℕ} {p q : Place} → line_length bs < length bs
      → Answers N (line_end (line_read bs p)) q → IsSome q.session.output.error
      → Takes N bs p q
  further : {bs : List ℕ} {p q r : Place} → line_length bs < length bs
      → Answers N (line_end (line_read bs p)) q → q.session.output.error ≡ None → Takes N (drop (suc (line_length bs)) bs) q r
      → Takes N bs p r

-- What was read at one go, with every answer to it written out.
pub data TakesChunk (N : ℕ) (bs : List ℕ) (p : Place) : Place → Type 0 where
  chunk : {q r : Place} → Takes N bs p q → Flushes q r → TakesChunk N bs p r

-- The end of the input: "a last line with no line feed is a line".
pub data Finishes (N : ℕ) (p : Place) : Place → Type 0 where
  all_read : p.session.request.any ≡ false → Finishes N p p
  last_line : {q r : Place} → p.session.request.any ≡ true → Answers N (line_end p) q → Flushes q r → Finishes N p r

-- `Turns N p over q`: something is read, for some bytes: what a device gives is not in the logic. Where it cannot be read, at its end,
-- and where an answer could not be written, it is over.
pub data Turns (N : ℕ) (p : Place) : Bool → Place → Type 0 where
  unreadable : Turns N p true p
  finished : {q : Place} → Finishes N p q → Turns N p true q
  failed : {q : Place} (bs : List ℕ) → TakesChunk N bs p q → IsSome q.session.output.error → Turns N p true q
  going_on : {q : Place} (bs : List ℕ) → TakesChunk N bs p q → q.session.output.error ≡ None → Turns N p false q

-- Turn after turn, until it is over, or for as many turns as are counted.
pub data Lasts (N : ℕ) : Place → Place → Type 0 where
  counted_out : {p : Place} → Lasts N p p
  last : {p q : Place} → Turns N p true q → Lasts N p q
  again : {p q r : Place} → Turns N p false q → Lasts N q r → Lasts N p r
