-- What may become of the answers that wait on a page to be written, whatever the device does with them.
use Rattle.std.specs.Prelude.{ℕ, ◌+◌, ◌-◌, ◌^◌, ◌≤◌, ◌<◌, min, List, [], Option, Some, None, IsSome, ◌≡◌, length, take}
use Rattle.streams.specs.Feeds.{feeds}
use Rattle.streams.specs.declared.Errno.{Errno}
use Rattle.protocol.specs.declared.output.Output.{Output}

-- The sum, or the largest number of 64 bits.
abbrev pub sum : ℕ → ℕ → ℕ
sum a b = min (a + b) (2 ^ 64 - 1)

-- Nothing is answered yet.
abbrev pub none_yet : Output
none_yet = record { answered = 0; written = 0; error = None }

-- With one more answer.
abbrev pub one_more : Output → Output
one_more o = record { answered = sum o.answered 1; written = o.written; error = o.error }

-- `written` answers are written out, and `error` keeps the rest from it.
abbrev pub sent : Output → ℕ → Option Errno → Output
sent o written error = record { answered = o.answered; written = written; error = error }

-- `Flushed o page r page'`: an output that failed once stays, with its page. Otherwise the page is empty, and all that was answered is
-- written, or an error says that it is not, and as many more answers are written as line feeds were taken.
pub data Flushed (o : Output) (page : List ℕ) : Output → List ℕ → Type 0 where
  stays : IsSome o.error → Flushed o page o page
  all : o.error ≡ None → Flushed o page (sent o o.answered None) []
  some : (n : ℕ) (error : Errno)
      → o.error ≡ None
      → n ≤ length page
      → Flushed o page (sent o (sum o.written (feeds (take n page))) (Some error)) []

-- `Roomy N o page r page'`: a page of N bytes has room for the longest line, or the output is flushed.
pub data Roomy (N : ℕ) (o : Output) (page : List ℕ) : Output → List ℕ → Type 0 where
  room : 16384 ≤ N - length page → Roomy N o page o page
  flushed : {r : Output} {page' : List ℕ} → Flushed o page r page' → Roomy N o page r page'

-- `Ready o g page r page'`: before a run that is granted 100,000 steps or more the output is flushed.
pub data Ready (o : Output) (g : ℕ) (page : List ℕ) : Output → List ℕ → Type 0 where
  at_once : g < 100000 → Ready o g page o page
  after_all : {r : Output} {page' : List ℕ} → 100000 ≤ g → Flushed o page r page' → Ready o g page r page'
