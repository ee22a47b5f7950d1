-- The answer to a file (docs/FORMAT.md, Modules in files), and its line.
use Rattle.std.specs.Prelude.{ℕ, cond, List, [], ◌∷◌, ◌++◌, length}
use Rattle.text.specs.Pairs.{pairs, allowed}
use Rattle.text.specs.Texts.{ascii, spaced}
use Rattle.protocol.specs.Answers.{Reply, Replies, refusal_line, reply}
use Rattle.protocol.specs.Requests.{keeping}
use Rattle.protocol.specs.declared.request.Request.{Request}

-- "An odd number of bytes, or over 2,048, is `refused 4 0`"; otherwise the reply is that to the request for the file's words.
unfoldable pub file_reply : Request → List ℕ → List ℕ → Reply
file_reply q bytes W =
    cond (allowed bytes) (reply (keeping q (length (pairs bytes))) (pairs bytes) W) (record { text = refusal_line 4 0; work = W })

-- What a path may be answered: the reply to some bytes, or "`unreadable ERROR`, with the system's number", for some number. What a file
-- holds, and whether it can be read, is the system's and not in the logic: that these are the file's own bytes is tested.
pub data Told (q : Request) (W : List ℕ) : Reply → Type 0 where
  unreadable : (error : ℕ) → Told q W (record { text = ascii "unreadable" ++ spaced (error ∷ []); work = W })
  held : (bytes : List ℕ) → Told q W (file_reply q bytes W)

-- "The answer, a tab, and the path", and a line feed.
abbrev pub tabbed : List ℕ → Reply → Reply
tabbed path a = record { text = a.text ++ (9 ∷ []) ++ path ++ (10 ∷ []); work = a.work }

-- `Tells N q f W W' page page'`: what a path may be told, in the form f, is appended to a page of N bytes.
pub data Tells (N : ℕ) (q : Request) (f : Reply → Reply) (W W' page page' : List ℕ) : Type 0 where
  tells : {a : Reply} → Told q W a → Replies N (f a) W' page page' → Tells N q f W W' page page'
