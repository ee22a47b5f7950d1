-- Request lines read from their first byte to their end, one of each form.
use Rattle.std.specs.Prelude.{ℕ, ◌-◌, Bool, true, false, List, [], ◌∷◌, ◌++◌, ◌≡◌, length, replicate}
use Prim.Native.String.{String}
use Rattle.text.specs.Texts.{ascii}
use Rattle.protocol.specs.Forms.{check_verb, run_verb, kinds_verb, part_verb, new_verb, show_verb, asks_check, asks_run, asks_kinds, asks_part, asks_desk_new, asks_desk_run, asks_desk_show}
use Rattle.protocol.specs.Requests.{Line, line_of, unread, desk_topic, field_end, fed_line}
use Rattle.protocol.specs.declared.request.Request.{Request}

-- A line that is read whole, with its end, where four words are kept at most.
abbrev pub reads : String → Line
reads line =
    let l = fed_line (line_of unread (0 ∷ 0 ∷ 0 ∷ 0 ∷ [])) (ascii line) in
    field_end l.request l.words

-- A request with its topic, its verb and its numbers, in phase 1 without words and in phase 2 with them.
abbrev pub request : ℕ → ℕ → ℕ → List ℕ → ℕ → List ℕ → Line
request phase topic verb numbers count words =
    line_of
    (record {
      phase = phase;
      topic = topic;
      verb = verb;
      values = replicate (8 - length numbers) 0 ++ numbers;
      numbers = length numbers;
      field = 0;
      width = 0;
      count = count;
      any = true;
      wrong = false;
    })
    words

-- `Reads line form l`: the line is read as `l`, which is of this form.
pub record Reads (line : String) (form : Request → Bool) (l : Line) : Type 0 where
  pub read : reads line ≡ l
  pub asked : form l.request ≡ true

abbrev pub Examples : Type 0
Examples =
    Reads "check 64 | 4 0 16" asks_check (request 2 0 check_verb (64 ∷ []) 3 (4 ∷ 0 ∷ 16 ∷ 0 ∷ []))
    × Reads "run 1000 999 |0" asks_run (request 2 0 run_verb (1000 ∷ 999 ∷ []) 1 (0 ∷ 0 ∷ 0 ∷ 0 ∷ []))
    × Reads "kinds 7 4294967295 | 6 0 16" asks_kinds (request 2 0 kinds_verb (7 ∷ 4294967295 ∷ []) 3 (6 ∷ 0 ∷ 16 ∷ 0 ∷ []))
    × Reads "\tpart 2| 5 0 0 7 7" asks_part (request 2 0 part_verb (2 ∷ []) 4 (5 ∷ 0 ∷ 0 ∷ 7 ∷ []))
    × Reads "desk new 1 2 3 4 5 6 7 4294967295" asks_desk_new (request 1 desk_topic new_verb (1 ∷ 2 ∷ 3 ∷ 4 ∷ 5 ∷ 6 ∷ 7 ∷ 4294967295 ∷ []) 0 (0 ∷ 0 ∷ 0 ∷ 0 ∷ []))
    × Reads "desk run 3 1000 | 6 0 16" asks_desk_run (request 2 desk_topic run_verb (3 ∷ 1000 ∷ []) 3 (6 ∷ 0 ∷ 16 ∷ 0 ∷ []))
    × Reads " desk  show\r" asks_desk_show (request 1 desk_topic show_verb [] 0 (0 ∷ 0 ∷ 0 ∷ 0 ∷ []))
