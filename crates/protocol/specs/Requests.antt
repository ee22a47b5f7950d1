-- What each byte of a request line does to what is known of the line, and to the words kept (docs/FORMAT.md, The line protocol). The
-- cases are those of the code, in its order.
use Rattle.std.specs.Prelude.{ℕ, suc, ◌+◌, ◌-◌, ◌*◌, ◌%◌, Bool, true, false, cond, ◌&&◌, ◌||◌, List, [], ◌∷◌, eqb, ltb, leb, length, replicate, get_or, set}
use Rattle.protocol.specs.declared.request.Request.{Request}

-- The fields that a byte may change: how far the line is, its topic, its verb and its numbers; the field being read; how many words
-- are kept; and whether it is no request.
abbrev pub known : Request → ℕ → ℕ → ℕ → List ℕ → ℕ → Request
known q phase topic verb values numbers =
    record {
      phase = phase;
      topic = topic;
      verb = verb;
      values = values;
      numbers = numbers;
      field = q.field;
      width = q.width;
      count = q.count;
      any = q.any;
      wrong = q.wrong;
    }

abbrev pub reading : Request → ℕ → ℕ → Request
reading q field width =
    record {
      phase = q.phase;
      topic = q.topic;
      verb = q.verb;
      values = q.values;
      numbers = q.numbers;
      field = field;
      width = width;
      count = q.count;
      any = q.any;
      wrong = q.wrong;
    }

abbrev pub keeping : Request → ℕ → Request
keeping q count =
    record {
      phase = q.phase;
      topic = q.topic;
      verb = q.verb;
      values = q.values;
      numbers = q.numbers;
      field = q.field;
      width = q.width;
      count = count;
      any = q.any;
      wrong = q.wrong;
    }

-- The line is no request.
abbrev pub refused : Request → Request
refused q =
    record {
      phase = q.phase;
      topic = q.topic;
      verb = q.verb;
      values = q.values;
      numbers = q.numbers;
      field = q.field;
      width = q.width;
      count = q.count;
      any = q.any;
      wrong = true;
    }

-- Nothing is read yet.
abbrev pub unread : Request
unread =
    record {
      phase = 0;
      topic = 0;
      verb = 0;
      values = replicate 8 0;
      numbers = 0;
      field = 0;
      width = 0;
      count = 0;
      any = false;
      wrong = false;
    }

-- A letter of the topic or of the verb, which have at most five.
unfoldable pub letter : Request → ℕ → Request
letter q b =
    cond (eqb q.phase 0)
    (cond (ltb 4 q.width) (refused q) (reading q (q.field % 4294967296 * 256 + b) (q.width + 1)))
    (refused q)

-- A digit of a number or a word; a field of more than 32 bits is too large for either.
unfoldable pub digit : Request → ℕ → Request
digit q d =
    cond (eqb q.phase 0) (refused q) (cond (ltb 4294967295 q.field) (refused q) (reading q (q.field * 10 + d) 1))

-- The topic `desk`, its letters as one number in base 256. A line without one has the topic 0.
abbrev pub desk_topic : ℕ
desk_topic = 1684370283

-- The letters in front of the numbers: a topic, where there is none yet, or the verb.
unfoldable pub named : Request → ℕ → Request
named q letters =
    cond (eqb letters desk_topic && eqb q.topic 0) (known q 0 letters q.verb q.values q.numbers)
    (known q 1 q.topic letters q.values q.numbers)

-- One more number behind the last seven of those before it.
unfoldable pub pushed : List ℕ → ℕ → List ℕ
pushed vs v =
    get_or vs 1 0 ∷ get_or vs 2 0 ∷ get_or vs 3 0 ∷ get_or vs 4 0 ∷ get_or vs 5 0 ∷ get_or vs 6 0 ∷ get_or vs 7 0 ∷ v ∷ []

-- "A number [...] fits 32 bits", and there are eight at most.
unfoldable pub number : Request → ℕ → Request
number q v =
    cond (ltb 4294967295 v) (refused q)
    (cond (ltb 7 q.numbers) (refused q) (known q q.phase q.topic q.verb (pushed q.values v) (q.numbers + 1)))

-- The last number, and the one before it.
abbrev pub last : Request → ℕ
last q = get_or q.values 7 0

abbrev pub before_last : Request → ℕ
before_last q = get_or q.values 6 0

-- What is known of a line, with the words kept.
pub record Line : Type 0 where
  pub request : Request
  pub words : List ℕ

abbrev pub line_of : Request → List ℕ → Line
line_of q ws = record { request = q; words = ws }

-- "A word fits 16 bits"; it is kept where there is room.
unfoldable pub word : Request → ℕ → List ℕ → Line
word q v ws =
    cond (ltb 65535 v) (line_of (refused q) ws)
    (cond (ltb q.count (length ws)) (line_of (keeping q (q.count + 1)) (set ws q.count v)) (line_of q ws))

-- The end of a field, where one was begun: the topic or the verb, a number, or a word. The end of the line is the end of its last
-- field.
unfoldable pub field_end : Request → List ℕ → Line
field_end q ws =
    let rest = reading q 0 0 in
    cond (eqb q.width 0) (line_of q ws)
    (cond (eqb q.phase 0) (line_of (named rest q.field) ws)
    (cond (eqb q.phase 1) (line_of (number rest q.field) ws) (word rest q.field ws)))

-- The bar between the numbers and the words.
unfoldable pub barred : Line → Line
barred l =
    let q = l.request in
    cond (eqb q.phase 1) (line_of (known q 2 q.topic q.verb q.values q.numbers) l.words) (line_of (refused q) l.words)

-- Some byte is read.
abbrev pub touched : Request → Request
touched q =
    record {
      phase = q.phase;
      topic = q.topic;
      verb = q.verb;
      values = q.values;
      numbers = q.numbers;
      field = q.field;
      width = q.width;
      count = q.count;
      any = true;
      wrong = q.wrong;
    }

-- "Fields are parted by spaces, tabs or carriage returns".
unfoldable pub parting : ℕ → Bool
parting b = eqb b 9 || eqb b 13 || eqb b 32

-- One byte: the end of a field, the bar, a digit, a letter, or a byte that no request has.
unfoldable pub fed : Request → ℕ → List ℕ → Line
fed q b ws =
    cond (parting b) (field_end (touched q) ws)
    (cond (eqb b 124) (barred (field_end (touched q) ws))
    (cond (leb 48 b && ltb b 58) (line_of (digit (touched q) (b - 48)) ws)
    (cond (leb 97 b && ltb b 123) (line_of (letter (touched q) b) ws) (line_of (refused (touched q)) ws))))

-- All the bytes of a line, up to its line feed or to the end of what there is; and how many they are.
unfoldable pub fed_line : Line → List ℕ → Line
fed_line l [] = l
fed_line l (b ∷ bs) = cond (eqb b 10) l (fed_line (fed l.request b l.words) bs)

unfoldable pub line_length : List ℕ → ℕ
line_length [] = 0
line_length (b ∷ bs) = cond (eqb b 10) 0 (suc (line_length bs))
