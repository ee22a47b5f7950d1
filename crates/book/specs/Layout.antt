-- The layout of a book in a lent slice, word by word (docs/FORMAT.md), and what is seen of it by a reader.
use Rattle.std.specs.Prelude.{ℕ, zero, suc, ◌+◌, ◌*◌, ◌≤◌, Bool, true, cond, List, [], ◌∷◌, ◌++◌, ◌≡◌, eqb, length, take, drop, get_or}
use Rattle.std.proofs.Math.Option.{some}
use Rattle.calculus.specs.Term.{Term, size}
use Rattle.calculus.specs.Words.{words, Scoped, Named, longest}
use Rattle.calculus.specs.Meaning.{meaning}
use Rattle.calculus.specs.Scan.{node, the_first}
use Rattle.calculus.specs.Book.{Definition, Book, View, most, entry, bodies, sees, seen}
use Rattle.book.specs.declared.Reader.{Reader}
use Rattle.book.specs.declared.Reader.TheVariants as reader

-- "Words 1 + 4i … 4 + 4i of definition i its owner, its mark (0 open, 1 closed), the length of its body, the length of its type."
abbrev pub owner_at : ℕ → ℕ
owner_at i = 1 + 4 * i

abbrev pub mark_at : ℕ → ℕ
mark_at i = 2 + 4 * i

abbrev pub body_length_at : ℕ → ℕ
body_length_at i = 3 + 4 * i

abbrev pub type_length_at : ℕ → ℕ
type_length_at i = 4 + 4 * i

-- "The body of i from word 464 + 2,048 i on, its type from 1,488 + 2,048 i on."
abbrev pub body_at : ℕ → ℕ
body_at i = 464 + 2048 * i

abbrev pub type_at : ℕ → ℕ
type_at i = 1488 + 2048 * i

-- A mark is 0 where the body is open, and 1 where it is closed.
abbrev pub mark : Bool → ℕ
mark is_open = cond is_open 0 1

-- A term that is stored at a place with so many words: closed, with names below `i`, of at most 1,024 words.
pub record Stored (t : Term) (i at extent : ℕ) (slice : List ℕ) : Type 0 where
  pub long : extent ≡ size t
  pub short : size t ≤ longest
  pub closed : Scoped 0 t
  pub named : Named i t
  pub written : take (size t) (drop at slice) ≡ words t

-- Definition `i` is `d`.
pub record Defines (d : Definition) (i : ℕ) (slice : List ℕ) : Type 0 where
  pub room : body_at (suc i) ≤ length slice
  pub owner : get_or slice (owner_at i) 0 ≡ d.owner
  pub marked : get_or slice (mark_at i) 0 ≡ mark d.is_open
  pub body : Stored d.body i (body_at i) (get_or slice (body_length_at i) 0) slice
  pub type : Stored d.type i (type_at i) (get_or slice (type_length_at i) 0) slice

-- The slice holds the book: each of its definitions.
pub record Holds (B : Book) (slice : List ℕ) : Type 0 where
  pub few : length B ≤ most
  pub each : (i : ℕ) (d : Definition) → entry B i ≡ some d → Defines d i slice

-- What a reader sees of a definition: a run unfolds all, a check what its owner may.
abbrev pub shows : Reader → Definition → Bool
shows reader.Everybody d = true
shows (reader.Owner o) d = sees o d

-- What a reader sees of a book.
abbrev pub sight : Reader → Book → View
sight reader.Everybody B = bodies B
sight (reader.Owner o) B = seen o B

-- The book that the words of a slice spell, whether or not they keep to the layout: what is said of it holds where the slice holds it.
-- The words of a term are read from their end, each with the terms built last as its parts.
unfoldable pub built : List ℕ → List Term
built [] = []
built (w ∷ ws) = node (meaning w) (built ws)

abbrev pub spelt : List ℕ → ℕ → ℕ → Term
spelt slice at extent = the_first (built (take extent (drop at slice)))

abbrev pub nth : List ℕ → ℕ → Definition
nth slice i =
    record {
      body = spelt slice (body_at i) (get_or slice (body_length_at i) 0);
      type = spelt slice (type_at i) (get_or slice (type_length_at i) 0);
      owner = get_or slice (owner_at i) 0;
      is_open = eqb (get_or slice (mark_at i) 0) 0;
    }

-- The first `n` definitions.
unfoldable pub definitions : List ℕ → ℕ → Book
definitions slice zero = []
definitions slice (suc n) = definitions slice n ++ nth slice n ∷ []

-- "Word 0 the count."
unfoldable pub decode : List ℕ → Book
decode slice = definitions slice (get_or slice 0 0)

-- How many they are.
abbrev pub entries : List ℕ → ℕ
entries slice = length (decode slice)
