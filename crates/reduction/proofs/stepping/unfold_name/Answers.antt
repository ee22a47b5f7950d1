-- `unfold_name` meets its contract: the word at the node tells the name's number, by which the book has the body; noted there, it is what
-- the name steps to.
use Prim.Native.Nat.{ℕ, ◌+◌, ◌*◌, ◌≤◌, ◌<◌}
use mathlib.Core.Option.{some}
use mathlib.Core.List.{List}
use mathlib.Core.Path.{◌≡◌, ap, ◌∙◌}
use native.Mathlib.Omega.{arith}
use lib.ListN.{length}
use lib.Seq.{sets}
use Rattle.std.specs.Prelude.{Some}
use Rattle.calculus.specs.Term.{Term, name, size}
use Rattle.calculus.specs.Words.{words, longest}
use Rattle.calculus.specs.Book.{Definition, Book, entry}
use Rattle.calculus.proofs.Coding.{words_length}
use Rattle.term.specs.Kept.{kept}
use Rattle.book.specs.Layout.{Holds}
use Rattle.kept.specs.Writing.{Puts}
use Rattle.reduction.specs.Stepping.{Keeps}
use Rattle.reduction.specs.declared.stepping.Kind.TheVariants.{Unfolding}
use Rattle.reduction.proofs.Names as names
use Rattle.reduction.proofs.Placing.{Placed, name_placed, lies_node, placed_lies, placed_short, reaches_at}
use Rattle.reduction.proofs.Surrounding.{lacks_room}
use Rattle.reduction.proofs.stepping.unfold_name.Goals as goal
use Rattle.reduction.proofs.stepping.unfold_name.Goals.{After-body-words, After-from, Start}

redex : (c : goal.Start) → (i : ℕ) × Placed c.args.state.now c.args.at (name i)
redex c = name_placed c.requires.1

inside : (c : goal.Start) → 2 * c.args.at + 1 < length c.args.state.now
inside c = lies_node (placed_lies (redex c).1)

pub overflow_mul-at : goal.overflow_mul-at
overflow_mul-at c = omega (arith, inside (goal.at.overflow_mul-at c).Start)

pub offset_bounds-state-at : goal.offset_bounds-state-at
offset_bounds-state-at c = omega (arith, inside (goal.at.offset_bounds-state-at c).Start)

pub bounds-state-at : goal.bounds-state-at
bounds-state-at c = omega (arith, inside (goal.at.bounds-state-at c).Start)

pub unreachable-requires : goal.unreachable-requires
unreachable-requires c =
    let s = (goal.at.unreachable-requires c).Start in
    let (i, p) = redex s in
    let (B, t, held, keeps) = s.requires.0 in
    let m = c.classify.result in
    c.in_default.not-Name i (names.no_other m i (names.name_meant p held keeps m c.classify.ensures))

-- The number that is looked up is the name's.
number : (c : goal.After-from) {B : Book} {t : Term}
    → let s = (goal.at.body-words-requires c).Start in
    Holds B s.args.book.now → Keeps B t s.args.state.now → c.from.result ≡ (redex s).0
number c held keeps =
    let s = (goal.at.body-words-requires c).Start in
    names.number_of (redex s).1 held keeps c.classify.ensures c.in-Name.is c.from.ensures

pub body-words-requires : goal.body-words-requires
body-words-requires c =
    let s = (goal.at.body-words-requires c).Start in
    let (i, p) = redex s in
    let (B, t, held, keeps) = s.requires.0 in
    let (d, e) = names.definition p held keeps in
    (d, names.defined p held keeps e (number c held keeps))

-- The words that are found are those of the body.
found : (c : goal.After-body-words) {B : Book} {t : Term} {d : Definition}
    → let s = (goal.at.overflow_add-body_end c).Start in
    Holds B s.args.book.now
    → Keeps B t s.args.state.now
    → entry B (redex s).0 ≡ some d
    → c.body-words.result.now ≡ words d.body
found c held keeps e =
    let s = (goal.at.overflow_add-body_end c).Start in
    c.body-words.ensures _ (names.defined (redex s).1 held keeps e (number (goal.at.overflow_add-body_end c).After-from held keeps))

-- They are not too many, and where they end the body does.
ended : (c : goal.After-body-words) {B : Book} {t : Term} {d : Definition}
    → let s = (goal.at.overflow_add-body_end c).Start in
    Holds B s.args.book.now
    → Keeps B t s.args.state.now
    → entry B (redex s).0 ≡ some d
    → (length c.body-words.result.now ≡ size d.body) × (size d.body ≤ longest)
ended c {B} {t} {d} held keeps e =
    (ap length (found c held keeps e) ∙ words_length d.body, (held.each _ d e).body.short)

small : (c : goal.After-body-words)
    → c.args.at + length c.body-words.result.now ≤ 3 * longest
small c =
    let s = (goal.at.overflow_add-body_end c).Start in
    let (i, p) = redex s in
    let (B, t, held, keeps) = s.requires.0 in
    let (d, e) = names.definition p held keeps in
    let (long, short) = ended c held keeps e in
    omega (arith, inside s, placed_short p, long, short)

-- The body is written, where there is room for it.
written : (c : goal.After-body-words) {B : Book} {t : Term} {d : Definition} {after : List ℕ}
    → let s = (goal.at.overflow_add-body_end c).Start in
    let end = s.args.at + length c.body-words.result.now in
    Holds B s.args.book.now
    → Keeps B t s.args.state.now
    → entry B (redex s).0 ≡ some d
    → 2 * end ≤ length s.args.out.now
    → after ≡ sets s.args.out.now (2 * s.args.at) (kept d.body)
    → Puts (kept d.body) s.args.out.now s.args.at (Some end) after
written c {d = d} held keeps e room wrote = names.puts_noted d.body (ap (λ n. c.args.at + n) (ended c held keeps e).0) room wrote

pub overflow_add-body_end : goal.overflow_add-body_end
overflow_add-body_end c = omega (arith, small c)

pub overflow_mul-body_end : goal.overflow_mul-body_end
overflow_mul-body_end c = omega (arith, small c)

pub returns-then-out-body_end : goal.returns-then-out-body_end
returns-then-out-body_end c who B t held keeps there =
    let f = (goal.at.returns-then-out-body_end c).After-body-words in
    let s = (goal.at.returns-then-out-body_end c).Start in
    let (i, p) = redex s in
    let (d, e) = names.definition p held keeps in
    let x = d.body in
    let lacks : length s.args.out.now < 2 * (s.args.at + size x) = omega (arith, c.if-out-body_end.true, (ended f held keeps e).0) in
    let steps = names.name_steps p held keeps e who there in
    reaches_at p Unfolding x _ steps (lacks_room (p.around x) p.coded _ lacks) t keeps.coded keeps.has_words

pub note-requires : goal.note-requires
note-requires c =
    let f = (goal.at.note-requires c).After-body-words in
    let s = (goal.at.note-requires c).Start in
    let (i, p) = redex s in
    let (B, t, held, keeps) = s.requires.0 in
    let (d, e) = names.definition p held keeps in
    let (long, short) = ended f held keeps e in
    (c.if-out-body_end.false, omega (arith, long, short), (d.body, found f held keeps e))

pub surround-requires : goal.surround-requires
surround-requires c =
    let f = (goal.at.surround-requires c).After-body-words in
    let s = (goal.at.surround-requires c).Start in
    let (i, p) = redex s in
    let (B, t, held, keeps) = s.requires.0 in
    let (d, e) = names.definition p held keeps in
    let x = d.body in (
      p.term,
      name i,
      x,
      p.put x,
      s.args.out.now,
      p.around x,
      p.coded,
      p.short,
      s.requires.2,
      written f held keeps e c.if-out-body_end.false (c.note.ensures x (found f held keeps e)),
    )

pub returns : goal.returns
returns c who B t held keeps there =
    let f = (goal.at.returns c).After-body-words in
    let (i, p) = redex (goal.at.returns c).Start in
    let (d, e) = names.definition p held keeps in
    let x = d.body in
    let wrote = written f held keeps e c.if-out-body_end.false (c.note.ensures x (found f held keeps e)) in
    let arrives = c.surround.ensures _ _ x (p.put x) _ (p.around x) p.coded wrote in
    reaches_at p Unfolding x _ (names.name_steps p held keeps e who there) arrives t keeps.coded keeps.has_words
