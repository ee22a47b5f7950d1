-- A name as the redex: its word tells its number, which is one of the book, and the body that stands for it is that of its definition, by
-- whoever sees it. Noted at the node, the body is what the name steps to.
use Prim.Native.Nat.{ℕ, ◌+◌, ◌*◌, ◌≤◌, ◌<◌}
use mathlib.Core.Bool.{true≢false}
use mathlib.Core.List.{List}
use mathlib.Core.Option.{some}
use Rattle.std.specs.Prelude.{Ok, Some}
use mathlib.Core.Path.{◌≡◌, refl, sym, ap, subst, ◌∙◌}
use native.Mathlib.Omega.{arith}
use lib.ListN.{length}
use lib.Seq.{sets}
use Rattle.calculus.specs.Term.{Term, name, size}
use Rattle.calculus.specs.Words.{Named}
use Rattle.calculus.specs.Book.{Definition, Book, entry}
use Rattle.calculus.specs.Kinds.{by_unfolding}
use Rattle.calculus.specs.Meaning.{a_name, meaning}
use Rattle.calculus.specs.Step.{next, step, unfolded}
use Rattle.term.specs.Kept.{kept, word_at}
use Rattle.term.specs.Word.{meaning_of}
use Rattle.term.specs.declared.word.Meaning.{Meaning}
use Rattle.term.specs.declared.word.Meaning.TheVariants as word
use Rattle.term.proofs.Keeping.{kept_length, lies_name}
use Rattle.book.specs.Layout.{Defines, Holds, sight}
use Rattle.book.specs.declared.Reader.{Reader}
use Rattle.book.proofs.Entries.{entry_of, bodies_entry, sight_bodies}
use Rattle.kept.specs.Writing.{Puts}
use Rattle.reduction.specs.Stepping.{Keeps, locate}
use Rattle.reduction.specs.declared.stepping.Redex.TheVariants as redex
use Rattle.reduction.proofs.Heads.{name_means}
use Rattle.reduction.proofs.Redexes.{splits_at}
use Rattle.reduction.proofs.Surrounding.{around_lies}
use Rattle.reduction.proofs.Placing.{Placed, placed_lies, placed_named}

-- A word that means a name is classified by no other variant.
pub no_other : (m : Meaning) (i : ℕ) → meaning_of m ≡ a_name i → m ≡ word.Name i
no_other word.Star i h = absurd (true≢false (cc h))
no_other word.CastDown i h = absurd (true≢false (cc h))
no_other word.Application i h = absurd (true≢false (cc h))
no_other word.CastUp i h = absurd (true≢false (cc h))
no_other word.Abstraction i h = absurd (true≢false (cc h))
no_other word.Product i h = absurd (true≢false (cc h))
no_other word.Recursion i h = absurd (true≢false (cc h))
no_other (word.Variable n) i h = absurd (true≢false (cc h))
no_other word.Nothing i h = absurd (true≢false (cc h))
no_other (word.Name n) i h = ap word.Name (cc h)

module _ {ws : List ℕ} {at i : ℕ} (p : Placed ws at (name i)) {book : List ℕ} {B : Book} {t : Term} (held : Holds B book)
    (keeps : Keeps B t ws) where
  name_in_book : i < length B
  unfolding Named
  name_in_book = placed_named p t keeps.coded keeps.has_words (length B) keeps.named

  pub name_meant : (m : Meaning) → meaning_of m ≡ meaning (word_at ws at) → meaning_of m ≡ a_name i
  name_meant m known = known ∙ ap meaning (lies_name (placed_lies p)) ∙ name_means (length B) held.few i name_in_book

  -- The number that the word tells is the name's.
  pub number_of : {m : Meaning} {n k : ℕ} → meaning_of m ≡ meaning (word_at ws at) → m ≡ word.Name n → k ≡ n → k ≡ i
  number_of {m} {n} known told wide =
      let same : n ≡ i = cc (ap meaning_of (sym told) ∙ name_meant m known) in
      wide ∙ same

  pub definition : (d : Definition) × (entry B i ≡ some d)
  definition = entry_of B i name_in_book

  module _ {d : Definition} (e : entry B i ≡ some d) where
    pub defined : {k : ℕ} → k ≡ i → Defines d k book
    defined same = subst (λ n. Defines d n book) (sym same) (held.each i d e)

    -- The redex that is located there is this name, and its body stands for it.
    name_stands : (who : Reader) → locate (sight who B) t ≡ Ok (redex.Name at) → sight who B i ≡ some d.body
    name_stands who there =
        let (j, x, shown, inside) = splits_at (sight who B) t there in
        let same : j ≡ i = omega (arith, lies_name (placed_lies p), lies_name (around_lies (inside.around x) keeps.coded)) in
        let shown_here : sight who B i ≡ some x = subst (λ n. sight who B n ≡ some x) same shown in
        shown_here ∙ sym (sight_bodies who B i x shown_here) ∙ bodies_entry B i d e

    pub name_steps : (who : Reader) → locate (sight who B) t ≡ Ok (redex.Name at) → step (sight who B) (name i) ≡ next by_unfolding d.body
    unfolding step unfolded
    name_steps who there = ap unfolded (name_stands who there)

-- A term noted at a node, where there is room for it.
pub puts_noted : (x : Term) {out after : List ℕ} {at end : ℕ}
    → end ≡ at + size x
    → 2 * end ≤ length out
    → after ≡ sets out (2 * at) (kept x)
    → Puts (kept x) out at (Some end) after
puts_noted x {end = end} ends room wrote =
    record {
      fits = λ h. (end, refl, omega (arith, ends, kept_length x), wrote);
      full = λ h. absurd (omega (arith, ends, room, kept_length x));
    }
