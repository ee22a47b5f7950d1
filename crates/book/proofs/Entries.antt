-- A name in a book stands for a definition, and that tells what is seen of the name: its type, its body, and the body as a reader sees it.
-- What is shown of a book that a slice holds is closed and names what is in the book.
use Prim.Native.Nat.{ℕ, zero, suc, ◌<◌, zero-le}
use mathlib.Core.Bool.{true, false, cond}
use mathlib.Core.List.{List, [], ◌∷◌}
use mathlib.Core.Option.{Option, none, some, none-ne-some}
use mathlib.Core.Path.{◌≡◌, refl, ap, subst, ◌∙◌}
use native.Mathlib.Nat.{le_of_suc-le-suc}
use native.Mathlib.Omega.{arith}
use lib.ListN.{length}
use Rattle.calculus.specs.Term.{Term}
use Rattle.calculus.specs.Book.{Definition, Book, ◌⊆◌, entry, view, types, bodies, seen}
use Rattle.calculus.proofs.Books.{seen_in_bodies, types_within, bodies_within}
use Rattle.calculus.specs.Infer.{Fitted}
use Rattle.calculus.proofs.Found.{Shows}
use Rattle.calculus.proofs.Scoping.{named_more}
use Rattle.book.specs.Layout.{Stored, Holds, shows, sight}
use Rattle.book.specs.declared.Reader.{Reader}
use Rattle.book.specs.declared.Reader.TheVariants as reader

pub entry_of : (B : Book) (i : ℕ) → i < length B → (d : Definition) × (entry B i ≡ some d)
unfolding entry
entry_of [] i h = absurd (omega arith)
entry_of (d ∷ B) zero h = (d, refl)
entry_of (d ∷ B) (suc i) h = entry_of B i (le_of_suc-le-suc h)

-- Of a name that stands for a definition, what is seen of that definition.
view_entry : (see : Definition → Option Term) (B : Book) (i : ℕ) (d : Definition) → entry B i ≡ some d → view see B i ≡ see d
unfolding entry view
view_entry see [] i d h = absurd (none-ne-some _ h)
view_entry see (c ∷ B) zero d h = ap see cc
view_entry see (c ∷ B) (suc i) d h = view_entry see B i d h

pub types_entry : (B : Book) (i : ℕ) (d : Definition) → entry B i ≡ some d → types B i ≡ some d.type
unfolding types
types_entry B i d h = view_entry _ B i d h

pub bodies_entry : (B : Book) (i : ℕ) (d : Definition) → entry B i ≡ some d → bodies B i ≡ some d.body
unfolding bodies
bodies_entry B i d h = view_entry _ B i d h

-- What a reader sees of a name, whether or not the body is shown.
sight_entry : (who : Reader) (B : Book) (i : ℕ) (d : Definition)
    → entry B i ≡ some d
    → sight who B i ≡ cond (shows who d) (some d.body) none
unfolding seen
sight_entry reader.Everybody B i d h = bodies_entry B i d h
sight_entry (reader.Owner o) B i d h = view_entry _ B i d h

pub sight_shown : (who : Reader) (B : Book) (i : ℕ) (d : Definition)
    → entry B i ≡ some d
    → shows who d ≡ true
    → sight who B i ≡ some d.body
sight_shown who B i d h s = sight_entry who B i d h ∙ ap (λ b. cond b (some d.body) none) s

pub sight_hidden : (who : Reader) (B : Book) (i : ℕ) (d : Definition)
    → entry B i ≡ some d
    → shows who d ≡ false
    → sight who B i ≡ none
sight_hidden who B i d h s = sight_entry who B i d h ∙ ap (λ b. cond b (some d.body) none) s

pub sight_bodies : (who : Reader) (B : Book) → sight who B ⊆ bodies B
sight_bodies reader.Everybody B i e h = h
sight_bodies (reader.Owner o) B i e h = seen_in_bodies o B i e h

-- A term stored at a name of the book names what is before it, and so what is in the book.
stored_fitted : {N i at extent : ℕ} {t : Term} {slice : List ℕ} → i < N → Stored t i at extent slice → Fitted N 0 t
stored_fitted {t} h s = (s.closed, named_more t (omega (arith, h)) s.named)

pub types_fitted : (B : Book) {slice : List ℕ} → Holds B slice → Shows (length B) (types B)
types_fitted B held i τ h =
    let within = types_within B i h in
    let (d, e) = entry_of B i within in
    let same : d.type ≡ τ = cc (types_entry B i d e, h) in
    subst (Fitted (length B) 0) same (stored_fitted within (held.each i d e).type)

pub bodies_fitted : (B : Book) {slice : List ℕ} → Holds B slice → Shows (length B) (bodies B)
bodies_fitted B held i b h =
    let within = bodies_within B i h in
    let (d, e) = entry_of B i within in
    let same : d.body ≡ b = cc (bodies_entry B i d e, h) in
    subst (Fitted (length B) 0) same (stored_fitted within (held.each i d e).body)

-- Of an empty book there is nothing to hold.
pub holds_nothing : (slice : List ℕ) → Holds [] slice
unfolding entry
holds_nothing slice = record { few = zero-le; each = λ i d h. absurd (none-ne-some _ h) }
