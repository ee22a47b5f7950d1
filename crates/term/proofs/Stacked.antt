-- The pending subterms as two arrays hold them, a room and a scope each. A store behind the entries changes none of them, so it
-- puts one subterm more in front of the list, and to read the last entry is to take the first of the list. Of two stores as many
-- count as the subterm at hand has parts: then the list is its parts before what was pending.
use Prim.Native.Nat.{ℕ, zero, suc, ◌+◌, ◌-◌, ◌≤◌, ◌<◌}
use mathlib.Core.List.{List, [], ◌∷◌, ◌++◌, map}
use mathlib.Core.Path.{◌≡◌, refl, ap, ◌∙◌}
use native.Mathlib.Nat.{add-zero}
use native.Mathlib.Numerals.{add-one, unary_clauses}
use native.Mathlib.Omega.{arith}
use lib.ListN.{length, get_or, set, length-set}
use lib.Seq.{get_or-set_same, get_or-set_other, lt-length-set}
use Rattle.calculus.specs.Scan.{Pending, below}
use Rattle.term.specs.Subterms.{pending}
use Rattle.term.specs.Word.{second}
use Rattle.term.proofs.Words.{Parted, no_part, one_part, two_parts}

-- The subterms that the first `n` entries of two arrays stand for: the last entry comes next.
unfoldable pub stacked : List ℕ → List ℕ → ℕ → List Pending
stacked rooms scopes zero = []
stacked rooms scopes (suc n) = pending (get_or rooms n 0) (get_or scopes n 0) ∷ stacked rooms scopes n

pub stacked_length : (rooms scopes : List ℕ) (n : ℕ) → length (stacked rooms scopes n) ≡ n
unfolding stacked
stacked_length rooms scopes zero = refl
stacked_length rooms scopes (suc n) = ap suc (stacked_length rooms scopes n)

-- What is stored behind the entries changes none of them.
kept : (rooms scopes : List ℕ) (m x y n : ℕ) → n ≤ m → stacked (set rooms m x) (set scopes m y) n ≡ stacked rooms scopes n
unfolding stacked
kept rooms scopes m x y zero h = refl
kept rooms scopes m x y (suc n) h =
    rw
    (get_or-set_other rooms m n x 0 (λ e. absurd (omega arith)), get_or-set_other scopes m n y 0 (λ e. absurd (omega arith)))
    (ap (λ l. pending (get_or rooms n 0) (get_or scopes n 0) ∷ l) (kept rooms scopes m x y n (omega arith)))

-- One more is stored.
stored : (rooms scopes : List ℕ) (n x y : ℕ)
    → n < length rooms
    → n < length scopes
    → stacked (set rooms n x) (set scopes n y) (n + 1) ≡ pending x y ∷ stacked rooms scopes n
unfolding stacked
stored rooms scopes n x y h k =
    rw
    (add-one n, get_or-set_same rooms n x 0 h, get_or-set_same scopes n y 0 k)
    (ap (λ l. pending x y ∷ l) (kept rooms scopes n x y n (omega arith)))

-- Two entries that a turn stores for the parts of a subterm, the second part's first.
abbrev pub two_rooms : List ℕ → ℕ → ℕ → List ℕ
two_rooms rooms n room = set (set rooms n (room - 1)) (n + 1) (room - 1)

abbrev pub two_scopes : List ℕ → ℕ → ℕ → ℕ → List ℕ
two_scopes scopes n b k = set (set scopes n (b + k)) (n + 1) b

pub length_two : (l : List ℕ) (n x y : ℕ) → length (set (set l n x) (n + 1) y) ≡ length l
length_two l n x y = length-set (set l n x) (n + 1) y ∙ length-set l n x

-- As many of the two as the subterm has parts are those parts.
pub parts_stored : {ks : List ℕ} (rooms scopes : List ℕ) (n room b : ℕ)
    → n + 1 < length rooms
    → n + 1 < length scopes
    → Parted ks
    → stacked (two_rooms rooms n room) (two_scopes scopes n b (second ks)) (n + length ks)
    ≡ map (below (pending room b)) ks ++ stacked rooms scopes n
unfolding below
parts_stored rooms scopes n room b h k no_part =
    rw
    (add-zero n)
    (kept (set rooms n (room - 1)) (set scopes n (b + 0)) (n + 1) (room - 1) b n (omega arith)
    ∙ kept rooms scopes n (room - 1) (b + 0) n (omega arith))
parts_stored rooms scopes n room b h k one_part =
    kept (set rooms n (room - 1)) (set scopes n (b + 0)) (n + 1) (room - 1) b (n + 1) (omega arith)
    ∙ stored rooms scopes n (room - 1) (b + 0) (omega arith) (omega arith)
parts_stored rooms scopes n room b h k (two_parts j _) =
    rw
    (add-zero b)
    (ap (stacked (two_rooms rooms n room) (two_scopes scopes n b j)) (omega arith)
    ∙ stored
    (set rooms n (room - 1)) (set scopes n (b + j)) (n + 1) (room - 1) b
    (lt-length-set rooms n (room - 1) h)
    (lt-length-set scopes n (b + j) k)
    ∙ ap (λ l. pending (room - 1) b ∷ l) (stored rooms scopes n (room - 1) (b + j) (omega arith) (omega arith)))

-- The last is taken.
pub taken : (rooms scopes : List ℕ) (n : ℕ)
    → 0 < n
    → stacked rooms scopes n ≡ pending (get_or rooms (n - 1) 0) (get_or scopes (n - 1) 0) ∷ stacked rooms scopes (n - 1)
unfolding stacked
taken rooms scopes zero h = absurd (omega arith)
taken rooms scopes (suc n) h = simp unary_clauses refl
