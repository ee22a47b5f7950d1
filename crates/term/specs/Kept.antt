-- Terms in working memory (document 02, 2.12): "each node is kept with the length of its subterm, and a part of a term held there is
-- found without a walk". docs/FORMAT.md fixes the layout.
use Rattle.std.specs.Prelude.{ℕ, suc, ◌+◌, ◌*◌, List, [], ◌∷◌, ◌≡◌, drop, get_or}
use Rattle.calculus.specs.Term.{Term, var, star, app, lam, pi, castup, castdown, mu, name, size}
use Rattle.calculus.specs.Words.{words}
use Rattle.calculus.specs.Parts.{PartAt}
use Rattle.term.specs.Walk.{span}

-- The kept words of a term, before the words `k` that follow it: two a node, in prefix order, the node's word and the length of its
-- subterm.
unfoldable pub keep : Term → List ℕ → List ℕ
keep star k = 0 ∷ 1 ∷ k
keep (castdown e) k = 1 ∷ size (castdown e) ∷ keep e k
keep (app f u) k = 2 ∷ size (app f u) ∷ keep f (keep u k)
keep (castup a e) k = 3 ∷ size (castup a e) ∷ keep a (keep e k)
keep (lam a e) k = 4 ∷ size (lam a e) ∷ keep a (keep e k)
keep (pi a b) k = 5 ∷ size (pi a b) ∷ keep a (keep b k)
keep (mu a e) k = 6 ∷ size (mu a e) ∷ keep a (keep e k)
keep (var i) k = (16 + i) ∷ 1 ∷ k
keep (name i) k = (2048 + i) ∷ 1 ∷ k

-- The kept words of a term alone.
unfoldable pub kept : Term → List ℕ
kept t = keep t []

-- The term `t` is kept in a slice from the node `n` on. Nodes count from 0.
pub record Lies (t : Term) (slice : List ℕ) (n : ℕ) : Type 0 where
  pub rest : List ℕ
  pub begins : drop (2 * n) slice ≡ keep t rest

-- The two words of a node, whatever the slice holds; 0 where it has none.
abbrev pub word_at : List ℕ → ℕ → ℕ
word_at slice n = get_or slice (2 * n) 0

abbrev pub length_at : List ℕ → ℕ → ℕ
length_at slice n = get_or slice (2 * n + 1) 0

-- `Stands t e p`: the subterm `e` of `t` stands at place `p` of its words, which is its node where `t` is kept.
pub data Stands : Term → Term → ℕ → Type 0 where
  itself : {t : Term} → Stands t t 0
  in_part : {t s e : Term} {k p q : ℕ} → PartAt t k s p → Stands s e q → Stands t e (p + q)

-- The parts of the node `n` by the lengths that are kept: the first stands next to it, the second behind the first.
abbrev pub first_node : ℕ → ℕ
first_node n = suc n

abbrev pub second_node : List ℕ → ℕ → ℕ
second_node slice n = suc n + length_at slice (suc n)

-- The second by the walk over plain words.
abbrev pub walked_second : List ℕ → ℕ → ℕ
walked_second ws n = suc n + span (drop (suc n) ws) 1

-- What is kept at the node `n` of `t`, where its subterm `e` stands: the word and the length of `e`, which is the one that the
-- walk finds; and the parts of `e` are where the kept lengths say, and the walk.
pub record KeptNode (t e : Term) (n : ℕ) : Type 0 where
  pub word : word_at (kept t) n ≡ get_or (words t) n 0
  pub extent : length_at (kept t) n ≡ size e
  pub walked : length_at (kept t) n ≡ span (drop n (words t)) 1
  pub first : (s : Term) (p : ℕ) → PartAt e 1 s p → n + p ≡ first_node n
  pub second : (s : Term) (p : ℕ) → PartAt e 2 s p
      → (n + p ≡ second_node (kept t) n) × (second_node (kept t) n ≡ walked_second (words t) n)

-- "Each kept length is its subterm's after every change, and the part found by it is the one that the walk finds." The contracts
-- say of which term working memory holds the kept words after each change; this is what it means to hold them.
abbrev pub KeptLengths : Type 0
KeptLengths = (t e : Term) (n : ℕ) → Stands t e n → KeptNode t e n
