-- Where reading first fails (document 01, Words and Calls), from the words alone: refusals 4–9.
use Rattle.std.specs.Prelude.{ℕ, zero, suc, ◌+◌, ◌≤◌, List, [], ◌∷◌, ◌≢◌, ◌≡◌, length}
use Rattle.calculus.specs.Term.{Term, size}
use Rattle.calculus.specs.Answer.{Reason, length_not_allowed, no_meaning, list_ends, words_after, level_65, unbound}
use Rattle.calculus.specs.Words.{emit, first_part, second_part, levels, Scoped, Named, longest, deepest}
use Rattle.calculus.specs.Meaning.{a_variable, a_name, nothing, meaning, binds}

-- The words `ws` begin with those of the term `t`, of at most `room` levels and with no free index from `binders` on; behind them
-- stands `rest`. No word names anything.
pub record Begins (room binders : ℕ) (ws : List ℕ) (t : Term) (rest : List ℕ) : Type 0 where
  pub written : ws ≡ emit t rest
  pub within : levels t ≤ room
  pub scoped : Scoped binders t
  pub named : Named 0 t

-- `Unread room binders p ws r q`: reading a subterm from place `p` on, where the words `ws` stand, with `room` levels left and under
-- `binders` binders, first fails by the reason `r` at the place `q`. "Words are read left to right, each tested in the order 5, 8, 9":
-- one constructor for each test, in the order of the tests; its premises say that the tests before it passed.
pub data Unread : ℕ → ℕ → ℕ → List ℕ → Reason → ℕ → Type 0 where
  -- "length of the list | 6 | list ends inside the term": the place behind its last word
  no_word : {room binders p : ℕ} → Unread room binders p [] list_ends p
  -- "place of the word | 5 | word without meaning"
  meaningless : {room binders p w : ℕ} {ws : List ℕ} → meaning w ≡ nothing → Unread room binders p (w ∷ ws) no_meaning p
  -- No call is lent a book: a name means nothing there.
  unnamed : {room binders p w i : ℕ} {ws : List ℕ} → meaning w ≡ a_name i → Unread room binders p (w ∷ ws) no_meaning p
  -- "place of the word | 8 | node at level 65": no level is left
  too_deep : {binders p w : ℕ} {ws : List ℕ} → meaning w ≢ nothing → ((i : ℕ) → meaning w ≢ a_name i) → Unread zero binders p (w ∷ ws) level_65 p
  -- "place of the word | 9 | variable outside all its binders"
  outside : {room binders p w i : ℕ} {ws : List ℕ}
      → meaning w ≡ a_variable i → binders ≤ i → Unread (suc room) binders p (w ∷ ws) unbound p
  -- "Parts that follow" the word: the first fails;
  in_first : {room binders p q w k : ℕ} {ks ws : List ℕ} {r : Reason}
      → binds (meaning w) ≡ k ∷ ks → Unread room (binders + k) (first_part p) ws r q → Unread (suc room) binders p (w ∷ ws) r q
  -- the first is there, and the second fails.
  in_second : {room binders p q w j k : ℕ} {ws rest : List ℕ} {a : Term} {r : Reason}
      → binds (meaning w) ≡ j ∷ k ∷ [] → Begins room (binders + j) ws a rest
      → Unread room (binders + k) (second_part p a) rest r q → Unread (suc room) binders p (w ∷ ws) r q

-- "A term has 1–1,024 words."
abbrev pub Sized : List ℕ → Type 0
Sized ws = (1 ≤ length ws) × (length ws ≤ longest)

-- `Misread ws r p`: reading the list `ws` as a closed term first fails by the reason `r` at the place `p`.
pub data Misread (ws : List ℕ) : Reason → ℕ → Type 0 where
  -- "place 0 | 4 | term of 0 or over 1,024 words"
  wrong_length : ¬ Sized ws → Misread ws length_not_allowed 0
  -- "Its outermost node is at level 1; no node is below level 64." No binder stands around it.
  in_term : {r : Reason} {p : ℕ} → Sized ws → Unread deepest 0 0 ws r p → Misread ws r p
  -- "first word over | 7 | words after the term". "A word after a complete term is 7, untested."
  word_over : {t : Term} {w : ℕ} {rest : List ℕ} → Sized ws → Begins deepest 0 ws t (w ∷ rest) → Misread ws words_after (size t)
