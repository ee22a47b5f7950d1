-- What a word means (document 01, Words; document 02, 2.3): the table, read from the word.
use Rattle.std.specs.Prelude.{ℕ, ◌-◌, ◌≤◌, ◌<◌, min, cond, List, [], ◌∷◌, ◌≡◌, ltb, length, get_or}

-- What a word means.
pub data Meaning : Type 0 where
  a_star a_castdown an_app a_castup a_lam a_pi a_mu : Meaning
  a_variable : ℕ → Meaning
  a_name : ℕ → Meaning
  nothing : Meaning

-- Words 0–6 by document 01's table; words 7–15 mean nothing; 16–2,047 are variables, "index = word − 16"; "words 2,048–2,079 name
-- definitions 0–31"; those above mean nothing.
unfoldable pub meaning : ℕ → Meaning
meaning w =
    cond
    (ltb w 16)
    (get_or (a_star ∷ a_castdown ∷ an_app ∷ a_castup ∷ a_lam ∷ a_pi ∷ a_mu ∷ []) w nothing)
    (cond (ltb w 2048) (a_variable (w - 16)) (cond (ltb w 2080) (a_name (w - 2048)) nothing))

-- The parts that follow a node, in order: for each the number of variables that the node binds in it. "Nodes 4, 5 and 6 bind one
-- variable in their second part only."
unfoldable pub binds : Meaning → List ℕ
binds a_star = []
binds a_castdown = 0 ∷ []
binds an_app = 0 ∷ 0 ∷ []
binds a_castup = 0 ∷ 0 ∷ []
binds a_lam = 0 ∷ 1 ∷ []
binds a_pi = 0 ∷ 1 ∷ []
binds a_mu = 0 ∷ 1 ∷ []
binds (a_variable i) = []
binds (a_name i) = []
binds nothing = []

-- How many parts follow a word (document 02, 2.4): "for words 0–6 the number of parts is the smaller of the word and 2". No other word
-- has any.
abbrev pub PartsByFormula : Type 0
PartsByFormula = ((w : ℕ) → w ≤ 6 → length (binds (meaning w)) ≡ min w 2) × ((w : ℕ) → 6 < w → length (binds (meaning w)) ≡ 0)
