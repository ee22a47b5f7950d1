-- Line feeds, by which answers are counted.
use Rattle.std.specs.Prelude.{ℕ, List, eqb, count_by}

abbrev pub feeds : List ℕ → ℕ
feeds bs = count_by (λ b. eqb b 10) bs
