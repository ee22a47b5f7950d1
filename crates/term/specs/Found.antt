-- What the struct of a part lookup stands for, and where the words handed back lie.
use Rattle.std.specs.Prelude.{ℕ, ◌+◌, ◌*◌}
use Rattle.calculus.specs.Outcomes as calculus
use Rattle.term.specs.declared.Found.{Found}

abbrev pub found_of : Found → calculus.Found
found_of f = record { start = f.start; extent = f.length }

-- Where a slice points is a block of memory and an offset in bytes. A part is "of the caller's own words, not a copy": it points so
-- many words of two bytes behind where the caller's slice points.
abbrev pub words_behind : ℕ × ℕ → ℕ → ℕ × ℕ
words_behind p n = (p.0, n * 2 + p.1)
