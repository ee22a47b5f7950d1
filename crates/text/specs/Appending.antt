-- What is appended to a page with room for so many bytes: what does not fit is dropped.
use Rattle.std.specs.Prelude.{ℕ, ◌-◌, List, ◌++◌, length, take}

unfoldable pub appended : ℕ → List ℕ → List ℕ → List ℕ
appended room page bs = page ++ take (room - length page) bs
