-- The edges of reading: `read` computes each refusal, and a refused list is misread.
use mathlib.Core.List.{List, [], ◌∷◌}
use mathlib.Core.Path.{◌≡◌, refl}
use Rattle.calculus.specs.Answer.{refused, ◌>>=◌, ◌>>◌, require}
use Rattle.calculus.specs.Meaning.{meaning, binds}
use Rattle.calculus.specs.Scan.{means, bound, test, below, scan, read}
use Rattle.calculus.specs.Reads.{Edge, edges, Misreads, ReadingEdges}
use Rattle.calculus.proofs.ReadBack.{refused_misread}

Refused : List Edge → Type 0
Refused [] = Unit
Refused (e ∷ es) = (read e.list ≡ refused e.reason e.place) × Refused es

all_misread : (es : List Edge) → Refused es → Misreads es
unfolding Refused Misreads
all_misread [] h = tt
all_misread (e ∷ es) (h, hs) = (refused_misread e.list e.reason e.place h, all_misread es hs)

pub reading_edges : ReadingEdges
unfolding Refused edges read scan test means meaning bound binds below ◌>>=◌ ◌>>◌ require
reading_edges = all_misread edges (refl, (refl, (refl, (refl, (refl, (refl, (refl, (refl, (refl, (refl, (refl, tt)))))))))))
