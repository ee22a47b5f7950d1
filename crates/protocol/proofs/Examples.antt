-- The examples hold by computation.
use Prim.Native.String.{String}
use mathlib.Core.Bool.{Bool, true}
use mathlib.Core.Path.{◌≡◌, refl}
use Rattle.text.specs.Texts.{ascii}
use Rattle.protocol.specs.Forms.{asks}
use Rattle.protocol.specs.Requests.{Line, letter, digit, named, pushed, number, word, field_end, barred, parting, fed, fed_line}
use Rattle.protocol.specs.Examples.{Examples, Reads, reads}
use Rattle.protocol.specs.declared.request.Request.{Request}

row : (line : String) (form : Request → Bool) (l : Line) → reads line ≡ l → form l.request ≡ true → Reads line form l
row line form l e f = record { read = e; asked = f }

pub examples : Examples
unfolding ascii letter digit named pushed number word field_end barred parting fed fed_line asks
examples = (
  row _ _ _ refl refl,
  row _ _ _ refl refl,
  row _ _ _ refl refl,
  row _ _ _ refl refl,
  row _ _ _ refl refl,
  row _ _ _ refl refl,
  row _ _ _ refl refl,
)
