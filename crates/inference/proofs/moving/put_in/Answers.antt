-- `put_in` meets its contract: the codomain and the argument are held as `put_held` asks for.
use native.Mathlib.Omega.{arith}
use Rattle.inference.proofs.Holding.{codes_size, copy_long, codomain_held, argument_held, pair_held}
use Rattle.inference.proofs.moving.put_in.Goals as goal

pub note-requires : goal.note-requires
note-requires c =
    let p = c.requires in
    let C = p.2 in
    let A = p.3 in
    let many = codes_size A in
    (omega (arith, copy_long c.told-held C c.copy.ensures, A.short), omega (arith, A.short), (A.term, A.coded))

pub put_held-requires : goal.put_held-requires
put_held-requires c =
    let p = c.requires in
    (p.0, p.1, pair_held c.told-held p.2 c.copy.ensures p.3 c.note.ensures)

pub returns : goal.returns
returns c = λ b u h hb l k hu.
    let p = c.requires in
    c.put_held.ensures b u
    (codomain_held c.told-held p.2 c.copy.ensures p.3 c.note.ensures b h l) hb
    (argument_held c.told-held p.2 c.copy.ensures p.3 c.note.ensures u k) hu
