-- A place is a row of the places, behind two words.
use native.Mathlib.Omega.{arith}
use Rattle.link.proofs.HoldLaws.{places-most}
use Rattle.link.proofs.place_at.Goals as goal

pub row_at-requires : goal.row_at-requires
row_at-requires c = omega (arith, places-most c.requires.link_sizes)

pub overflow_add-result : goal.overflow_add-result
overflow_add-result c = omega (arith, places-most c.requires.link_sizes)

pub returns : goal.returns
returns c = (rw (c.row_at.ensures.0, c.place-p.ensures.0), omega arith)
