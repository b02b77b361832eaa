use native.Mathlib.Omega.{arith}
use Rattle.laws.proofs.FormLaws.{sizes-says}
use Rattle.memory.proofs.SizeLaws.{link-sizes, links-most}
use Rattle.memory.proofs.places.link_row.Goals as goal

pub row_at-requires : goal.row_at-requires
row_at-requires c =
    rw (c.link_count.ensures, c.link_width-width.ensures)
    (c.requires.k_bound, omega (arith, links-most (sizes-says c.requires.l_value)))

pub returns : goal.returns
returns c =
    rw (c.link_count.ensures, c.link_width-width.ensures) at
    c.row_at.ensures

pub link_width-width-requires : goal.link_width-width-requires
link_width-width-requires c = link-sizes (sizes-says c.requires.l_value)
