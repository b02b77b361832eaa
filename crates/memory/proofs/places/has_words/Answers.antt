use native.Mathlib.Omega.{arith}
use Rattle.laws.proofs.FormLaws.{sizes-says}
use Rattle.memory.proofs.SizeLaws.{rows-most, link-sizes, links-most}
use Rattle.memory.proofs.places.has_words.Goals as goal

pub overflow_mul-rows : goal.overflow_mul-rows
overflow_mul-rows c =
    rw c.row_width.ensures (omega (arith, rows-most (sizes-says c.requires)))

pub link_width-requires : goal.link_width-requires
link_width-requires c =
    link-sizes (sizes-says c.requires)

pub overflow_mul-pairs : goal.overflow_mul-pairs
overflow_mul-pairs c =
    rw (c.link_count.ensures, c.link_width.ensures)
    (omega (arith, links-most (sizes-says c.requires)))

pub overflow_add-result : goal.overflow_add-result
overflow_add-result c =
    rw c.row_width.ensures (omega (arith, rows-most (sizes-says c.requires)))

pub returns : goal.returns
returns c =
    simp
    (c.link_width.ensures, c.link_count.ensures, c.row_width.ensures)
