use native.Mathlib.Omega.{arith}
use Rattle.laws.proofs.FormLaws.{sizes-says}
use Rattle.memory.proofs.SizeLaws.{link-sizes, links-most}
use Rattle.memory.proofs.places.link_end.Goals as goal

pub link_width-requires : goal.link_width-requires
link_width-requires c = link-sizes (sizes-says c.requires.l_value)

pub overflow_add-result : goal.overflow_add-result
overflow_add-result c = omega (
  arith,
  links-most (sizes-says c.requires.l_value),
  c.link_width.ensures,
)
