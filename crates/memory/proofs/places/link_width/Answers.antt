use native.Mathlib.Omega.{arith}
use Rattle.memory.proofs.SizeLaws.{link-most}
use Rattle.memory.proofs.places.link_width.Goals as goal

pub overflow_mul-result : goal.overflow_mul-result
overflow_mul-result c = omega (arith, link-most c.requires)

pub overflow_add-result : goal.overflow_add-result
overflow_add-result c = omega (arith, link-most c.requires)
