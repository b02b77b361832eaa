use native.Mathlib.Omega.{arith}
use Rattle.laws.proofs.FormLaws.{sizes-says}
use Rattle.memory.proofs.SizeLaws.{pairs-most}
use Rattle.memory.proofs.places.link_count.Goals as goal

pub overflow_sub-result : goal.overflow_sub-result
overflow_sub-result c = let h = sizes-says c.requires in omega arith

pub overflow_mul-result : goal.overflow_mul-result
overflow_mul-result c = omega (arith, pairs-most (sizes-says c.requires))
