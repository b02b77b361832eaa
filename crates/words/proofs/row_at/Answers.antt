-- `words::row_at` meets its contract, by the law of a row's end.
use native.Mathlib.Omega.{arith}
use Rattle.words.proofs.RowLaws.{row-end}
use Rattle.words.proofs.row_at.Goals as goal

pub overflow_mul-result : goal.overflow_mul-result
overflow_mul-result c = omega (arith, row-end c.args.w c.requires.0)

pub returns : goal.returns
returns c = omega (arith, row-end c.args.w c.requires.0)
