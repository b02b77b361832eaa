use native.Mathlib.Omega.{arith}
use Rattle.laws.proofs.FormLaws.{sizes-says, is-box}
use Rattle.memory.proofs.SizeLaws.{rows-most}
use Rattle.memory.proofs.places.row_start.Goals as goal

pub overflow_sub-before : goal.overflow_sub-before
overflow_sub-before c =
    let h = is-box {c = c.args.b} c.requires.b_value in omega (arith, h.0)

pub row_at-requires : goal.row_at-requires
row_at-requires c =
    let h = is-box {c = c.args.b} c.requires.b_value in
    rw c.row_width-width.ensures
    (omega (arith, h.0, h.1), omega (arith, rows-most (sizes-says c.requires.l_value)))

pub overflow_add-result : goal.overflow_add-result
overflow_add-result c =
    omega (
      arith,
      rows-most (sizes-says c.requires.l_value),
      rw c.row_width-width.ensures at
          c.row_at.ensures.1,
    )

pub returns : goal.returns
returns c =
    let at = rw c.row_width-width.ensures at c.row_at.ensures in
    (omega (arith, at.0), omega (arith, at.1))
