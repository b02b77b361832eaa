use native.Mathlib.Omega.{arith}
use Rattle.laws.proofs.FormLaws.{sizes-says, is-link}
use Rattle.memory.proofs.SizeLaws.{pairs-most, index_below}
use Rattle.memory.proofs.places.link_index.Goals as goal

pub overflow_sub-before : goal.overflow_sub-before
overflow_sub-before c =
    let h = is-link {a = c.args.a} {b = c.args.b} c.requires.b_value in omega (arith, h.0.0)

pub overflow_sub-others : goal.overflow_sub-others
overflow_sub-others c = let h = sizes-says c.requires.l_value in omega arith

pub overflow_mul-result : goal.overflow_mul-result
overflow_mul-result c =
    omega (
      arith,
      pairs-most (sizes-says c.requires.l_value),
      index_below c.args.s.n c.args.a
          c.args.b c.requires.b_value,
    )

pub seat-requires : goal.seat-requires
seat-requires c = let h = is-link c.requires.b_value in (h.0.0, h.1.0, h.2)

pub overflow_add-result : goal.overflow_add-result
overflow_add-result c =
    omega (
      arith,
      pairs-most (sizes-says c.requires.l_value),
      index_below c.args.s.n c.args.a
          c.args.b c.requires.b_value,
    )

pub returns : goal.returns
returns c =
    let below = index_below c.args.s.n c.args.a c.args.b c.requires.b_value in
    (omega (arith, c.seat.ensures), omega (arith, c.seat.ensures))
