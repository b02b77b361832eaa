use mathlib.Core.Path.{refl, ◌∙◌}
use native.Mathlib.Omega.{arith}
use lib.ListN.{length-set}
use lib.Seq.{paste-zero}
use Rattle.lines.proofs.HoldLaws.{copied_more, kept-is}
use Rattle.lines.proofs.hold.hold.Goals as goal

pub loop-j-init : goal.loop-j-init
loop-j-init c = (
  omega arith,
  refl,
  paste-zero c.args.line.now c.min-n.result c.args.piece.now,
)

pub overflow_add-line : goal.overflow_add-line
overflow_add-line c =
    omega (arith, c.min-n.ensures, c.min-m.ensures)

pub bounds-line-n : goal.bounds-line-n
bounds-line-n c =
    omega (arith, c.min-n.ensures, c.min-m.ensures)

pub loop-j-preserved : goal.loop-j-preserved
loop-j-preserved c = (
  omega arith,
  length-set c.loop-j.line _ _ ∙ c.loop-j.invariant.1,
  copied_more c.args.line.now c.args.piece.now _ c.min-n.result
      c.loop-j.j (omega (arith, c.min-n.ensures, c.min-m.ensures))
      (omega (arith, c.min-m.ensures)) c.loop-j.invariant.2,
)

pub overflow_add-result : goal.overflow_add-result
overflow_add-result c =
    omega (arith, c.min-n.ensures, c.min-m.ensures)

pub returns : goal.returns
returns c =
    kept-is c.args.line.now c.args.piece.now _ c.args.len
    c.min-n.result c.min-m.result c.loop-j.j
    c.min-n.ensures c.min-m.ensures (omega arith)
    c.loop-j.invariant.0 c.loop-j.invariant.2

pub bounds-piece-j : goal.bounds-piece-j
bounds-piece-j c = omega (arith, c.min-m.ensures)

pub shape_of-line : goal.shape_of-line
shape_of-line c = c.loop-j.invariant.1
