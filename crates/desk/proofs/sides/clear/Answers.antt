-- `desk::sides::clear` meets its contract: what is cleared, and behind it what is still to be.
use Rattle.std.proofs.Common.{refl, arith, length-set, rules}
use Rattle.desk.specs.Sides.{without}
use Rattle.desk.proofs.SideLaws.{clear-more, clear-end}
use Rattle.desk.proofs.sides.clear.Goals as goal

pub loop-i-init : goal.loop-i-init
loop-i-init c = (refl, refl)

pub loop-i-preserved : goal.loop-i-preserved
loop-i-preserved c = (
  clear-more c.args.frame (without c.args.frame c.args.row.now) c.loop-i.row
      c.loop-i.i (omega arith)
      c.unless_of.ensures c.loop-i.invariant.0,
  simp length-set c.loop-i.invariant.1,
)

pub shape_of-row : goal.shape_of-row
shape_of-row c = search rules

pub returns : goal.returns
returns c =
    clear-end c.args.frame (without c.args.frame c.args.row.now) c.loop-i.row
    c.loop-i.i (omega arith)
    c.loop-i.invariant.0
