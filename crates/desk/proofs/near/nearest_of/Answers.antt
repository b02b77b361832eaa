-- `desk::near::nearest_of` meets its contract: going on with what was found gives the whole answer.
use Rattle.std.proofs.Common.{refl, arith}
use Rattle.desk.proofs.NearLaws.{found-on, found-end}
use Rattle.desk.proofs.near.nearest_of.Goals as goal

pub loop-w-init : goal.loop-w-init
loop-w-init c = refl

pub loop-w-preserved : goal.loop-w-preserved
loop-w-preserved c =
    found-on c.args.tick c.args.row.now c.loop-w.w-index c.loop-w.found (omega arith)
    c.better_of-found.ensures c.loop-w.invariant

pub returns : goal.returns
returns c =
    found-end c.args.tick c.args.row.now c.loop-w.w-index c.loop-w.found (omega arith)
    c.loop-w.invariant
