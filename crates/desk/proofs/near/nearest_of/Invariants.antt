-- Going on with what was found gives the whole answer.
use Rattle.std.proofs.Common.{◌≡◌, drop}
use Rattle.desk.specs.Near.{nearest_from, nearest_of}
use Rattle.desk.proofs.near.nearest_of.Given as goal

abbrev pub invariant-loop-w : goal.invariant-loop-w
invariant-loop-w l = nearest_from l.tick l.found (drop l.w-index l.row) ≡ nearest_of l.tick l.row
