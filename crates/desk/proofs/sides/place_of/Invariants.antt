-- The places that were passed have other frames.
use Rattle.desk.proofs.SideLaws.{Passed}
use Rattle.desk.proofs.sides.place_of.Given as goal

abbrev pub invariant-loop-i : goal.invariant-loop-i
invariant-loop-i l = Passed l.frame l.row l.i
