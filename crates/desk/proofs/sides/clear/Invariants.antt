-- `desk::sides::clear` meets its contract: what is cleared, and behind it what is still to be.
use Rattle.std.proofs.Common.{◌≡◌, length}
use Rattle.desk.specs.Sides.{without}
use Rattle.desk.proofs.SideLaws.{Cleared}
use Rattle.desk.proofs.sides.clear.Given as goal

abbrev pub invariant-loop-i : goal.invariant-loop-i
invariant-loop-i l =
    Cleared l.frame (without l.frame l.initial.row) l.row l.i
    × (length l.row ≡ length l.initial.row)
