use mathlib.Core.Path.{◌≡◌}
use lib.ListN.{drop}
use Rattle.wording.specs.Fault.{within}
use Rattle.wording.proofs.fault.has.Given as goal

abbrev pub invariant-loop-i : goal.invariant-loop-i
invariant-loop-i l = within l.w (drop l.i l.s) ≡ within l.w l.s
