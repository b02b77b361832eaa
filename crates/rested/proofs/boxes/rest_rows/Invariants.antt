-- The boxes up to b are at rest.
use Prim.Native.Nat.{◌-◌}
use Rattle.rested.proofs.EachLaws.{RestedUpTo}
use Rattle.rested.proofs.boxes.rest_rows.Given as goal

abbrev pub invariant-loop-b : goal.invariant-loop-b
invariant-loop-b l = RestedUpTo l.s l.initial.site (l.b - 1) l.site
