-- The boxes up to b are fresh.
use Prim.Native.Nat.{◌-◌}
use Rattle.rules.specs.Site.{fresh_box}
use Rattle.memory.proofs.EachLaws.{BoxesUpTo}
use Rattle.memory.proofs.boxes.fresh_rows.Given as goal

abbrev pub invariant-loop-b : goal.invariant-loop-b
invariant-loop-b l = BoxesUpTo l.s (λ c. fresh_box) l.initial.site (l.b - 1) l.site
