-- `renamed::text::has-room` meets its contract.
use Prim.Native.Nat.{◌-◌}
use lib.ListN.{length}
use Rattle.renamed.proofs.TextLaws.{Room}
use Rattle.renamed.proofs.text.has_room.Given as goal

abbrev pub invariant-loop-i : goal.invariant-loop-i
invariant-loop-i l = Room l.from l.to l.s l.room l.i l.left

abbrev pub decreases-loop-i : goal.decreases-loop-i
decreases-loop-i l = length l.s - l.i
