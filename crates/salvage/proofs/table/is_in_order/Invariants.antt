use Rattle.salvage.proofs.TableLaws.{FollowTo}
use Rattle.salvage.proofs.table.is_in_order.Given as goal

abbrev pub invariant-loop-i : goal.invariant-loop-i
invariant-loop-i l = FollowTo l.image l.count l.at l.i l.p
