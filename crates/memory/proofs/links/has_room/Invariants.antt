-- The boxes up to b have been asked.
use Prim.Native.Nat.{◌-◌}
use Rattle.memory.specs.After.{room_for}
use Rattle.memory.proofs.EveryLaws.{PassTo}
use Rattle.memory.proofs.links.has_room.Given as goal

abbrev pub invariant-loop-b : goal.invariant-loop-b
invariant-loop-b l = PassTo (room_for l.s l.links l.set) l.s.n (l.b - 1)
