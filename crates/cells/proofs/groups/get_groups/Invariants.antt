-- `cells::groups::get_groups` meets its contract: at each turn the first groups are read.
use mathlib.Core.Path.{◌≡◌}
use Prim.Native.Nat.{◌+◌}
use lib.ListN.{take}
use Rattle.cells.specs.Groups.{groups_length, GroupsRead}
use Rattle.cells.proofs.groups.get_groups.Given as goal

abbrev pub invariant-loop-g : goal.invariant-loop-g
invariant-loop-g l =
    GroupsRead (take l.g-index l.groups) l.src l.at l.initial.w l.w l.p
    × (l.p ≡ l.at + groups_length (take l.g-index l.groups))
