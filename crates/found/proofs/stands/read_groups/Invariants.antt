-- The groups that are left, read into the words so far, are all of them read into those at first.
use mathlib.Core.Path.{◌≡◌}
use Prim.Native.Nat.{◌+◌}
use lib.ListN.{length, take, drop}
use Rattle.cells.specs.Groups.{groups_length}
use Rattle.found.specs.Stands.{groups_in}
use Rattle.found.proofs.stands.read_groups.Given as goal

abbrev pub invariant-loop-g : goal.invariant-loop-g
invariant-loop-g l =
    (groups_in (drop l.g-index l.groups) l.src l.p l.w
    ≡ groups_in l.groups l.src l.at l.initial.w)
    × (l.p ≡ l.at + groups_length (take l.g-index l.groups))
    × (length l.w ≡ length l.initial.w)
