-- `cells::groups::put_groups` meets its contract: at each turn the first groups are written.
use mathlib.Core.Path.{◌≡◌}
use lib.ListN.{length, take}
use Rattle.cells.specs.Cells.{chain, Wrote}
use Rattle.cells.specs.Groups.{group_bytes}
use Rattle.cells.proofs.groups.put_groups.Given as goal

abbrev pub invariant-loop-g : goal.invariant-loop-g
invariant-loop-g l =
    Wrote (chain (group_bytes l.w) (take l.g-index l.groups)) l.initial.out l.at l.out l.p
    × (length l.out ≡ length l.initial.out)
