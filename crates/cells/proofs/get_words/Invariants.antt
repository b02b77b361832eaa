-- `cells::get_words` meets its contract: at each turn the first numbers are read.
use mathlib.Core.Path.{◌≡◌}
use Prim.Native.Nat.{◌+◌, ◌*◌}
use lib.ListN.{length, take}
use Rattle.cells.specs.Cells.{Read}
use Rattle.cells.proofs.get_words.Given as goal

abbrev pub invariant-loop-x : goal.invariant-loop-x
invariant-loop-x l =
    (l.p ≡ l.at + l.x-index * l.k) × (length l.dst ≡ length l.initial.dst)
    × Read l.k l.src l.at
    (take l.x-index l.dst) l.p
