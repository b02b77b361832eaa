-- `cells::put_words` meets its contract: at each turn the first numbers are written.
use mathlib.Core.Path.{◌≡◌}
use lib.ListN.{length, take}
use Rattle.cells.specs.Cells.{cells, Wrote}
use Rattle.cells.proofs.put_words.Given as goal

abbrev pub invariant-loop-x : goal.invariant-loop-x
invariant-loop-x l =
    Wrote (cells l.k (take l.x-index l.ws)) l.initial.out l.at l.out l.p
    × (length l.out ≡ length l.initial.out)
