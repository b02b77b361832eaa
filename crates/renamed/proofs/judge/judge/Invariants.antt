-- `renamed::judge::judge` meets its contract.
use Prim.Native.Nat.{◌-◌, ◌≤◌}
use mathlib.Core.Path.{◌≡◌}
use lib.ListN.{length, drop}
use Rattle.renamed.specs.Trace.{lines_in}
use Rattle.renamed.specs.Judge.{judged_all}
use Rattle.renamed.proofs.judge.judge.Given as goal

abbrev pub invariant-loop-i : goal.invariant-loop-i
invariant-loop-i l =
    (l.i ≤ length l.s)
    × (judged_all l.to l.so_far (lines_in l.from (drop l.i l.s)) ≡ judged_all l.to l.initial.so_far
    (lines_in l.from l.s))

abbrev pub decreases-loop-i : goal.decreases-loop-i
decreases-loop-i l = length l.s - l.i
