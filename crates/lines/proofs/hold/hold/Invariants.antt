use Prim.Native.Nat.{◌≤◌}
use mathlib.Core.Path.{◌≡◌}
use lib.ListN.{length}
use lib.Seq.{paste}
use Rattle.lines.proofs.hold.hold.Given as goal

abbrev pub invariant-loop-j : goal.invariant-loop-j
invariant-loop-j l =
    (l.j ≤ l.m) × (length l.line ≡ length l.initial.line)
    × (l.line ≡ paste l.initial.line l.n l.piece l.j)
