-- `lines::starts` meets its contract.
use mathlib.Core.Path.{◌≡◌}
use lib.ListN.{drop}
use Rattle.lines.specs.Table.{starts}
use Rattle.lines.proofs.starts.Given as goal

abbrev pub invariant-loop-i : goal.invariant-loop-i
invariant-loop-i l = starts (drop l.i l.w) (drop l.i l.s) ≡ starts l.w l.s
