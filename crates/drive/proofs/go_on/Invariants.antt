-- `drive::go-on` meets its contract: at each turn the first i questions are answered.
use Prim.Native.Nat.{ℕ}
use mathlib.Core.List.{[]}
use Rattle.engine_safety.specs.Served.{Served}
use Rattle.drive.specs.Driven.{Asked}
use Rattle.drive.proofs.go_on.Given as goal

abbrev pub invariant-loop-i : goal.invariant-loop-i
invariant-loop-i l =
    (N J L : ℕ) → Served N J L [] l.initial.site l.initial.links
    → Asked N J L l.script l.initial.answers l.answers l.initial.site l.initial.links
    l.site l.links l.i
