use Rattle.std.proofs.Common.{◌≡◌, ◌-◌, length}
use Rattle.by_lines.proofs.whole.fill.Given as goal

abbrev pub invariant-loop-k : goal.invariant-loop-k
invariant-loop-k g l = length l.buf ≡ length l.initial.buf

abbrev pub decreases-loop-k : goal.decreases-loop-k
decreases-loop-k g l = length l.initial.buf - l.k
