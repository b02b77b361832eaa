-- The first i bytes are written.
use Rattle.std.proofs.Common.{length, take, ◌-◌, ◌≤◌}
use Rattle.std.specs.Io.KnownBytes.{Appends}
use Rattle.streams.proofs.send.Given as goal

abbrev pub invariant-loop-i : goal.invariant-loop-i
invariant-loop-i g l =
    (l.i ≤ length l.buf)
    × Appends (g.W.Write.contents l.initial.to) (g.W.Write.contents l.to) (take l.i l.buf)

abbrev pub decreases-loop-i : goal.decreases-loop-i
decreases-loop-i g l = length l.buf - l.i
