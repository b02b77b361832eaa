use Rattle.std.proofs.Common.{length, ◌≡◌, ◌+◌, ◌-◌, ◌≤◌}
use Rattle.by_lines.proofs.Reader.take_piece.Given as goal

abbrev pub invariant-loop-i : goal.invariant-loop-i
invariant-loop-i g l =
    (l.i ≤ length l.piece + 1) × (length l.line ≡ length l.initial.line)
    × g.A.Answers.fits l.to × (g.A.Answers.cut_from l.to ≡ g.A.Answers.cut_from l.initial.to)

abbrev pub decreases-loop-i : goal.decreases-loop-i
decreases-loop-i g l = length l.piece + 1 - l.i
