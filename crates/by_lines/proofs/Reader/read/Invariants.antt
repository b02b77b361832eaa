use Rattle.std.proofs.Common.{length, ◌≡◌}
use Rattle.by_lines.proofs.Reader.read.Given as goal

abbrev pub invariant-loop : goal.invariant-loop
invariant-loop g l =
    (length l.piece ≡ length l.initial.piece) × (length l.line ≡ length l.initial.line)
    × g.A.Answers.fits l.to × (g.A.Answers.cut_from l.to ≡ g.A.Answers.cut_from l.initial.to)
