-- `publish::write::write` is safe and ends.
use Rattle.std.proofs.Common.{◌≡◌, length}
use Rattle.publish.proofs.write.write.Given as goal

abbrev pub invariant-loop : goal.invariant-loop
invariant-loop g l =
    (length l.piece ≡ length l.initial.piece) × (length l.out ≡ length l.initial.out)
