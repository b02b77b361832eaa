-- `publish::look::look` is safe and ends.
use Rattle.std.proofs.Common.{◌≡◌, length}
use Rattle.publish.proofs.look.look.Given as goal

abbrev pub invariant-loop : goal.invariant-loop
invariant-loop g l =
    (length l.piece ≡ length l.initial.piece) × (length l.shown ≡ length l.initial.shown)
