-- The digits of the first i bytes are written.
use Rattle.std.proofs.Common.{◌*◌, take}
use Rattle.print.specs.Text.{Wrote}
use Rattle.hexed.specs.Hex.{digits_of}
use Rattle.hexed.proofs.put_digits.Given as goal

abbrev pub invariant-loop-b : goal.invariant-loop-b
invariant-loop-b l =
    Wrote (2 * l.b-index) l.initial.out l.out l.at l.p (digits_of (take l.b-index l.src))
