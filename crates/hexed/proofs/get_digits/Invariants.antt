-- The first i bytes have their digits.
use Rattle.std.proofs.Common.{◌≡◌, length, ◌*◌, take}
use Rattle.hexed.specs.Hex.{digits_of, smalls}
use Rattle.hexed.proofs.get_digits.Given as goal

abbrev pub invariant-loop-i : goal.invariant-loop-i
invariant-loop-i l =
    (length l.out ≡ length l.initial.out)
    × (digits_of (take l.i l.out) ≡ take (2 * l.i) (smalls l.text))
