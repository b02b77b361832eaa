-- The bytes before this one are digits.
use Rattle.std.proofs.Common.{ℕ, ◌<◌, get_or}
use Rattle.hexed.specs.Hex.{value_of, smalls}
use Rattle.hexed.proofs.all_digits.Given as goal

abbrev pub invariant-loop-b : goal.invariant-loop-b
invariant-loop-b l = (k : ℕ) → k < l.b-index → value_of (get_or (smalls l.text) k 0) < 16
