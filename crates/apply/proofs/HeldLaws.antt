-- What is held of a line stands in its buffer.
use Rattle.std.proofs.Common.{ℕ, ◌≤◌, List, ◌++◌, length, take, arith, length-take}
use Rattle.lines.specs.Hold.{KeepIs}

pub held-inside : {o piece p : List ℕ} {len r : ℕ} → KeepIs o len piece p r → r ≤ length o
held-inside {o} {piece} {len = len} h =
    omega (arith, h.count, length-take (length o) (take len o ++ piece))
