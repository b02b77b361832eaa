-- `le::put_each` meets its contract: what is written, and behind it the bytes of what is left of x,
-- are the bytes of x.
use mathlib.Core.Path.{◌≡◌}
use mathlib.Core.List.{◌++◌}
use Prim.Native.Nat.{◌-◌}
use lib.ListN.{length, take}
use Rattle.le.specs.Le.{le}
use Rattle.le.proofs.put_each.Given as goal

abbrev pub invariant-loop-byte : goal.invariant-loop-byte
invariant-loop-byte l =
    le (length l.dst) l.x ≡ take l.byte-index l.dst ++ le (length l.dst - l.byte-index) l.v
