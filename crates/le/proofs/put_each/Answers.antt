-- `le::put_each` meets its contract: what is written, and behind it the bytes of what is left of x,
-- are the bytes of x.
use mathlib.Core.Path.{◌≡◌}
use Prim.Native.Nat.{◌-◌}
use native.Mathlib.Omega.{arith}
use lib.ListN.{length, length-set}
use Rattle.words.proofs.WriteLaws.{write_end}
use Rattle.le.specs.Le.{le}
use Rattle.le.proofs.LeLaws.{put-more}
use Rattle.le.proofs.put_each.Goals as goal

pub loop-byte-preserved : goal.loop-byte-preserved
loop-byte-preserved c =
    let l = c.loop-byte in
    rw length-set
    (put-more (length l.dst) c.args.x l.dst l.byte-index l.v (omega arith) (omega arith)
    l.invariant)

pub returns : goal.returns
unfolding le
returns c =
    let l = c.loop-byte in
    let n = length c.args.dst.now in
    let none : n - l.byte-index ≡ 0 = omega arith in
    write_end (le n c.args.x) l.dst l.byte-index (omega arith) (rw (
      l.auto.dst,
      none,
    ) at l.invariant)
