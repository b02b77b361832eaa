-- `words::copy` meets its contract: what is written, and behind it the rest of src, is src.
use mathlib.Core.Path.{refl}
use Prim.Native.Nat.{◌≤◌}
use native.Mathlib.Omega.{arith}
use lib.ListN.{length, length-set, drop_of_length-le}
use Rattle.words.proofs.WriteLaws.{write_end, copy_more}
use Rattle.words.proofs.copy.Goals as goal

pub loop-i-init : goal.loop-i-init
loop-i-init c = (refl, refl)

pub loop-i-preserved : goal.loop-i-preserved
loop-i-preserved c =
    let l = c.loop-i in
    let src = c.args.src.now in
    let more =
    copy_more l.dst l.i 0 src (omega arith) (omega (arith, l.invariant.1)) l.invariant.0 in
    (more, simp length-set l.invariant.1)

pub returns : goal.returns
returns c =
    let l = c.loop-i in
    let src = c.args.src.now in
    let h : length src ≤ l.i = omega arith in
    write_end src l.dst l.i (omega (arith, l.invariant.1))
    (rw (drop_of_length-le src h) at l.invariant.0)
