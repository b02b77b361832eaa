-- `cells::put_words` meets its contract: at each turn the first numbers are written.
use mathlib.Core.Path.{refl, ◌∙◌}
use Prim.Native.Nat.{◌+◌, ◌≤◌}
use native.Mathlib.Omega.{arith}
use lib.ListN.{length, get_or}
use Rattle.le.specs.Le.{le}
use Rattle.le.proofs.LeLaws.{length-le}
use Rattle.cells.proofs.WriteLaws.{room-next, wrote_none, wrote-next, wrote-all, wrote-le}
use Rattle.cells.proofs.WriteLaws.{wrote-length}
use Rattle.cells.proofs.put_words.Goals.{In-loop-x}
use Rattle.cells.proofs.put_words.Goals as goal

room : (c : In-loop-x) →
    c.loop-x.p + c.args.k ≤ length c.loop-x.out
room c =
    let k = c.args.k in
    let ws = c.args.ws.now in
    rw (← length-le k (get_or ws c.loop-x.x-index 0))
    (room-next (le k) ws 0 c.loop-x.x-index c.loop-x-test.true c.requires c.loop-x.invariant.0).fits

pub loop-x-init : goal.loop-x-init
loop-x-init c = (
  wrote_none (le c.args.k) c.args.ws.now c.args.out.now c.args.at (omega arith),
  refl,
)

pub put_at-requires : goal.put_at-requires
put_at-requires c = omega (arith, room (goal.at.put_at-requires c).In-loop-x)

pub overflow_add-p : goal.overflow_add-p
overflow_add-p c =
    omega (arith, room (goal.at.overflow_add-p c).In-loop-x)

pub loop-x-preserved : goal.loop-x-preserved
loop-x-preserved c =
    let x = get_or c.args.ws.now c.loop-x.x-index 0 in
    let w = wrote-le c.args.k x c.loop-x.out c.put_at.new.out c.loop-x.p
    (room (goal.at.loop-x-preserved c).In-loop-x)
    c.put_at.ensures in (
      wrote-next (le c.args.k) c.args.ws.now 0 c.loop-x.x-index c.loop-x-test.true
          c.loop-x.invariant.0 w,
      wrote-length w ∙ c.loop-x.invariant.1,
    )

pub returns : goal.returns
returns c =
    wrote-all (le c.args.k) c.args.ws.now c.loop-x.x-index (omega arith)
    c.loop-x.invariant.0
