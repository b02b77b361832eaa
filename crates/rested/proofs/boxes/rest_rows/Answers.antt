-- The boxes up to b are at rest.
use mathlib.Core.Path.{◌≡◌}
use Prim.Native.Nat.{◌+◌, ◌-◌}
use native.Mathlib.Omega.{arith}
use Rattle.rested.proofs.EachLaws.{rested-none, next-lent, rested-more}
use Rattle.rested.proofs.EachLaws.{rested-all}
use Rattle.rested.proofs.boxes.rest_rows.Goals as goal

pub loop-b-init : goal.loop-b-init
loop-b-init c = rested-none c.requires

pub rest_row-requires : goal.rest_row-requires
rest_row-requires c =
    let here : c.loop-b.b - 1 + 1 ≡ c.loop-b.b = omega arith in
    rw (← here) (next-lent c.requires c.loop-b.invariant (omega arith))

pub loop-b-preserved : goal.loop-b-preserved
loop-b-preserved c =
    let here : c.loop-b.b - 1 + 1 ≡ c.loop-b.b = omega arith in
    let next : c.loop-b.b + 1 - 1 ≡ c.loop-b.b - 1 + 1 = omega arith in
    rw next
    (rested-more c.requires c.loop-b.invariant (omega arith) (rw here c.rest_row.ensures))

pub returns : goal.returns
returns c =
    rested-all c.requires c.loop-b.invariant (omega arith)

pub returns-2 : goal.returns-2
returns-2 c =
    let here : c.loop-b.b - 1 + 1 ≡ c.loop-b.b = omega arith in
    rested-all c.requires
    (rested-more c.requires c.loop-b.invariant (omega arith) (rw here c.rest_row.ensures))
    (omega arith)
