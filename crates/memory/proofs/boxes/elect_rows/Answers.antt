-- The boxes up to b are as the election leaves them.
use native.Mathlib.Omega.{arith}
use mathlib.Core.Path.{◌≡◌}
use Prim.Native.Nat.{◌+◌, ◌-◌}
use Rattle.memory.proofs.ElectLaws.{next-form, elect-more, elect-all}
use Rattle.memory.proofs.boxes.elect_rows.Goals as goal

pub loop-b-preserved : goal.loop-b-preserved
loop-b-preserved c =
    let here : c.loop-b.b - 1 + 1 ≡ c.loop-b.b = omega arith in
    let next : c.loop-b.b + 1 - 1 ≡ c.loop-b.b - 1 + 1 = omega arith in
    rw next
    (elect-more c.args.c c.requires c.loop-b.invariant (omega arith) (rw here c.elect_row.ensures))

pub returns : goal.returns
returns c =
    elect-all c.args.c c.requires c.loop-b.invariant (omega arith)

pub returns-2 : goal.returns-2
returns-2 c =
    let here : c.loop-b.b - 1 + 1 ≡ c.loop-b.b = omega arith in
    elect-all c.args.c c.requires
    (elect-more c.args.c c.requires c.loop-b.invariant (omega arith) (rw here c.elect_row.ensures))
    (omega arith)

pub elect_row-requires-clause-b_value_2 : goal.elect_row-requires-clause-b_value_2
elect_row-requires-clause-b_value_2 c =
    let here : c.loop-b.b - 1 + 1 ≡ c.loop-b.b = omega arith in
    rw (← here) (next-form c.args.c c.requires c.loop-b.invariant (omega arith))
