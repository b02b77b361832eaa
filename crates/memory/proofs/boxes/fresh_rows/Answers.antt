-- The boxes up to b are fresh.
use mathlib.Core.Path.{refl}
use native.Mathlib.Omega.{arith}
use mathlib.Core.Path.{◌≡◌}
use Prim.Native.Nat.{◌+◌, ◌-◌}
use Rattle.memory.proofs.EachLaws.{boxes-more, boxes-all}
use Rattle.memory.proofs.boxes.fresh_rows.Goals as goal

pub loop-b-preserved : goal.loop-b-preserved
loop-b-preserved c =
    let here : c.loop-b.b - 1 + 1 ≡ c.loop-b.b = omega arith in
    let next : c.loop-b.b + 1 - 1 ≡ c.loop-b.b - 1 + 1 = omega arith in
    rw next (boxes-more c.loop-b.invariant (omega arith) (rw here c.fresh_row.ensures))

pub returns : goal.returns
returns c =
    boxes-all c.loop-b.invariant (omega arith) c.requires.l_value
    c.requires.j_in_bounds (λ b g. refl)

pub returns-2 : goal.returns-2
returns-2 c =
    let here : c.loop-b.b - 1 + 1 ≡ c.loop-b.b = omega arith in
    boxes-all (boxes-more c.loop-b.invariant (omega arith) (rw here c.fresh_row.ensures))
    (omega arith) c.requires.l_value c.requires.j_in_bounds (λ b g. refl)
