-- The boxes up to b have been asked.
use mathlib.Core.Path.{◌≡◌}
use native.Mathlib.Omega.{arith}
use Prim.Native.Nat.{◌+◌, ◌-◌}
use Rattle.memory.proofs.EveryLaws.{pass-none, pass-more, pass-stop}
use Rattle.memory.proofs.EveryLaws.{pass_all}
use mathlib.Core.Path.{ap}
use mathlib.Core.Bool.{not}
use Rattle.memory.proofs.links.has_room.Goals as goal

pub returns-then-not-has_room_for : goal.returns-then-not-has_room_for
returns-then-not-has_room_for c =
    let here : c.loop-b.b - 1 + 1 ≡ c.loop-b.b = omega arith in
    pass-stop c.loop-b.invariant (omega arith) (rw here c.has_room_for.ensures)
    (ap not c.if-not-has_room_for.true)

pub loop-b-preserved : goal.loop-b-preserved
loop-b-preserved c =
    let here : c.loop-b.b - 1 + 1 ≡ c.loop-b.b = omega arith in
    let next : c.loop-b.b + 1 - 1 ≡ c.loop-b.b - 1 + 1 = omega arith in
    rw next
    (pass-more c.loop-b.invariant (omega arith) (rw here c.has_room_for.ensures)
    (ap not c.if-not-has_room_for.false))

pub returns : goal.returns
returns c = pass_all c.loop-b.invariant (omega arith)

pub returns-else-not-has_room_for : goal.returns-else-not-has_room_for
returns-else-not-has_room_for c =
    let here : c.loop-b.b - 1 + 1 ≡ c.loop-b.b = omega arith in
    pass_all
    (pass-more c.loop-b.invariant (omega arith) (rw here c.has_room_for.ensures)
    (ap not c.if-not-has_room_for.false))
    (omega arith)

pub loop-b-init : goal.loop-b-init
loop-b-init c = pass-none
