-- `words::place` meets its contract, by the law of a place before the ring's end and the law of
-- one past it.
use native.Mathlib.Omega.{arith}
use Rattle.words.proofs.RingLaws.{slot_in, slot-round}
use Rattle.words.proofs.place.Goals as goal

pub returns-then-i-left : goal.returns-then-i-left
returns-then-i-left c = let a = c.args in omega (arith, slot_in a.l a.s a.i (omega arith))

pub returns : goal.returns
returns c =
    let a = c.args in omega (arith, slot-round a.l a.s a.i (omega arith))
