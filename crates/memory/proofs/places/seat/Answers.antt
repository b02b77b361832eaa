use native.Mathlib.Omega.{arith}
use borrow.Author.Tests.{lt-ltb, le-ltb}
use Rattle.memory.proofs.places.seat.Goals as goal

pub returns-then-b-a : goal.returns-then-b-a
returns-then-b-a c = rw (lt-ltb _ _ c.if-b-a.true)

pub overflow_sub-result-2 : goal.overflow_sub-result-2
overflow_sub-result-2 c = omega (arith, c.requires.2)

pub returns : goal.returns
returns c = rw (le-ltb _ _ c.if-b-a.false)
