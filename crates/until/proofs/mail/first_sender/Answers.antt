-- The boxes below a have no mail under way.
use mathlib.Core.Path.{ap}
use native.Mathlib.Omega.{arith}
use lib.Dec.{ltb}
use borrow.Author.Tests.{lt-ltb, le-ltb}
use Rattle.until.proofs.FirstLaws.{box-here, none-yet, none_more, none-stop, none-all}
use Rattle.until.proofs.mail.first_sender.Goals as goal

pub first_receiver-b-requires : goal.first_receiver-b-requires
first_receiver-b-requires c = record {
  links_lent = c.requires;
  a_value = box-here c.loop-a.invariant (omega arith);
}

pub returns-then-b-gt0 : goal.returns-then-b-gt0
returns-then-b-gt0 c =
    none-stop c.loop-a.invariant (omega arith)
    (ap (ltb 0) c.first_receiver-b.ensures) (lt-ltb _ _ c.if-b-gt0.true)

pub loop-a-preserved : goal.loop-a-preserved
loop-a-preserved c =
    none_more c.loop-a.invariant (omega arith)
    (ap (ltb 0) c.first_receiver-b.ensures) (le-ltb _ _ c.if-b-gt0.false)

pub loop-a-init : goal.loop-a-init
loop-a-init c = none-yet

pub returns : goal.returns
returns c = none-all c.loop-a.invariant (omega arith)

pub returns-else-b-gt0 : goal.returns-else-b-gt0
returns-else-b-gt0 c =
    none-all (none_more c.loop-a.invariant (omega arith) (ap (ltb 0) c.first_receiver-b.ensures)
    (le-ltb _ _ c.if-b-gt0.false)) (omega arith)
