-- Box a's links to the boxes below b hold no mail.
use native.Mathlib.Omega.{arith}
use Rattle.until.proofs.FirstLaws.{box-here, none-yet, none_more, none-stop, none-all}
use Rattle.until.proofs.mail.first_receiver.Goals as goal

pub holds_mail-requires : goal.holds_mail-requires
holds_mail-requires c = record {
  links_lent = c.requires.links_lent;
  a_value = c.requires.a_value;
  b_value = box-here c.loop-b.invariant (omega arith);
}

pub returns-then-holds_mail : goal.returns-then-holds_mail
returns-then-holds_mail c =
    none-stop c.loop-b.invariant (omega arith) c.holds_mail.ensures
    c.if-holds_mail.true

pub loop-b-preserved : goal.loop-b-preserved
loop-b-preserved c =
    none_more c.loop-b.invariant (omega arith) c.holds_mail.ensures
    c.if-holds_mail.false

pub loop-b-init : goal.loop-b-init
loop-b-init c = none-yet

pub returns : goal.returns
returns c = none-all c.loop-b.invariant (omega arith)

pub returns-else-holds_mail : goal.returns-else-holds_mail
returns-else-holds_mail c =
    none-all (none_more c.loop-b.invariant (omega arith) c.holds_mail.ensures
    c.if-holds_mail.false) (omega arith)
