-- The boxes below b do not lead.
use native.Mathlib.Omega.{arith}
use Rattle.until.proofs.FirstLaws.{box-here, none-yet, none_more, none-stop, none-all}
use Rattle.until.proofs.leader.leader.Goals as goal

pub leads-requires : goal.leads-requires
leads-requires c = record {
  rows_lent = c.requires;
  b_value = box-here c.loop-b.invariant (omega arith);
}

pub returns-then-leads : goal.returns-then-leads
returns-then-leads c =
    none-stop c.loop-b.invariant (omega arith) c.leads.ensures
    c.if-leads.true

pub loop-b-preserved : goal.loop-b-preserved
loop-b-preserved c =
    none_more c.loop-b.invariant (omega arith) c.leads.ensures
    c.if-leads.false

pub loop-b-init : goal.loop-b-init
loop-b-init c = none-yet

pub returns : goal.returns
returns c = none-all c.loop-b.invariant (omega arith)

pub returns-else-leads : goal.returns-else-leads
returns-else-leads c =
    none-all (none_more c.loop-b.invariant (omega arith) c.leads.ensures
    c.if-leads.false) (omega arith)
