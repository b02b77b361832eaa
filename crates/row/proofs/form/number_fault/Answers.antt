-- `row::form::number_fault` meets its contract.
use Rattle.values.specs.Faults.{fault_then}
use Rattle.row.proofs.form.number_fault.Goals as goal

pub returns : goal.returns
unfolding fault_then
returns c =
    rw (
      c.unless.ensures,
      c.unless-f-9.ensures,
      c.unless-f-8.ensures,
      c.unless-f-7.ensures,
      c.unless-f-6.ensures,
      c.unless-f-5.ensures,
      c.unless-f-4.ensures,
      c.unless-f-3.ensures,
      c.unless-f-2.ensures,
      c.unless-f.ensures,
      c.is_first-first.ensures,
    )
