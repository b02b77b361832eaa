-- `row::form::value_fault` meets its contract.
use Rattle.values.specs.Faults.{fault_then}
use Rattle.row.proofs.form.value_fault.Goals as goal

pub returns : goal.returns
unfolding fault_then
returns c =
    rw (
      c.unless.ensures,
      c.is_set-3.ensures,
      c.unless-f-5.ensures,
      c.is_set-2.ensures,
      c.unless-f-4.ensures,
      c.is_set.ensures,
      c.unless-f-3.ensures,
      c.is_record-3.ensures,
      c.unless-f-2.ensures,
      c.is_record-2.ensures,
      c.unless-f.ensures,
      c.is_record.ensures,
    )
