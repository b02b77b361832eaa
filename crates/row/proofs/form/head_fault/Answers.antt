-- `row::form::head_fault` meets its contract.
use Rattle.values.specs.Faults.{fault_then}
use Rattle.row.specs.Faults.{head_fault}
use Rattle.row.proofs.form.head_fault.Goals as goal

pub returns : goal.returns
unfolding fault_then head_fault
returns c =
    rw (
      c.number_fault.ensures,
      c.value_fault-f.ensures,
      c.peer_fault-f.ensures,
      c.unless-f.ensures,
      c.is_count.ensures,
    )
