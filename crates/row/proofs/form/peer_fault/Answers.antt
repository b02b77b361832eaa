-- `row::form::peer_fault` meets its contract.
use Rattle.values.specs.Faults.{fault_then}
use Rattle.row.proofs.form.peer_fault.Goals as goal

pub returns : goal.returns
unfolding fault_then
returns c =
    rw (
      c.unless.ensures,
      c.is_peer-5.ensures,
      c.unless-f-4.ensures,
      c.is_peer-4.ensures,
      c.unless-f-3.ensures,
      c.is_peer-3.ensures,
      c.unless-f-2.ensures,
      c.is_peer-2.ensures,
      c.unless-f.ensures,
      c.is_peer.ensures,
    )
