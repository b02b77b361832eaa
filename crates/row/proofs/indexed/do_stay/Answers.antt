-- `row::indexed::do_stay` meets its contract.
use Rattle.row.proofs.indexed.do_stay.Goals as goal

pub returns : goal.returns
returns c =
    rw (
      c.known-upto.ensures,
      c.leaving-d.ensures,
      c.agreed_count-a.ensures,
      c.requires.count_value,
    )
