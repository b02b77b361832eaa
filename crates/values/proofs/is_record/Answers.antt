-- `values::is_record` meets its contract.
use Rattle.rules.specs.Sizes.{record_form}
use Rattle.values.proofs.is_record.Goals as goal

pub returns : goal.returns
unfolding record_form
returns c = simp c.is_proper-proper.ensures
