-- `values::is_first` meets its contract.
use mathlib.Core.Path.{refl}
use Rattle.rules.specs.Form.{first_form}
use Rattle.values.proofs.is_first.Goals as goal

pub returns : goal.returns
unfolding first_form
returns c = refl
