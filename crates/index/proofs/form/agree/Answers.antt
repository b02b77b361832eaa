-- `index::form::agree` meets its contract.
use mathlib.Core.Path.{refl}
use Rattle.index.specs.Lent.{agrees}
use Rattle.index.proofs.form.agree.Goals as goal

pub returns : goal.returns
unfolding agrees
returns c = refl
