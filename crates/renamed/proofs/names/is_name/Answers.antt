-- `renamed::names::is_name` meets its contract.
use Rattle.renamed.proofs.names.is_name.Goals as goal

pub returns : goal.returns
returns c =
    simp
    c.starts.ensures
