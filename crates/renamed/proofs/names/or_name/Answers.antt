-- `renamed::names::or_name` meets its contract.
use Rattle.renamed.proofs.names.or_name.Goals as goal

pub returns : goal.returns
returns c =
    simp (
      c.pick_found.ensures,
      c.is_name.ensures,
      c.choose-there.ensures,
      c.choose-here.ensures,
    )
