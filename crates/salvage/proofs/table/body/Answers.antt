use Rattle.salvage.proofs.TableLaws.{body-handed}
use Rattle.salvage.proofs.table.body.Goals as goal

pub returns : goal.returns
returns c =
    body-handed c.args.image c.part.result c.args.k c.requires.0
    c.requires.1 c.requires.2 c.part.ensures
