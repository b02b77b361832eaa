-- `row::records` meets its contract.
use mathlib.Core.Path.{refl}
use Rattle.words.proofs.PartLaws.{cut_at}
use Rattle.row.proofs.records.Goals as goal

pub returns : goal.returns
returns c =
    cut_at c.args.row.now refl c.size-count.ensures
