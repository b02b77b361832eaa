-- `letter::records` meets its contract.
use Rattle.words.proofs.PartLaws.{cut_at}
use mathlib.Core.Path.{refl}
use Rattle.letter.proofs.records.Goals as goal

pub returns : goal.returns
returns c =
    cut_at c.args.place.now refl c.size-count.ensures
