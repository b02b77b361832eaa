-- `index::clear` meets its contract.
use native.Mathlib.Omega.{arith}
use Rattle.words.proofs.PartLaws.{length_part}
use Rattle.index.specs.Index.{nexts_at}
use Rattle.index.specs.Lent.{cleared}
use Rattle.index.proofs.clear.Goals as goal

pub returns : goal.returns
unfolding cleared
returns c =
    let xs = c.args.ix.now in
    rw (c.fill.ensures, length_part 0 nexts_at xs (omega arith))
