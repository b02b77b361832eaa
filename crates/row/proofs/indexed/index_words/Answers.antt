-- `row::indexed::index_words` meets its contract.
use Rattle.row.proofs.IndexLaws.{index-cut}
use Rattle.row.proofs.indexed.index_words.Goals as goal

pub returns : goal.returns
returns c =
    index-cut c.args.j c.args.row.now c.requires.words
