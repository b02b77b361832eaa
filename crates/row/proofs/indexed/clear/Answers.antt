-- `row::indexed::clear` meets its contract.
use mathlib.Core.Path.{ap, ◌∙◌}
use Rattle.words.specs.Rows.{splice}
use Rattle.index.specs.Lent.{cleared}
use Rattle.row.specs.Row.{index_at, index_width}
use Rattle.row.proofs.IndexLaws.{index-cut, index-put, clear_law}
use Rattle.row.proofs.indexed.clear.Goals as goal

pub returns : goal.returns
returns c =
    let r = c.args.row.now in
    let J = c.args.j in
    clear_law J r c.requires.0 _
    (index-put J r c.requires.0 c.clear.new.ix
    ∙ ap (splice r (index_at J) (index_width J))
    (c.clear.ensures ∙ ap cleared (index-cut J r c.requires.0)))
