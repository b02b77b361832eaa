-- `row::indexed::leave_one` meets its contract.
use mathlib.Core.Path.{ap, ◌∙◌}
use Rattle.words.specs.Rows.{splice}
use Rattle.index.specs.Lent.{gone}
use Rattle.row.specs.Row.{index_at, index_width}
use Rattle.row.proofs.IndexLaws.{index-cut, index-put}
use Rattle.row.proofs.indexed.leave_one.Goals as goal

pub returns : goal.returns
returns c =
    let r = c.args.row.now in
    let J = c.args.j in
    index-put J r c.requires.0 c.leave.new.ix
    ∙ ap (splice r (index_at J) (index_width J))
    (c.leave.ensures
    ∙ (λ k. gone (c.slot_of-slot.ensures.0 k) c.args.i (index-cut J r c.requires.0 k)))
