use mathlib.Core.Path.{ap, ◌∙◌}
use Rattle.rules.specs.Box.{Box, own, turn_of}
use Rattle.memory.proofs.RowLaws.{row-by-form, box-at}
use Rattle.memory.proofs.boxes.act_turn.Goals as goal

pub act_turn-requires : goal.act_turn-requires
act_turn-requires c =
    rw c.row_of.ensures (row-by-form c.args.s c.args.site.now c.requires)

pub returns : goal.returns
returns c =
    c.act_turn.ensures
    ∙ ap (λ (x : Box). turn_of c.args.s x (own c.args.a))
    (box-at c.args.s c.args.s.me c.args.site.now c.requires.me
    c.row_of.ensures)
