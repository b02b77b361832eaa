-- Where one row is set, so are all boxes.
use Rattle.memory.proofs.PutLaws.{rows-set}
use Rattle.memory.proofs.boxes.play.Goals as goal

pub returns : goal.returns
returns c =
    rows-set c.args.s c.args.s.me _ c.args.site.now _ c.requires.playable.lent.rows
    c.requires.playable.lent.me
    c.play_row.ensures
