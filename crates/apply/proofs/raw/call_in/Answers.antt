use Rattle.apply.proofs.RoomLaws.{line-range}
use Rattle.apply.proofs.raw.call_in.Goals as goal

pub line_in-requires : goal.line_in-requires
line_in-requires g c =
    line-range c.requires c.in-Line.is
