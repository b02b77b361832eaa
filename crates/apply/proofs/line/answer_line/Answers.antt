use Rattle.apply.proofs.RoomLaws.{too_long}
use Rattle.apply.proofs.line.answer_line.Goals as goal

pub refuse_image-requires : goal.refuse_image-requires
refuse_image-requires g c =
    too_long c.requires c.if-last.true c.answer.ensures
    c.in-None.is
