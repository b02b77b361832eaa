use Rattle.std.proofs.Common.{arith}
use Rattle.desk.proofs.NearLaws.{ticks_is}
use Rattle.desk.proofs.near.ticks_from.Goals as goal

pub returns : goal.returns
returns c =
    ticks_is _ _ _ (omega arith) (omega arith) (omega arith) c.wrapping_sub_u32.ensures.value
