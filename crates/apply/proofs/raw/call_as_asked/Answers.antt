use Rattle.apply.proofs.RoomLaws.{ask_range}
use Rattle.apply.proofs.raw.call_as_asked.Goals as goal

pub call_small-requires : goal.call_small-requires
call_small-requires g c = ask_range _ c.read_ask.ensures
