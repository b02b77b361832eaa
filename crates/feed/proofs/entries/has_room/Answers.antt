use mathlib.Core.Path.{refl}
use Rattle.feed.specs.Entries.{has_room}
use Rattle.feed.proofs.entries.has_room.Goals as goal

pub returns : goal.returns
unfolding has_room
returns c = refl
