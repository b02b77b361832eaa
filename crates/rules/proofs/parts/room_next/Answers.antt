-- `rules::parts::room-next` meets its contract.
use mathlib.Core.Path.{refl}
use Rattle.rules.specs.Parts.{room_next}
use Rattle.rules.proofs.parts.room_next.Goals as goal

pub returns : goal.returns
unfolding room_next
returns c = refl
