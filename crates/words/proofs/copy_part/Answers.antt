-- `words::copy_part` meets its contract: the part that comes back is the part that was copied.
use native.Mathlib.Nat.{add-sub_cancel_left}
use Rattle.words.proofs.copy_part.Goals as goal

pub returns : goal.returns
returns c = simp (c.copy.ensures, add-sub_cancel_left)
