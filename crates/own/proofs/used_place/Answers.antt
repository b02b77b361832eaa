use native.Mathlib.Nat.{sub-zero}
use Rattle.own.proofs.used_place.Goals as goal

pub returns : goal.returns
returns c = rw sub-zero
