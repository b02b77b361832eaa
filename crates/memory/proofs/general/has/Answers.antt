use mathlib.Core.Path.{ap, ◌∙◌}
use mathlib.Core.Bool.{not}
use Prim.Native.Nat.{ℕ}
use lib.Bits.{bit_and}
use lib.Dec.{eqb}
use Rattle.memory.proofs.HasLaws.{has-bits}
use Rattle.memory.proofs.general.has.Goals as goal

pub returns : goal.returns
returns c =
    ap (λ (v : ℕ). not (eqb (bit_and c.args.w v) 0)) c.bit_of-one.ensures.value
    ∙ has-bits c.args.w c.args.k c.requires
