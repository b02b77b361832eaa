-- The run has gone on from where the loop began.
use Prim.Native.Nat.{◌-◌}
use Rattle.until.specs.Turns.{Gone}
use Rattle.until.proofs.turns.hand_over.Given as goal

abbrev pub invariant-loop-u : goal.invariant-loop-u
invariant-loop-u l =
    Gone l.left l.used l.initial.site l.initial.links (l.end - l.u) l.u l.site l.links
