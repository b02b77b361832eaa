use Prim.Native.Nat.{◌≤◌}
use mathlib.Core.Path.{◌≡◌}
use lib.ListN.{length}
use Rattle.feed.specs.State.{Lent}
use Rattle.feed.specs.Says.{answer_most}
use Rattle.replay.proofs.run.run.Given as goal

abbrev pub invariant-loop : goal.invariant-loop
invariant-loop g l =
    (answer_most ≤ length l.out) × Lent l.f.stage l.site l.links
    × (length l.site ≡ length l.initial.site) × (length l.links ≡ length l.initial.links)
    × (length l.input ≡ length l.initial.input) × (length l.out ≡ length l.initial.out)
