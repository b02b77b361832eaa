use Prim.Native.Nat.{◌≤◌, ◌-◌}
use lib.ListN.{length}
use Rattle.feed.specs.State.{feeding_of}
use Rattle.feed.specs.Says.{answer_most}
use Rattle.replay.proofs.LoopLaws.{Kept}
use Rattle.replay.proofs.run.feed_all.Given as goal

abbrev pub invariant-loop-i : goal.invariant-loop-i
invariant-loop-i g l =
    (answer_most ≤ length l.out)
    × Kept (feeding_of l.fn.f l.initial.site l.initial.links) l.piece l.initial.site l.initial.links
    l.site l.links l.initial.out l.out l.i l.g

abbrev pub decreases-loop-i : goal.decreases-loop-i
decreases-loop-i g l = length l.piece - l.i
