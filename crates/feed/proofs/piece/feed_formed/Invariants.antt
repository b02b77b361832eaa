use Prim.Native.Nat.{◌≤◌, ◌-◌}
use mathlib.Core.Path.{◌≡◌}
use lib.ListN.{length}
use Rattle.feed.specs.State.{feeding_of, held_bytes}
use Rattle.feed.proofs.FeedLaws.{Kept}
use Rattle.feed.proofs.piece.feed_formed.Given as goal

abbrev pub invariant-loop-e : goal.invariant-loop-e
invariant-loop-e l =
    (l.n ≡ length l.piece) × (length (held_bytes l.initial.g.held) ≤ 65)
    × Kept (feeding_of l.initial.g l.initial.site l.initial.links) l.piece l.initial.site
    l.initial.links l.site l.links l.initial.out l.out l.n l.i l.e l.g l.at

abbrev pub decreases-loop-e : goal.decreases-loop-e
decreases-loop-e l = l.n - l.e
