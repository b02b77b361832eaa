use Rattle.std.proofs.Common.{◌≡◌, length}
use Rattle.apply.proofs.each.take_each.Given as goal

abbrev pub invariant-loop-used : goal.invariant-loop-used
invariant-loop-used g l =
    (length l.site ≡ length l.initial.site) × (length l.links ≡ length l.initial.links)
