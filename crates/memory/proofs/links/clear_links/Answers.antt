-- The first k links are empty.
use native.Mathlib.Omega.{arith}
use Rattle.memory.proofs.EachLaws.{empty-more, empty-all}
use Rattle.memory.proofs.links.clear_links.Goals as goal

pub loop-k-preserved : goal.loop-k-preserved
loop-k-preserved c =
    empty-more c.loop-k.invariant (omega (arith, c.link_count-count.ensures))
    c.clear_link.ensures

pub returns : goal.returns
returns c =
    empty-all c.loop-k.invariant (omega (arith, c.link_count-count.ensures)) c.requires.l_value
    c.requires.l_in_bounds
