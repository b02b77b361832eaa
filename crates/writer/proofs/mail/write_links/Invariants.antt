-- At each turn the first k links are written.
use lib.ListN.{take}
use Rattle.cells.specs.Cells.{chain, Wrote}
use Rattle.image.specs.Image.{link_bytes}
use Rattle.writer.specs.Bodies.{links_in}
use Rattle.writer.proofs.mail.write_links.Given as goal

abbrev pub invariant-loop-k : goal.invariant-loop-k
invariant-loop-k l =
    Wrote (chain link_bytes (take l.k (links_in l.s l.links)))
    l.initial.out l.at l.out l.p
