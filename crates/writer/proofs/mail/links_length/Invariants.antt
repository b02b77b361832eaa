-- Each turn adds the next length.
use mathlib.Core.Path.{◌≡◌}
use lib.ListN.{length, take}
use Rattle.cells.specs.Cells.{chain}
use Rattle.image.specs.Image.{link_bytes}
use Rattle.writer.specs.Bodies.{links_in}
use Rattle.writer.proofs.mail.links_length.Given as goal

abbrev pub invariant-loop-k : goal.invariant-loop-k
invariant-loop-k l =
    l.total ≡ length (chain link_bytes (take l.k (links_in l.s l.links)))
