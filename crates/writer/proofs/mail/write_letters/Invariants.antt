-- At each turn the first i letters are written.
use lib.ListN.{take}
use Rattle.link.specs.Link.{link_of}
use Rattle.cells.specs.Cells.{chain, Wrote}
use Rattle.image.specs.Image.{letter_bytes}
use Rattle.writer.proofs.mail.write_letters.Given as goal

abbrev pub invariant-loop-i : goal.invariant-loop-i
invariant-loop-i l =
    Wrote (chain letter_bytes (take l.i (link_of l.j l.l l.link)))
    l.initial.out l.at l.out l.p
