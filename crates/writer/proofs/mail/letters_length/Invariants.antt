-- Each turn adds the next length.
use mathlib.Core.Path.{◌≡◌}
use lib.ListN.{length, take}
use Rattle.link.specs.Link.{link_of}
use Rattle.cells.specs.Cells.{chain}
use Rattle.image.specs.Image.{letter_bytes}
use Rattle.writer.proofs.mail.letters_length.Given as goal

abbrev pub invariant-loop-i : goal.invariant-loop-i
invariant-loop-i l =
    l.total ≡ length (chain letter_bytes (take l.i (link_of l.j l.l l.link)))
