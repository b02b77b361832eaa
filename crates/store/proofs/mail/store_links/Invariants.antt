-- `store::mail::store_links` meets its contract: at each turn the first i are stored.
use mathlib.Core.List.{[]}
use Rattle.link.specs.Holds.{Holds}
use Rattle.cells.proofs.StoreLaws.{Stored}
use Rattle.image.specs.Image.{link_bytes}
use Rattle.image.specs.Parts.{GoodLink}
use Rattle.store.proofs.mail.store_links.Given as goal

abbrev pub invariant-loop-i : goal.invariant-loop-i
invariant-loop-i l =
    Stored link_bytes (GoodLink l.j l.l) (Holds l.j l.l) l.w l.m [] l.src l.at l.initial.links
    l.i l.links l.p
