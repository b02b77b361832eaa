-- `store::mail::store_letters` meets its contract: at each turn the first i are stored.
use mathlib.Core.List.{[]}
use Rattle.letter.specs.Place.{letter_at}
use Rattle.link.specs.Link.{place_width}
use Rattle.cells.proofs.StoreLaws.{Stored}
use Rattle.image.specs.Image.{letter_bytes}
use Rattle.image.specs.Parts.{GoodLetter}
use Rattle.store.specs.Store.{HoldsLetter}
use Rattle.store.proofs.mail.store_letters.Given as goal

abbrev pub invariant-loop-i : goal.invariant-loop-i
invariant-loop-i l =
    Stored letter_bytes (GoodLetter l.j) (HoldsLetter l.j) (place_width l.j) l.n (letter_at [])
    l.src l.at l.initial.places
    l.i l.places l.p
