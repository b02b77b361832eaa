-- `store::boxes::store_boxes` meets its contract: at each turn the first i are stored.
use mathlib.Core.List.{[]}
use Rattle.row.specs.Row.{box_of}
use Rattle.cells.proofs.StoreLaws.{Stored}
use Rattle.image.specs.Image.{box_body}
use Rattle.image.specs.Parts.{SomeBox}
use Rattle.store.specs.Store.{HoldsBox}
use Rattle.store.proofs.boxes.store_boxes.Given as goal

abbrev pub invariant-loop-i : goal.invariant-loop-i
invariant-loop-i l =
    Stored (box_body l.n) (SomeBox l.n l.j) (HoldsBox l.n l.j) l.w l.n (box_of l.n []) l.src l.at
    l.initial.rows l.i l.rows l.p
