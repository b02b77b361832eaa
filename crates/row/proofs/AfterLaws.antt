-- The numbers of a box by form, before and after a turn.
use Prim.Native.Nat.{ℕ, ◌+◌, ◌-◌}
use mathlib.Core.Path.{◌≡◌, refl, ap}
use mathlib.Core.Bool.{true}
use mathlib.Core.List.{List}
use borrow.Author.Tests.{leb-true}
use lib.ListN.{length, get_or, length-append, length-drop}
use lib.Seq.{length-take-le}
use Rattle.rules.specs.Box.{Box, BookFits, written, turned}
use Rattle.rules.specs.Form.{form_box}
use Rattle.rules.specs.declared.model.Book.{Book}
use Rattle.rules.specs.declared.model.Turn.{Turn}
use Rattle.values.proofs.AllLaws.{all-at}
use Rattle.row.specs.Row.{box_of, count_at}
use Rattle.row.specs.Lent.{RowBooked, Numbered, records_of, count_after}
use Rattle.row.proofs.FormLaws.{numbered}
use Rattle.row.proofs.IndexLaws.{records-length}

pub box-numbered : (n J b : ℕ) (x : Box) → form_box n J b x ≡ true
    → Numbered x.head.kept.first x.head.kept.last (length x.records)
unfolding form_box
box-numbered n J b x e =
    numbered J _ _ _ (all-at 1 _ e) (leb-true _ _ (all-at 0 _ e)) (all-at 2 _ e)

-- How many records a book leaves.
pub written-length : (J : ℕ) (rs ms : List ℕ) (b : Book) → BookFits J rs ms b
    → length (written b rs ms) ≡ count_after b (length rs)
unfolding written
written-length J rs ms Book.Keep f = refl
written-length J rs ms (Book.Drop d) f = length-drop d rs
written-length J rs ms (Book.Put d a r) f =
    rw (length-append, length-drop, length-take-le a rs f.1)
written-length J rs ms (Book.Take d a b e) f =
    rw (length-append, length-drop, length-drop, length-take-le a rs f.1)
    (ap (λ (l : ℕ). a - d + (l - b)) (length-take-le e ms f.3))

-- The numbers of the box that a turn makes, in the terms of the row that it is played on.
pub turn-numbered : (n J b : ℕ) (r ms : List ℕ) (t : Turn) → RowBooked J r
    → BookFits J (records_of r) ms t.book → form_box n J b (turned (box_of n r) t ms) ≡ true
    → Numbered t.next.kept.first t.next.kept.last
    (count_after t.book (get_or r count_at 0))
turn-numbered n J b r ms t ok f e =
    rw (← records-length J r ok, ← written-length J (records_of r) ms t.book f)
    (box-numbered n J b (turned (box_of n r) t ms) e)
