-- A row with a box's words and records, and then with their index, holds it.
use mathlib.Core.Path.{◌≡◌, refl, sym, ap, ◌∙◌, subst}
use Prim.Native.Nat.{ℕ, ◌≤◌, ◌<◌}
use mathlib.Core.List.{List, ◌++◌}
use native.Mathlib.Omega.{arith}
use lib.ListN.{length, get_or}
use lib.Seq.{take_at}
use Rattle.rules.specs.Sizes.{most_boxes, most_loads, unknown}
use Rattle.rules.specs.Box.{Box}
use Rattle.laws.proofs.Logic.{left, right}
use Rattle.laws.proofs.FormLaws.{Peer, box-says}
use Rattle.row.specs.Row.{first_at, agreed_of, row_width}
use Rattle.row.specs.Lent.{RowBooked, Reindexed}
use Rattle.row.proofs.HeadLaws.{stored-indexed}
use Rattle.row.proofs.AfterLaws.{box-numbered}
use Rattle.image.specs.Image.{box_words}
use Rattle.image.specs.Parts.{SomeBox}
use Rattle.store.specs.Store.{HasBox, HoldsBox}

pub box_read : (x : Box) (tail : List ℕ) → HasBox (box_words x ++ (x.records ++ tail)) x
box_read x tail = record { rest = tail; words = refl }

-- The row can be read as a book.
pub box-booked : (n J : ℕ) → J ≤ most_loads → (x : Box) → SomeBox n J x → (r : List ℕ)
    → length r ≡ row_width J → HasBox r x → RowBooked J r
box-booked n J loads x g r long h =
    let f = box-says g.1 in
    let here : RowBooked J (box_words x ++ (x.records ++ h.rest)) = record {
      words = ap length (sym h.words) ∙ long;
      loads = loads;
      count = f.held.room;
      numbers = box-numbered n J g.0 x g.1;
    } in
    subst (RowBooked J) (sym h.words) here

pub box-held : (n J : ℕ) → n ≤ most_boxes → (x : Box) → SomeBox n J x → (r : List ℕ) → HasBox r x
    → (q : List ℕ) → Reindexed J 0 (get_or r first_at 0) (agreed_of r) r q → HoldsBox n J q x
box-held n J few x g r h q made =
    let c = length x.records in
    let f = box-says g.1 in
    let there =
    subst (λ (l : List ℕ). Reindexed J 0 (get_or l first_at 0) (agreed_of l) l q) h.words
    made in
    let done = stored-indexed n J x.head c (x.records ++ h.rest) q few f.held.room
    f.places (λ k a m. unknown-above k a (f.peers k (omega arith, m))) there in
    record {
      box = done.box
          ∙ (λ i. record { head = x.head; records = take_at x.records h.rest c refl i });
      fits = done.fits;
    }
  where
    unknown-above : (k : ℕ) {last : ℕ} → n < k → Peer n g.0 k last → last ≡ unknown
    unknown-above k a (left e) = e
    unknown-above k a (right e) = absurd (omega (arith, e.0))
