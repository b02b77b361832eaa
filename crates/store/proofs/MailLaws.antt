-- A letter and a link, as they stand in an image and as their words hold them.
use mathlib.Core.Path.{◌≡◌, refl, sym, ap, ◌∙◌, subst}
use Prim.Native.Nat.{ℕ, ◌+◌, ◌-◌, ◌*◌, ◌≤◌, ◌<◌}
use native.Mathlib.Nat.{mul-le-mul_right}
use native.Mathlib.Omega.{arith}
use mathlib.Core.List.{List, [], ◌∷◌, ◌++◌, append-nil, map}
use lib.ListN.{length, drop, get_or, set, length-drop}
use lib.Seq.{ext_get_or, drop-length, take_at}
use borrow.Author.Tests.{le-leb}
use Rattle.words.specs.Rows.{part, splice, rows}
use Rattle.words.proofs.RowLaws.{length-rows, rows_at, take-rows, length-table, table_get}
use Rattle.words.proofs.RingLaws.{ring_flat}
use Rattle.rules.specs.Every.{all, each}
use Rattle.rules.specs.Box.{Letter}
use Rattle.laws.proofs.Logic.{each-made}
use Rattle.letter.specs.Place.{letter_at, place_fits}
use Rattle.letter.proofs.KindLaws.{kind-in}
use Rattle.link.specs.Link.{place_width, link_width, places, link_of}
use Rattle.link.specs.Holds.{LinkSizes, Holds}
use Rattle.link.proofs.LinkLaws.{fits-made, two-set, length-link}
use Rattle.cells.specs.Cells.{chain, Found, Many, Has}
use Rattle.cells.specs.Stored.{HoldsRows, StoredIs}
use Rattle.image.specs.Image.{letter_words, letter_bytes, link_bytes}
use Rattle.image.specs.Parts.{GoodLetter, GoodLink}
use Rattle.image.proofs.LetterLaws.{mail-back, CountRead, link-told}
use Rattle.image.proofs.Lengths as lengths
use Rattle.store.specs.Store.{HoldsLetter}

-- ---- a letter

-- There is room for the number of its kind.
pub letter-room : (J : ℕ) {src : List ℕ} {at : ℕ} → Has letter_bytes (GoodLetter J) src at
    → at + 4 ≤ length src
letter-room J x =
    let f = x.found in
    let next = f.stands.next in
    let room = f.stands.room in
    omega (arith, lengths.length-letter f.thing)

-- A place with a letter's words and records holds it.
pub letter-held : (J : ℕ) (y : Letter) (tail : List ℕ) → length y.records ≤ J
    → HoldsLetter J (letter_words y ++ (y.records ++ tail)) y
unfolding place_fits all
letter-held J y tail room =
    let c = length y.records in
    let m = mail-back y.head c in
    record {
      letter = λ i. record { head = m i; records = take_at y.records tail c refl i };
      fits = rw (kind-in y.head.kind, le-leb c J room);
    }

-- ---- a link

pub link-room : {J L : ℕ} {src : List ℕ} {at : ℕ} → Has link_bytes (GoodLink J L) src at
    → at + 4 ≤ length src
link-room x =
    let f = x.found in
    let next = f.stands.next in
    let room = f.stands.room in
    omega (arith, lengths.length-link f.thing)

-- A link whose first place is place 0 holds what stands in its first c places.
module _ (J L c : ℕ) (some : 1 ≤ L) (most : c ≤ L) (d : List ℕ) where
  places_flat : places J L (0 ∷ c ∷ d) ≡ rows (place_width J) c d
  unfolding places
  places_flat =
      let w = place_width J in
      ring_flat [] L 0 c (rows w L d) (omega arith) (omega (arith, length-rows w L d))
      ∙ take-rows w L c d most

  pub link_flat : (l : List Letter) → length l ≡ c → length d ≡ L * place_width J
      → ((i : ℕ) → i < c
      → HoldsLetter J (part d (i * place_width J) (place_width J)) (get_or l i (letter_at [])))
      → Holds J L (0 ∷ c ∷ d) l
  unfolding link_of
  link_flat l count wide held = record {
    letters = ap (map letter_at) places_flat
        ∙ ext_get_or (letter_at []) (map letter_at rs) l (length-table letter_at w c d ∙ sym count)
        (λ i h.
        let k : i < c = omega (arith, length-table letter_at w c d) in
        table_get letter_at w c i d k ∙ (held i k).letter);
    fits = fits-made (record {
      first = some;
      count = most;
      held = ap (each (place_fits J)) places_flat
          ∙ each-made (place_fits J) rs []
          (λ i h.
          let k : i < c = omega (arith, length-rows w c d) in
          ap (place_fits J) (rows_at w c i d k) ∙ (held i k).fits);
    });
    width = omega arith;
  }
    where
      w : ℕ
      w = place_width J

      rs : List (List ℕ)
      rs = rows (place_width J) c d

-- The count was read.
module _ {J L : ℕ} (sizes : LinkSizes J L) {src : List ℕ} {at p : ℕ} {w : List ℕ} {c : ℕ}
    (g : CountRead src at p w c) where
  -- So many letters stand behind it ..
  abbrev letters-found : {q : ℕ} (f : Found link_bytes (GoodLink J L) src at q)
      → Found (chain letter_bytes) (Many (λ i. GoodLetter J) c) src p q
  letters-found f =
      let t = link-told sizes.few-loads sizes.few-mails g f.good f.stands in
      record {
        thing = f.thing;
        good = record { count = t.0; each = f.good.letters };
        stands = t.1;
      }

  module _ (x : Has link_bytes (GoodLink J L) src at) where
    pub letters-has : Has (chain letter_bytes) (Many (λ i. GoodLetter J) c) src p
    letters-has = record { place = x.place; found = letters-found x.found }

    -- .. and have room in the link's places.
    pub letters-room : (row : List ℕ) → length row ≡ link_width J L
        → c * place_width J ≤ length row - 2
    letters-room row wide =
        let f = x.found in
        let few : c ≤ L = omega (arith, f.good.room, (letters-found f).good.count) in
        omega (arith, mul-le-mul_right (place_width J) few)

  -- The row when the first place, the count and then the places ds are in it.
  pub link-stored : (row ds : List ℕ) {r v : ℕ} → length row ≡ link_width J L
      → length ds ≡ length row - 2 → v ≡ c → (zs : List ℕ)
      → StoredIs (chain letter_bytes) (Many (λ i. GoodLetter J) c) src p
      (HoldsRows (HoldsLetter J) (place_width J) c (letter_at []) zs ds) r
      → StoredIs link_bytes (GoodLink J L) src at
      (Holds J L (splice (set (set row 0 0) 1 v) 2 (length row - 2) ds)) r
  link-stored row ds {v = v} wide long ev zs got q f =
      let l = letters-found f in
      let z = got q l in
      let tail = drop 2 row in
      let size : length row - 2 ≡ length tail = omega (arith, length-drop 2 row) in
      let none : drop (length row - 2) tail ≡ [] =
      ap (λ (k : ℕ). drop k tail) size ∙ drop-length tail in
      let here : splice (set (set row 0 0) 1 v) 2 (length row - 2) ds ≡ 0 ∷ c ∷ ds =
      ap (λ (l : List ℕ). splice l 2 (length row - 2) ds) (two-set row 0 v (omega arith))
      ∙ (λ i. 0 ∷ ev i ∷ (ds ++ none i)) ∙ ap (λ (l : List ℕ). 0 ∷ c ∷ l) (append-nil ds) in (
        subst (λ (l : List ℕ). Holds J L l f.thing) (sym here)
            (link_flat J L c sizes.some-mails (omega (arith, f.good.room, l.good.count)) ds
            f.thing l.good.count (omega arith) z.0.each),
        z.1,
      )
