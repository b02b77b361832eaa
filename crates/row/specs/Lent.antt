-- What the functions over a lent row ask for and give.
use Rattle.std.specs.Prelude.{◌≡◌, ℕ, ◌+◌, ◌-◌, ◌≤◌, ◌<◌, ◌^◌, Bool, true, ◌&&◌, List, [], leb, eqb}
use Rattle.std.specs.Prelude.{length, take, drop, get_or}
use Rattle.words.specs.Rows.{part, splice}
use Rattle.index.specs.Lent.{Indexed}
use Rattle.rules.specs.Sizes.{most_boxes, most_loads, most_number, unknown}
use Rattle.rules.specs.Parts.{span}
use Rattle.rules.specs.Box.{Box, BookFits, written, turned}
use Rattle.rules.specs.Site.{fresh_box}
use Rattle.rules.specs.declared.model.Book.{Book}
use Rattle.rules.specs.declared.model.Setting.{Setting}
use Rattle.rules.specs.declared.model.Turn.{Turn}
use Rattle.letter.specs.Place.{letter_at, place_form}
use Rattle.letter.specs.Place.{head_words as letter_head}
use Rattle.row.specs.Row.{box_of, row_fits, row_form, head_words, pn_at, last_at, first_at}
use Rattle.row.specs.Row.{stored_pn_at, stored_number_at, best_pn_at, best_number_at, answered_at}
use Rattle.row.specs.Row.{accepts_at, heard_at, before_peers, count_at}
use Rattle.row.specs.Row.{index_at, row_width, index_of}

-- the row of a box of n, with room for J records
pub record RowSized (n J : ℕ) (r : List ℕ) : Type 0 where
  pub words : length r ≡ row_width J
  pub boxes : n ≤ most_boxes
  pub loads : J ≤ most_loads

-- the records lie within the row, and the numbers fit 32 bits; of a peer above n nothing is asked
pub record RowReadable (n : ℕ) (r : List ℕ) : Type 0 where
  pub room : head_words + get_or r count_at 0 ≤ length r
  pub pn : get_or r pn_at 0 < 2 ^ 32
  pub last : get_or r last_at 0 < 2 ^ 32
  pub first : get_or r first_at 0 < 2 ^ 32
  pub stored-pn : get_or r stored_pn_at 0 < 2 ^ 32
  pub stored-number : get_or r stored_number_at 0 < 2 ^ 32
  pub best-pn : get_or r best_pn_at 0 < 2 ^ 32
  pub best-number : get_or r best_number_at 0 < 2 ^ 32
  pub answered : get_or r answered_at 0 < 2 ^ 32
  pub accepts : get_or r accepts_at 0 < 2 ^ 32
  pub heard : get_or r heard_at 0 < 2 ^ 32
  pub peers : (k : ℕ) → 1 ≤ k → k ≤ n → get_or r (before_peers + k) 0 < 2 ^ 32

-- the row of box `me` of s, by form
pub record RowByForm (s : Setting) (r : List ℕ) : Type 0 where
  pub size : RowSized s.n s.j r
  pub form : row_form s.n s.j s.me r ≡ true
  pub me : s.me ≤ most_boxes

-- the row r has become q, whose box is x
pub record RowHolds (n J : ℕ) (x : Box) (r q : List ℕ) : Type 0 where
  pub box : box_of n q ≡ x
  pub fits : row_fits J q ≡ true
  pub words : length q ≡ length r

-- first and last are numbers of a box that holds so many records, the agreed ones among them
pub record Numbered (first last count : ℕ) : Type 0 where
  pub one : 1 ≤ first
  pub order : first ≤ last + 1
  pub most : last ≤ most_number
  pub held : span first last ≤ count

-- a row whose words can be read as a book with its index
pub record RowBooked (J : ℕ) (r : List ℕ) : Type 0 where
  pub words : length r ≡ row_width J
  pub loads : J ≤ most_loads
  pub count : get_or r count_at 0 ≤ J
  pub numbers : Numbered (get_or r first_at 0) (get_or r last_at 0) (get_or r count_at 0)

-- of the row r only the index has become another, q's: that of the records rs from number k on, the
-- first next word at place p
pub record Reindexed (J p k : ℕ) (rs r q : List ℕ) : Type 0 where
  pub front : take (index_at J) q ≡ take (index_at J) r
  pub index : Indexed p k rs (index_of J q)
  pub words : length q ≡ length r

-- .. or no record is in it any more
abbrev pub Cleared : ℕ → List ℕ → List ℕ → Type 0
Cleared J r q = (k : ℕ) → 1 ≤ k → Reindexed J 0 k [] r q

-- the row r has become q, a fresh box's
abbrev pub FreshRow : ℕ → List ℕ → List ℕ → Type 0
FreshRow J r q = (n : ℕ) → n ≤ most_boxes → RowHolds n J fresh_box r q

-- a mail's place in the same site, by form
pub record PlaceByForm (s : Setting) (p : List ℕ) : Type 0 where
  pub words : length p ≡ letter_head + s.j
  pub form : place_form s.j p ≡ true

-- the records that a row holds, whatever n is
abbrev pub records_of : List ℕ → List ℕ
records_of r = part r head_words (get_or r count_at 0)

-- how many records are held after a turn
abbrev pub count_after : Book → ℕ → ℕ
count_after Book.Keep count = count
count_after (Book.Drop d) count = count - d
count_after (Book.Put d a r) count = a - d + 1
count_after (Book.Take d a b e) count = a - d + (e - b)

-- .. which can be counted in 32 bits
abbrev pub CountFits : Book → ℕ → Type 0
CountFits Book.Keep count = Unit {0}
CountFits (Book.Drop d) count = d ≤ count
CountFits (Book.Put d a r) count = (d ≤ a) × (a - d + 1 ≤ most_loads)
CountFits (Book.Take d a b e) count = (d ≤ a) × (b ≤ e) × (a - d + (e - b) ≤ most_loads)

-- how many of the first records leave by the book b, and of how many it says so
abbrev pub leaving : Book → ℕ
leaving Book.Keep = 0
leaving (Book.Drop d) = d
leaving (Book.Put d a r) = d
leaving (Book.Take d a b e) = d

abbrev pub known : Book → ℕ → ℕ
known Book.Keep count = count
known (Book.Drop d) count = count
known (Book.Put d a r) count = a
known (Book.Take d a b e) count = a

-- the agreed records of r, a of them, stay but for those that leave, and keep their numbers, where
-- the book b is written and the box keeps from first to last
abbrev pub agreed_stay : List ℕ → ℕ → Book → ℕ → ℕ → Bool
agreed_stay r a b first last =
    eqb (get_or r first_at 0 + leaving b) first && leb (leaving b) a
    && leb a (known b (get_or r count_at 0)) && leb (get_or r last_at 0) last

-- the index of r has become q's: that of the first m records after the book b is written, of a box
-- that keeps from first to last
pub record Released (J : ℕ) (b : Book) (first last : ℕ) (r : List ℕ) (m : ℕ) (q : List ℕ)
    : Type 0 where
  pub few : m ≤ span first last
  pub kept : (ms : List ℕ) → BookFits J (records_of r) ms b
      → Reindexed J 0 first (take m (written b (records_of r) ms)) r q

-- the row where of its first a records the first d have left
abbrev pub moved : ℕ → ℕ → List ℕ → List ℕ
moved d a r = splice r head_words (a - d) (part r (head_words + d) (a - d))

-- the row r has room for what the book b makes of its records and those of the mail's place p
pub record Writes (r p : List ℕ) (b : Book) : Type 0 where
  pub J : ℕ
  pub words : length r ≡ row_width J
  pub loads : J ≤ most_loads
  pub count : get_or r count_at 0 ≤ J
  pub book : BookFits J (records_of r) (letter_at p).records b

-- r has become q, whose records are those that the book says
pub record Wrote (r p : List ℕ) (b : Book) (q : List ℕ) : Type 0 where
  pub words : length q ≡ length r
  pub index : (J : ℕ) → length r ≡ row_width J → index_of J q ≡ index_of J r
  pub records : take (count_after b (get_or r count_at 0)) (drop head_words q)
      ≡ written b (records_of r) (letter_at p).records

-- the row r of a box of n can take the turn t
pub record Plays (n J : ℕ) (r p : List ℕ) (t : Turn) : Type 0 where
  pub writes : Writes r p t.book
  pub room : writes.J ≡ J
  pub boxes : n ≤ most_boxes
  pub five : length t.next.peers ≡ most_boxes
  pub above : (k : ℕ) → n < k → k ≤ most_boxes → get_or t.next.peers (k - 1) 0 ≡ unknown
  pub fits : row_fits J r ≡ true
  pub before : Numbered (get_or r first_at 0) (get_or r last_at 0) (get_or r count_at 0)
  pub after : Numbered t.next.kept.first t.next.kept.last
      (count_after t.book (get_or r count_at 0))

-- r has become q, which holds the box after the turn t
pub record Played (n J : ℕ) (r p : List ℕ) (t : Turn) (q : List ℕ) : Type 0 where
  pub box : box_of n q ≡ turned (box_of n r) t (letter_at p).records
  pub words : length q ≡ length r
  pub fits : row_fits J q ≡ true
