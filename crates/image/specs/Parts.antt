-- The image part by part, for the functions that write, check and store it: when a part is by form,
-- and a box's fields as the words of its row.
use Rattle.std.specs.Prelude.{◌≡◌, true, cond, ℕ, ◌+◌, ◌-◌, ◌*◌, ◌^◌, ◌≤◌, List, [], ◌∷◌, ◌++◌, map}
use Rattle.std.specs.Prelude.{length, get_or}
use Rattle.rules.specs.Sizes.{most_epoch, unknown, within, sizes_form, proper}
use Rattle.rules.specs.Sets.{set_form}
use Rattle.rules.specs.Box.{Box, Letter}
use Rattle.rules.specs.Site.{Site}
use Rattle.rules.specs.Form.{form_box, form_letter}
use Rattle.row.specs.Row.{head_words}
use Rattle.cells.specs.Cells.{chain, cells, All, Below, Many}
use Rattle.cells.specs.Groups.{groups_bytes, GroupedWords}
use Rattle.image.specs.Image.{boxes_of, links_of, box_body, box_groups, link_bytes}

-- ---- by form

abbrev pub GoodRecord : ℕ → Type 0
GoodRecord r = proper r ≡ true

abbrev pub GoodLetter : ℕ → Letter → Type 0
GoodLetter J y = form_letter J y ≡ true

pub record GoodLink (J L : ℕ) (ys : List Letter) : Type 0 where
  pub room : length ys ≤ L
  pub letters : All (GoodLetter J) ys

abbrev pub GoodBox : ℕ → ℕ → ℕ → Box → Type 0
GoodBox n J b x = form_box n J b x ≡ true

-- one of the boxes, whatever its number
abbrev pub SomeBox : ℕ → ℕ → Box → Type 0
SomeBox n J x = (b : ℕ) × GoodBox n J b x

-- boxes 1 to n, and the links of all ordered pairs
abbrev pub GoodBoxes : ℕ → ℕ → List Box → Type 0
GoodBoxes n J = Many (λ i. GoodBox n J (i + 1)) n

abbrev pub GoodLinks : ℕ → ℕ → ℕ → List (List Letter) → Type 0
GoodLinks n J L = Many (λ i. GoodLink J L) (n * (n - 1))

-- ---- words

-- m numbers that 4 bytes hold
pub record Words (m : ℕ) (w : List ℕ) : Type 0 where
  pub width : length w ≡ m
  pub below : Below (256 ^ 4) w

-- a box's fields and its count of records, of the words of its row's head
abbrev pub head_bytes : ℕ → List ℕ → List ℕ
head_bytes n = groups_bytes (box_groups n)

-- the words are such as bytes hold, and those of peers above n are unknown
abbrev pub HeadWords : ℕ → List ℕ → Type 0
HeadWords n = GroupedWords (box_groups n) head_words unknown

-- ---- all bodies

-- how many of the boxes lead
unfoldable pub leaders : List Box → ℕ
leaders [] = 0
leaders (x ∷ xs) = cond x.head.leads 1 0 + leaders xs

-- what the bodies hold: n, J, L, epoch and present set; the boxes; the links
pub record Listed : Type 0 where
  pub general : List ℕ
  pub boxes : List Box
  pub links : List (List Letter)

abbrev pub n_in : Listed → ℕ
n_in t = get_or t.general 0 0

abbrev pub JIn : Listed → ℕ
JIn t = get_or t.general 1 0

abbrev pub LIn : Listed → ℕ
LIn t = get_or t.general 2 0

-- what the bodies of a site hold
unfoldable pub listed : Site → Listed
listed s = record {
  general = s.n ∷ s.J ∷ s.L ∷ s.epoch ∷ s.present ∷ [];
  boxes = boxes_of s;
  links = links_of s;
}

-- the bodies themselves, and all their bytes
unfoldable pub bodies_in : Listed → List (List ℕ)
bodies_in t =
    cells 4 t.general
    ∷ (map (box_body (n_in t)) t.boxes ++ (chain link_bytes t.links ∷ []))

unfoldable pub listed_bytes : Listed → List ℕ
listed_bytes t =
    cells 4 t.general
    ++ (chain (box_body (n_in t)) t.boxes
    ++ chain link_bytes t.links)

pub record GoodListed (t : Listed) : Type 0 where
  pub words : Words 5 t.general
  pub sizes : sizes_form (n_in t) (JIn t) (LIn t) ≡ true
  pub epoch : within 1 most_epoch (get_or t.general 3 0) ≡ true
  pub present : set_form (n_in t) (get_or t.general 4 0) ≡ true
  pub boxes : GoodBoxes (n_in t) (JIn t) t.boxes
  pub one-leader : leaders t.boxes ≤ 1
  pub links : GoodLinks (n_in t) (JIn t) (LIn t) t.links
