-- How long an image is: a sum over what it holds; and the starred fresh images.
use mathlib.Core.Path.{◌≡◌, refl, sym, ap, ◌∙◌}
use mathlib.Core.Bool.{true}
use Prim.Native.Nat.{ℕ, ◌+◌, ◌≤◌}
use native.Mathlib.Omega.{arith}
use mathlib.Core.List.{List, [], ◌∷◌}
use lib.ListN.{length, length-append}
use Rattle.rules.specs.Sizes.{most_boxes}
use Rattle.rules.specs.Box.{Box, Letter}
use Rattle.rules.specs.Site.{Site, fresh}
use Rattle.rules.specs.Form.{form}
use Rattle.laws.proofs.FormLaws.{form-says}
use Rattle.cells.specs.Cells.{chain, All, Each}
use Rattle.letter.specs.Place as place
use Rattle.row.specs.Row.{head_words}
use Rattle.cells.proofs.ChainLaws.{length-cells}
use Rattle.cells.proofs.GroupLaws.{length-groups}
use Rattle.image.specs.Image.{boxes_of, links_of, box_body, letter_bytes}
use Rattle.image.specs.Image.{box_groups, box_words, letter_groups, letter_words, link_bytes}
use Rattle.image.specs.Image.{table_of, image_of}
use Rattle.image.specs.Parts.{listed, bodies_in, listed_bytes}
use Rattle.image.specs.Longest.{table_long, general_long, box_long, letter_long}
use Rattle.image.proofs.CutLaws.{box-cut, box-groups-long, letter-cut, letter-groups-long}
use Rattle.image.proofs.OrderLaws.{length-boxes}
use Rattle.image.proofs.TableLaws.{length-table, bodies-count, image-in}

-- the sum of a length over a list
unfoldable pub total {ℓ} : {A : Type ℓ} → (A → ℕ) → List A → ℕ
total f [] = 0
total f (x ∷ xs) = f x + total f xs

-- Where every thing has its length, all one after another have the sum.
pub length-total {ℓ} : {A : Type ℓ} (enc : A → List ℕ) (f : A → ℕ) (l : List A)
    → All (λ x. length (enc x) ≡ f x) l → length (chain enc l) ≡ total f l
unfolding chain Each total
length-total enc f [] h = refl
length-total enc f (x ∷ l) h =
    length-append (enc x) (chain enc l) ∙ omega (arith, h.0, length-total enc f l h.1)

all_always {ℓ} : {A : Type ℓ} {P : A → Type 0} → ((x : A) → P x) → (l : List A) → All P l
unfolding Each
all_always f [] = tt
all_always f (x ∷ l) = (f x, all_always f l)

-- ---- the parts

abbrev pub letter_length : Letter → ℕ
letter_length y = letter_long y.head.kind (length y.records)

abbrev pub link_length : List Letter → ℕ
link_length ys = 4 + total letter_length ys

abbrev pub box_length : ℕ → Box → ℕ
box_length n x = box_long n (length x.records)

pub length-letter : (y : Letter) → length (letter_bytes y) ≡ letter_length y
unfolding letter_bytes
length-letter y =
    let k = y.head.kind in
    let head = length-groups (letter_groups k) 0 place.head_words (letter_words y)
    (letter-cut k) refl
    in
    simp (length-append, length-cells, head) (omega (arith, letter-groups-long k))

-- The letters of a link together.
pub length-letters : (ys : List Letter) → length (chain letter_bytes ys) ≡ total letter_length ys
length-letters ys = length-total letter_bytes letter_length ys (all_always length-letter ys)

pub length-link : (ys : List Letter) → length (link_bytes ys) ≡ link_length ys
unfolding link_bytes
length-link ys = simp (length-append, length-cells, length-letters) (omega arith)

pub length-links : (ls : List (List Letter)) → length (chain link_bytes ls) ≡ total link_length ls
length-links ls = length-total link_bytes link_length ls (all_always length-link ls)

pub length-box : (n : ℕ) (x : Box) → n ≤ most_boxes → length (box_body n x) ≡ box_length n x
unfolding box_body
length-box n x h =
    let head = length-groups (box_groups n) 0 head_words (box_words x) (box-cut n h) refl in
    simp (length-append, length-cells, head) (omega (arith, box-groups-long n))

-- ---- the image

-- Table of contents, general body, boxes and mail.
unfoldable pub image_length : Site → ℕ
image_length s =
    table_long s.n
    + (general_long + (total (box_length s.n) (boxes_of s) + total link_length (links_of s)))

module _ (s : Site) (few : s.n ≤ most_boxes) where
  length-bodies : length (listed_bytes (listed s))
      ≡ general_long + (total (box_length s.n) (boxes_of s) + total link_length (links_of s))
  unfolding listed listed_bytes
  length-bodies =
      let boxes = length-total (box_body s.n) (box_length s.n) (boxes_of s)
      (all_always (λ x. length-box s.n x few) (boxes_of s)) in
      let links = length-links (links_of s) in
      simp (length-append, length-cells) (omega arith)

  pub image-length : length (image_of s) ≡ image_length s
  unfolding image_length listed
  image-length =
      let table = length-table (bodies_in (listed s)) in
      let count = bodies-count (listed s) (length-boxes s) in
      ap length (image-in s)
      ∙ length-append (table_of (bodies_in (listed s))) (listed_bytes (listed s))
      ∙ omega (arith, length-bodies)

-- Of a site by form.
pub form-length : (s : Site) → form s ≡ true → length (image_of s) ≡ image_length s
form-length s e = let f = form-says e in
    image-length s f.sizes.few-boxes

-- ★ "Fresh image": how long it is does not depend on J and L; for n = 3 and n = 1 `starred` has it.
pub fresh-same : (n J L : ℕ) → n ≤ most_boxes
    → length (image_of (fresh n J L)) ≡ length (image_of (fresh n 16 8))
unfolding fresh image_length boxes_of links_of
fresh-same n J L h = image-length (fresh n J L) h ∙ sym (image-length (fresh n 16 8) h)
