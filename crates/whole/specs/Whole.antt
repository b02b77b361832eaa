-- What the functions on the bodies of an image and on a whole image answer.
use Rattle.std.specs.Prelude.{◌≡◌, true, ℕ, ◌+◌, List, [], ◌∷◌, ◌++◌, map, length, take}
use Rattle.rules.specs.Box.{Box, Letter}
use Rattle.rules.specs.Site.{Site}
use Rattle.rules.specs.Form.{form}
use Rattle.std.specs.Prelude.{Option, Some, None}
use Rattle.cells.specs.Cells.{chain, Found, NoneAt}
use Rattle.image.specs.Image.{box_body, link_bytes, contents, image_of}
use Rattle.image.specs.Longest.{table_long}
use Rattle.image.specs.Parts.{GoodLinks, n_in, bodies_in, listed_bytes, GoodListed}
use Rattle.whole.specs.Boxes.{mail_entry, table_words, LedBoxes}

-- ---- the mail

-- the links of n boxes stand at `at`, p is the place behind them, and behind the entries of the
-- boxes, which are among the words ws, their own has come into the words vs
pub record MailFound (n J L : ℕ) (src : List ℕ) (at : ℕ) (ws vs : List ℕ) (p : ℕ) : Type 0 where
  pub found : Found (chain link_bytes) (GoodLinks n J L) src at p
  pub entry : take (table_words n) vs
      ≡ take (mail_entry n) ws ++ (at ∷ length (chain link_bytes found.thing) ∷ [])

abbrev pub MailIs : ℕ → ℕ → ℕ → List ℕ → ℕ → List ℕ → List ℕ → Option ℕ → Type 0
MailIs n J L src at ws vs (Some p) = MailFound n J L src at ws vs p
MailIs n J L src at ws vs None = NoneAt (chain link_bytes) (GoodLinks n J L) src at

-- ---- the boxes and the mail

abbrev pub Rest : Type 0
Rest = List Box × List (List Letter)

abbrev pub rest_bytes : ℕ → Rest → List ℕ
rest_bytes n c = chain (box_body n) c.0 ++ chain link_bytes c.1

pub record GoodRest (n J L : ℕ) (c : Rest) : Type 0 where
  pub boxes : LedBoxes n J c.0
  pub links : GoodLinks n J L c.1

-- their entries in the table of contents, the first body at `at`
abbrev pub rest_entries : ℕ → ℕ → Rest → List ℕ
rest_entries n at c =
    contents at (map (box_body n) c.0)
    ++ ((at + length (chain (box_body n) c.0)) ∷ length (chain link_bytes c.1) ∷ [])

pub record RestFound (n J L : ℕ) (src : List ℕ) (at : ℕ) (front ws : List ℕ) (p : ℕ) : Type 0 where
  pub found : Found (rest_bytes n) (GoodRest n J L) src at p
  pub entries : take (table_words n) ws ≡ front ++ rest_entries n at found.thing

abbrev pub RestIs : ℕ → ℕ → ℕ → List ℕ → ℕ → List ℕ → List ℕ → Option ℕ → Type 0
RestIs n J L src at front ws (Some p) = RestFound n J L src at front ws p
RestIs n J L src at front ws None = NoneAt (rest_bytes n) (GoodRest n J L) src at

-- ---- all bodies

-- they stand at `at`, p is the place behind them, and the words ws begin with those of the table of
-- contents
pub record ListedFound (src : List ℕ) (at : ℕ) (ws : List ℕ) (p : ℕ) : Type 0 where
  pub found : Found listed_bytes GoodListed src at p
  pub table : take (table_words (n_in found.thing)) ws
      ≡ (n_in found.thing + 2) ∷ contents at (bodies_in found.thing)

abbrev pub ListedIs : List ℕ → ℕ → List ℕ → Option ℕ → Type 0
ListedIs src at ws (Some p) = ListedFound src at ws p
ListedIs src at ws None = NoneAt listed_bytes GoodListed src at

-- ---- the image

-- the bytes are the image of a site by form, and its general body is at `at`, behind the table of
-- contents: "number of bodies (n+2), then byte offset .. and length of each"
pub record ImageFound (src : List ℕ) (at : ℕ) : Type 0 where
  pub site : Site
  pub by_form : form site ≡ true
  pub image : image_of site ≡ src
  pub place : at ≡ table_long site.n

-- what `check_image` answers: where the general body is, or that no site by form has this image
abbrev pub ImageIs : List ℕ → Option ℕ → Type 0
ImageIs src (Some at) = ImageFound src at
ImageIs src None = (s : Site) → form s ≡ true → image_of s ≡ src → ⊥
