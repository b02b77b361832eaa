-- What lent words hold when what stands in an image was stored in them.
use Rattle.std.specs.Prelude.{◌≡◌, true, ℕ, ◌≤◌, List, ◌++◌, length}
use Rattle.rules.specs.Box.{Box, Letter}
use Rattle.letter.specs.Place.{letter_at, place_fits}
use Rattle.row.specs.Row.{box_of, row_fits}
use Rattle.memory.specs.Memory.{site_words, links_words, past_site, past_links, site_of}
use Rattle.memory.specs.Memory.{memory_form}
use Rattle.cells.specs.Cells.{Stands, Found}
use Rattle.image.specs.Image.{box_words}
use Rattle.image.specs.Parts.{Listed, n_in, JIn, LIn, listed, listed_bytes, GoodListed}

-- the place p holds the letter y
pub record HoldsLetter (J : ℕ) (p : List ℕ) (y : Letter) : Type 0 where
  pub letter : letter_at p ≡ y
  pub fits : place_fits J p ≡ true

-- the row r begins with the words and the records of the box x; what follows is not looked at
pub record HasBox (r : List ℕ) (x : Box) : Type 0 where
  pub rest : List ℕ
  pub words : r ≡ box_words x ++ (x.records ++ rest)

-- the row r holds the box x, one of n
pub record HoldsBox (n J : ℕ) (r : List ℕ) (x : Box) : Type 0 where
  pub box : box_of n r ≡ x
  pub fits : row_fits J r ≡ true

-- the words xs and ls are enough for the bodies that stand at `at`
pub record RoomFor (src : List ℕ) (at : ℕ) (xs ls : List ℕ) : Type 0 where
  pub words : (t : Listed) (q : ℕ) → GoodListed t → Stands (listed_bytes t) src at q
      → (site_words (n_in t) (JIn t) ≤ length xs)
      × (links_words (n_in t) (JIn t) (LIn t) ≤ length ls)

-- the words xs and ls have become ys and ks: these are by form, their site is what the bodies t
-- hold, and what follows its rows and links is as it was
pub record HoldsSite (xs ls ys ks : List ℕ) (t : Listed) : Type 0 where
  pub form : memory_form ys ks ≡ true
  pub site : listed (site_of ys ks) ≡ t
  pub site-words : length ys ≡ length xs
  pub links-words : length ks ≡ length ls
  pub past-site : past_site (n_in t) (JIn t) ys ≡ past_site (n_in t) (JIn t) xs
  pub past-links : past_links (n_in t) (JIn t) (LIn t) ks ≡ past_links (n_in t) (JIn t) (LIn t) ls

-- whatever bodies by form stand at `at`, the words hold them now
abbrev pub SiteStored : List ℕ → ℕ → List ℕ → List ℕ → List ℕ → List ℕ → Type 0
SiteStored src at xs ls ys ks =
    (q : ℕ) (f : Found listed_bytes GoodListed src at q) → HoldsSite xs ls ys ks f.thing
