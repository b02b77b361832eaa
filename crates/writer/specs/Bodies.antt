-- What is written of lent words, in the image's order: boxes, links, and bodies with their entries
-- in the table of contents.
use Rattle.std.specs.Prelude.{ℕ, ◌+◌, ◌*◌, ◌≤◌, List, [], map, length, get_or}
use Rattle.rules.specs.Box.{Box, Letter}
use Rattle.rules.specs.Site.{fresh_box}
use Rattle.rules.specs.declared.model.Setting.{Setting}
use Rattle.letter.specs.Place.{letter_at}
use Rattle.link.specs.Link.{link_of}
use Rattle.memory.specs.After.{boxes_of, links_of}
use Rattle.cells.specs.Cells.{chain, cells, Room, Wrote}
use Rattle.image.specs.Image.{numbers_from, by_sender, contents}
use Rattle.image.specs.Longest.{longest_of_all}

-- boxes 1 to n; the one at index i, counted from 0
unfoldable pub boxes_in : Setting → List ℕ → List Box
boxes_in s xs = map (boxes_of s xs) (numbers_from 1 s.n)

abbrev pub box_at : Setting → List ℕ → ℕ → Box
box_at s xs i = get_or (boxes_in s xs) i fresh_box

-- the links by sender then receiver; link k
unfoldable pub links_in : Setting → List ℕ → List (List Letter)
links_in s ls = by_sender s.n (links_of s ls)

abbrev pub link_in : Setting → List ℕ → ℕ → List Letter
link_in s ls k = get_or (links_in s ls) k []

-- mail i of the link r
abbrev pub letter_in : ℕ → ℕ → List ℕ → ℕ → Letter
letter_in J L r i = get_or (link_of J L r) i (letter_at [])

-- no more bytes than the longest image has: their number can be summed up
pub record Short (bs : List ℕ) : Type 0 where
  pub most : length bs ≤ longest_of_all

-- ---- bodies and their entries

-- o has room for the bodies bs from `at` on, and before that for their entries from k on
pub record Space (bs : List (List ℕ)) (o : List ℕ) (k at : ℕ) : Type 0 where
  pub entries : k + 8 * length bs ≤ at
  pub room : Room (chain (λ b. b) bs) o at

-- o has become o': the entries of the bodies bs were written from k on, the bodies themselves from
-- `at` on, r is the place behind them, and all else is as it was
pub record Entered (bs : List (List ℕ)) (o : List ℕ) (k at : ℕ) (o' : List ℕ) (r : ℕ) : Type 0
  where
    pub middle : List ℕ
    pub entries : Wrote (cells 4 (contents at bs)) o k middle (k + 8 * length bs)
    pub bodies : Wrote (chain (λ b. b) bs) middle at o' r
    pub apart : k + 8 * length bs ≤ at
