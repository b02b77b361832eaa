-- The site in two lists of words that the caller lends. `site`: n, J, L, epoch, present set, and
-- then a row for each box. `links`: a row for each ordered pair of different boxes, by sender then
-- receiver. All other words are unused room.
use Rattle.std.specs.Prelude.{ℕ, ◌+◌, ◌-◌, ◌*◌, Bool, ◌&&◌, ◌||◌, cond, List, [], ◌∷◌, leb, ltb}
use Rattle.std.specs.Prelude.{eqb, length, drop, get_or}
use Rattle.words.specs.Rows.{part}
use Rattle.rules.specs.Every.{all, every}
use Rattle.rules.specs.Sizes.{sizes_form}
use Rattle.rules.specs.Box.{Box, Letter}
use Rattle.rules.specs.Site.{Site, fresh_box, is_box, is_link}
use Rattle.rules.specs.Form.{form}
use Rattle.row.specs.Row.{box_of, row_fits, row_width}
use Rattle.link.specs.Link.{link_width, link_of, link_fits}

-- where the general words stand
abbrev pub n_at : ℕ
n_at = 0

abbrev pub JAt : ℕ
JAt = 1

abbrev pub LAt : ℕ
LAt = 2

abbrev pub epoch_at : ℕ
epoch_at = 3

abbrev pub present_at : ℕ
present_at = 4

-- the rows stand behind these
abbrev pub general_words : ℕ
general_words = 5

-- how many words a site of these sizes needs in each list
abbrev pub site_words : ℕ → ℕ → ℕ
site_words n J = general_words + n * row_width J

abbrev pub links_words : ℕ → ℕ → ℕ → ℕ
links_words n J L = n * (n - 1) * link_width J L

-- neither list is too short for a site of these sizes
abbrev pub enough : ℕ → ℕ → ℕ → List ℕ → List ℕ → Bool
enough n J L xs ls = leb (site_words n J) (length xs) && leb (links_words n J L) (length ls)

-- the words past those of a site of these sizes, in each list: room that is the caller's
abbrev pub past_site : ℕ → ℕ → List ℕ → List ℕ
past_site n J xs = drop (site_words n J) xs

abbrev pub past_links : ℕ → ℕ → ℕ → List ℕ → List ℕ
past_links n J L ls = drop (links_words n J L) ls

-- where box b's row begins, and the row
abbrev pub row_start : ℕ → ℕ → ℕ
row_start J b = general_words + (b - 1) * row_width J

abbrev pub row_at : ℕ → List ℕ → ℕ → List ℕ
row_at J xs b = part xs (row_start J b) (row_width J)

-- the links are counted from 0: n − 1 of each sender, its receivers in order without itself
abbrev pub link_index : ℕ → ℕ → ℕ → ℕ
link_index n a b = (a - 1) * (n - 1) + cond (ltb b a) (b - 1) (b - 2)

abbrev pub link_start : ℕ → ℕ → ℕ → ℕ → ℕ → ℕ
link_start n J L a b = link_index n a b * link_width J L

abbrev pub link_at : ℕ → ℕ → ℕ → List ℕ → ℕ → ℕ → List ℕ
link_at n J L ls a b = part ls (link_start n J L a b) (link_width J L)

-- the boxes and the links that the words hold; outside 1 to n a fresh box and no mail
abbrev pub box_in : ℕ → ℕ → List ℕ → ℕ → Box
box_in n J xs b = cond (is_box n b) (box_of n (row_at J xs b)) fresh_box

abbrev pub link_in : ℕ → ℕ → ℕ → List ℕ → ℕ → ℕ → List Letter
link_in n J L ls a b = cond (is_link n a b) (link_of J L (link_at n J L ls a b)) []

-- the site that the words hold
unfoldable pub site_of : List ℕ → List ℕ → Site
site_of xs ls = record {
  n = get_or xs n_at 0;
  J = get_or xs JAt 0;
  L = get_or xs LAt 0;
  epoch = get_or xs epoch_at 0;
  present = get_or xs present_at 0;
  box = box_in (get_or xs n_at 0) (get_or xs JAt 0) xs;
  link = link_in (get_or xs n_at 0) (get_or xs JAt 0) (get_or xs LAt 0) ls;
}

-- what the site does not show of its words: there are enough of them, and every row and every link
-- fits
unfoldable pub roomy : ℕ → ℕ → ℕ → List ℕ → List ℕ → Bool
roomy n J L xs ls =
    all (sizes_form n J L
    ∷ leb (site_words n J) (length xs)
    ∷ leb (links_words n J L) (length ls)
    ∷ every n (λ b. row_fits J (row_at J xs b))
    ∷ every n (λ a. every n (λ b. eqb a b || link_fits J L (link_at n J L ls a b)))
    ∷ [])

-- the words can be read as a site at all
abbrev pub readable : List ℕ → List ℕ → Bool
readable xs ls = roomy (get_or xs n_at 0) (get_or xs JAt 0) (get_or xs LAt 0) xs ls

-- by form, of the words: "A lent site memory that is too short for its sizes is not by form"
unfoldable pub memory_form : List ℕ → List ℕ → Bool
memory_form xs ls =
    all (readable xs ls
    ∷ form (site_of xs ls)
    ∷ [])
