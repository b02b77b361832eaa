-- What the functions over the lent words ask for, and what they leave.
use Rattle.std.specs.Prelude.{ℕ, ◌+◌, ◌-◌, ◌*◌, ◌≤◌, ◌<◌, ◌^◌, ◌≡◌, Bool, true, false, not, ◌&&◌}
use Rattle.std.specs.Prelude.{◌||◌, cond, eqb, ltb, length, take, get_or}
use mathlib.Core.List.{List, [], ◌∷◌, ◌++◌, tail}
use Rattle.words.specs.Rows.{part}
use Rattle.rules.specs.Sizes.{sizes_form}
use Rattle.rules.specs.Every.{every}
use Rattle.rules.specs.Sets.{has, set_form}
use Rattle.rules.specs.Steps.{elected}
use Rattle.rules.specs.Box.{Box, Letter, BookFits, letter_of, turned}
use Rattle.rules.specs.Site.{is_box, is_link}
use Rattle.rules.specs.Form.{form_box, form_letter}
use Rattle.rules.specs.declared.model.Mail.{Mail}
use Rattle.rules.specs.declared.model.Setting.{Setting}
use Rattle.rules.specs.declared.model.Turn.{Turn}
use Rattle.letter.specs.Place.{letter_at, place_form}
use Rattle.row.specs.Row.{box_of, row_fits}
use Rattle.link.specs.Link.{place_width, link_width, link_of, link_fits}
use Rattle.link.specs.Holds.{Sendable}
use Rattle.memory.specs.Memory.{site_words, links_words, past_site, past_links, row_at, link_at}
use Rattle.memory.specs.Memory.{general_words}
use Rattle.memory.specs.Memory.{box_in, link_in}

-- what box c knows of the site that the words hold
abbrev pub setting_at : List ℕ → ℕ → Setting
setting_at xs c = record {
  n = get_or xs 0 0;
  j = get_or xs 1 0;
  l = get_or xs 2 0;
  epoch = get_or xs 3 0;
  present = get_or xs 4 0;
  me = c;
}

-- the general words are there, as numbers of 32 bits
pub record GeneralLent (xs : List ℕ) : Type 0 where
  pub words : general_words ≤ length xs
  pub n : get_or xs 0 0 < 2 ^ 32
  pub j : get_or xs 1 0 < 2 ^ 32
  pub l : get_or xs 2 0 < 2 ^ 32
  pub epoch : get_or xs 3 0 < 2 ^ 32
  pub present : get_or xs 4 0 < 2 ^ 32

-- the boxes and the links of the sizes of s, in the words
abbrev pub boxes_of : Setting → List ℕ → ℕ → Box
boxes_of s xs = box_in s.n s.j xs

abbrev pub links_of : Setting → List ℕ → ℕ → ℕ → List Letter
links_of s ls = link_in s.n s.j s.l ls

-- the links, with the one from a to b changed by f
abbrev pub links_by : (List Letter → List Letter) → Setting → ℕ → ℕ → List ℕ → ℕ → ℕ → List Letter
links_by f s a b ls x y = cond (eqb x a && eqb y b) (f (links_of s ls x y)) (links_of s ls x y)

-- the sizes are in range and `site` has a row for each box, which can be read
pub record RowsLent (s : Setting) (xs : List ℕ) : Type 0 where
  pub sizes : sizes_form s.n s.j s.l ≡ true
  pub words : site_words s.n s.j ≤ length xs
  pub fits : (b : ℕ) → is_box s.n b ≡ true → row_fits s.j (row_at s.j xs b) ≡ true

-- the sizes are in range and `links` has a row for each link, which can be read
pub record LinksLent (s : Setting) (ls : List ℕ) : Type 0 where
  pub sizes : sizes_form s.n s.j s.l ≡ true
  pub words : links_words s.n s.j s.l ≤ length ls
  pub fits : (a b : ℕ) → is_link s.n a b ≡ true
      → link_fits s.j s.l (link_at s.n s.j s.l ls a b) ≡ true

-- the row of box me can be read, and holds it by form
pub record BoxLent (s : Setting) (xs : List ℕ) : Type 0 where
  pub rows : RowsLent s xs
  pub me : is_box s.n s.me ≡ true
  pub form : form_box s.n s.j s.me (boxes_of s xs s.me) ≡ true

-- the row of the link that is number k, counted from 0
abbrev pub link_row : Setting → List ℕ → ℕ → List ℕ
link_row s ls k = part ls (k * link_width s.j s.l) (link_width s.j s.l)

-- the row of box b holds x now, all else is as it was
pub record RowSet (s : Setting) (b : ℕ) (x : Box) (xs xs' : List ℕ) : Type 0 where
  pub box : box_of s.n (row_at s.j xs' b) ≡ x
  pub fits : row_fits s.j (row_at s.j xs' b) ≡ true
  pub others : (c : ℕ) → is_box s.n c ≡ true → (c ≡ b → ⊥)
      → row_at s.j xs' c ≡ row_at s.j xs c
  pub general : take general_words xs' ≡ take general_words xs
  pub past : past_site s.n s.j xs' ≡ past_site s.n s.j xs
  pub words : length xs' ≡ length xs

-- link number k holds the letters ys now, all else is as it was
pub record LinkSet (s : Setting) (k : ℕ) (ys : List Letter) (ls ls' : List ℕ) : Type 0 where
  pub letters : link_of s.j s.l (link_row s ls' k) ≡ ys
  pub fits : link_fits s.j s.l (link_row s ls' k) ≡ true
  pub others : (i : ℕ) → i < s.n * (s.n - 1) → (i ≡ k → ⊥) → link_row s ls' i ≡ link_row s ls i
  pub past : past_links s.n s.j s.l ls' ≡ past_links s.n s.j s.l ls
  pub words : length ls' ≡ length ls

-- the boxes are f now; the general words and those past the rows are as they were
pub record RowsPut (s : Setting) (f : ℕ → Box) (xs xs' : List ℕ) : Type 0 where
  pub boxes : boxes_of s xs' ≡ f
  pub general : take general_words xs' ≡ take general_words xs
  pub past : past_site s.n s.j xs' ≡ past_site s.n s.j xs
  pub words : length xs' ≡ length xs
  pub lent : RowsLent s xs'

-- the links are f now; the words past them are as they were
pub record LinksPut (s : Setting) (f : ℕ → ℕ → List Letter) (ls ls' : List ℕ) : Type 0 where
  pub links : links_of s ls' ≡ f
  pub past : past_links s.n s.j s.l ls' ≡ past_links s.n s.j s.l ls
  pub words : length ls' ≡ length ls
  pub lent : LinksLent s ls'

-- the head of the link from a to me stands in the place that begins at p
pub record HeadStands (s : Setting) (a : ℕ) (ls : List ℕ) (p : ℕ) : Type 0 where
  pub inside : p + place_width s.j ≤ length ls
  pub letters :
      links_of s ls a s.me
      ≡ letter_at (part ls p (place_width s.j)) ∷ tail (links_of s ls a s.me)
  pub form : form_letter s.j (letter_at (part ls p (place_width s.j))) ≡ true
      → place_form s.j (part ls p (place_width s.j)) ≡ true

-- the link from me to b has room for one mail more, where b is in the set
abbrev pub room_for : Setting → List ℕ → ℕ → ℕ → Bool
room_for s ls set b = not (has set b) || ltb (length (links_of s ls s.me b)) s.l

-- one letter y from c to each box that p says
abbrev pub sent : (ℕ → ℕ → List Letter) → ℕ → (ℕ → Bool) → Letter → ℕ → ℕ → List Letter
sent link c p y = λ a b. cond (eqb a c && p b) (link a b ++ (y ∷ [])) (link a b)

-- the mail m with its records of rs goes from me to each box of the set, none of which is me
pub record Sends (s : Setting) (ls : List ℕ) (set : ℕ) (m : Mail) (rs : List ℕ) : Type 0 where
  pub lent : LinksLent s ls
  pub me : is_box s.n s.me ≡ true
  pub boxes : set_form s.n set ≡ true
  pub other : has set s.me ≡ false
  pub room : every s.n (room_for s ls set) ≡ true
  pub letter : form_letter s.j (letter_of m rs) ≡ true

-- the same of one box b, where it is in the set
pub record SendsTo (s : Setting) (ls : List ℕ) (set b : ℕ) (m : Mail) (rs : List ℕ) : Type 0 where
  pub lent : LinksLent s ls
  pub me : is_box s.n s.me ≡ true
  pub box : is_box s.n b ≡ true
  pub other : has set s.me ≡ false
  pub room : room_for s ls set b ≡ true
  pub letter : Sendable s.j m rs

-- box me can take the turn t, by a mail with the records ms
pub record Playable (s : Setting) (xs ms : List ℕ) (t : Turn) : Type 0 where
  pub lent : BoxLent s xs
  pub form : form_box s.n s.j s.me (turned (boxes_of s xs s.me) t ms) ≡ true
  pub book : BookFits s.j (boxes_of s xs s.me).records ms t.book

-- what box b knows, where s is what another knows
abbrev pub setting_for : Setting → ℕ → Setting
setting_for s b = record {
  n = s.n;
  j = s.j;
  l = s.l;
  epoch = s.epoch;
  present = s.present;
  me = b;
}

-- every box when c is elected
abbrev pub elected_boxes : Setting → ℕ → (ℕ → Box) → ℕ → Box
elected_boxes s c box b = record {
  head = cond (is_box s.n b) (elected (box b).head (setting_for s b) c) (box b).head;
  records = (box b).records;
}

-- every row can be read, and holds its box by form
pub record BoxesLent (s : Setting) (xs : List ℕ) : Type 0 where
  pub rows : RowsLent s xs
  pub form : (b : ℕ) → is_box s.n b ≡ true → form_box s.n s.j b (boxes_of s xs b) ≡ true
