-- A link in words: its first place, its count of mails, and L places round a ring.
use Rattle.std.specs.Prelude.{ℕ, ◌+◌, ◌*◌, Bool, List, [], ◌∷◌, map, leb, ltb, get_or, drop}
use Rattle.words.specs.Rows.{rows}
use Rattle.words.specs.Ring.{ring}
use Rattle.rules.specs.Every.{all, each}
use Rattle.rules.specs.Box.{Letter}
use Rattle.rules.specs.Form.{form_letter}
use Rattle.letter.specs.Place.{letter_at, place_fits, head_words as letter_head}

-- the words of a mail and its records' room; the whole link
abbrev pub place_width : ℕ → ℕ
place_width J = letter_head + J

abbrev pub link_width : ℕ → ℕ → ℕ
link_width J L = 2 + L * place_width J

-- the places that hold mails, in order; the others are not read
unfoldable pub places : ℕ → ℕ → List ℕ → List (List ℕ)
places J L r = ring [] L (get_or r 0 0) (get_or r 1 0) (rows (place_width J) L (drop 2 r))

-- the letters on the link, first in first out
unfoldable pub link_of : ℕ → ℕ → List ℕ → List Letter
link_of J L r = map letter_at (places J L r)

-- what the letters do not show of the link's words
unfoldable pub link_fits : ℕ → ℕ → List ℕ → Bool
link_fits J L r =
    all (ltb (get_or r 0 0) L
    ∷ leb (get_or r 1 0) L
    ∷ each (place_fits J) (places J L r)
    ∷ [])

-- the link holds letters by form
unfoldable pub link_form : ℕ → ℕ → List ℕ → Bool
link_form J L r =
    all (link_fits J L r
    ∷ each (form_letter J) (link_of J L r)
    ∷ [])
