-- What a function of a link asks of its words, and what it leaves in them.
use Rattle.std.specs.Prelude.{ℕ, ◌+◌, ◌*◌, ◌≤◌, ◌≡◌, true, length}
use mathlib.Core.List.{List, ◌∷◌, tail}
use Rattle.words.specs.Rows.{part}
use Rattle.words.specs.Ring.{slot}
use Rattle.rules.specs.Sizes.{most_loads, most_mails}
use Rattle.rules.specs.Box.{Letter}
use Rattle.rules.specs.declared.model.Mail.{Mail}
use Rattle.letter.specs.Place.{letter_at, place_fits, place_form}
use Rattle.letter.specs.Lent.{agreed_of, Numbered, enclosed_from, enclosed_count}
use Rattle.link.specs.Link.{place_width, link_width, link_of, link_fits, link_form}

-- where the place begins that is i places on from place s, and its words
abbrev pub place_start : ℕ → ℕ → ℕ → ℕ → ℕ
place_start J L s i = 2 + slot L s i * place_width J

abbrev pub place_in : ℕ → ℕ → ℕ → ℕ → List ℕ → List ℕ
place_in J L s i r = part r (place_start J L s i) (place_width J)

-- the sizes of a link are in range
pub record LinkSizes (J L : ℕ) : Type 0 where
  pub some-loads : 1 ≤ J
  pub few-loads : J ≤ most_loads
  pub some-mails : 1 ≤ L
  pub few-mails : L ≤ most_mails

-- the words r are as many as a link of these sizes has
pub record LinkWords (J L : ℕ) (r : List ℕ) : Type 0 where
  pub sizes : LinkSizes J L
  pub width : length r ≡ link_width J L

-- the words r can be read as a link
pub record ReadableLink (J L : ℕ) (r : List ℕ) : Type 0 where
  pub words : LinkWords J L r
  pub fits : link_fits J L r ≡ true

-- the words r hold the letters ys
pub record Holds (J L : ℕ) (r : List ℕ) (ys : List Letter) : Type 0 where
  pub letters : link_of J L r ≡ ys
  pub fits : link_fits J L r ≡ true
  pub width : length r ≡ link_width J L

-- the head of the link stands in the place that begins at a
pub record HeadAt (J L : ℕ) (r : List ℕ) (a : ℕ) : Type 0 where
  pub inside : a + place_width J ≤ link_width J L
  pub letters : link_of J L r ≡ letter_at (part r a (place_width J)) ∷ tail (link_of J L r)
  pub fits : place_fits J (part r a (place_width J)) ≡ true
  pub form : link_form J L r ≡ true → place_form J (part r a (place_width J)) ≡ true

-- rs has the records that go with m, and a place has room for them
pub record Sendable (J : ℕ) (m : Mail) (rs : List ℕ) : Type 0 where
  pub numbered : Numbered m
  pub held : enclosed_from m.kind (agreed_of m) + enclosed_count m.kind (agreed_of m) (length rs)
      ≤ length rs
  pub room : enclosed_count m.kind (agreed_of m) (length rs) ≤ J
