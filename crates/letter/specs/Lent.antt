-- What the functions over a lent place ask for and give.
use Rattle.std.specs.Prelude.{◌≡◌, ℕ, ◌+◌, ◌≤◌, ◌<◌, ◌^◌, true, List, length, get_or}
use Rattle.rules.specs.Sizes.{most_loads, most_number}
use Rattle.rules.specs.Parts.{span}
use Rattle.rules.specs.Box.{letter_of}
use Rattle.rules.specs.declared.model.Kind.{Kind}
use Rattle.rules.specs.declared.model.Mail.{Mail}
use Rattle.letter.specs.Place.{letter_at, place_fits, head_words, pn_at, last_at, first_at}
use Rattle.letter.specs.Place.{unagreed_at, count_at}

-- a place with room for J records
pub record PlaceSized (J : ℕ) (p : List ℕ) : Type 0 where
  pub words : length p ≡ head_words + J
  pub most : J ≤ most_loads

-- the records lie within the place, and the numbers fit 32 bits
pub record PlaceReadable (p : List ℕ) : Type 0 where
  pub room : head_words + get_or p count_at 0 ≤ length p
  pub pn : get_or p pn_at 0 < 2 ^ 32
  pub last : get_or p last_at 0 < 2 ^ 32
  pub first : get_or p first_at 0 < 2 ^ 32
  pub unagreed : get_or p unagreed_at 0 < 2 ^ 32

-- of a mail's numbers: how many records are agreed
abbrev pub agreed_of : Mail → ℕ
agreed_of m = span m.first m.last

-- its numbers can be counted
pub record Numbered (m : Mail) : Type 0 where
  pub last : m.last ≤ most_number
  pub first : m.first ≤ m.last + 1

-- the first of the records that go with a mail, a of them agreed, counted from 0 ..
abbrev pub enclosed_from : Kind → ℕ → ℕ
enclosed_from Kind.Collect a = 0
enclosed_from Kind.Last a = 0
enclosed_from Kind.Begin a = a
enclosed_from Kind.Accept a = 0
enclosed_from Kind.Commit a = 0
enclosed_from Kind.Lease a = 0
enclosed_from Kind.LeaseAck a = 0

-- .. and how many they are, of those held
abbrev pub enclosed_count : Kind → ℕ → ℕ → ℕ
enclosed_count Kind.Collect a held = 0
enclosed_count Kind.Last a held = held
enclosed_count Kind.Begin a held = 1
enclosed_count Kind.Accept a held = 0
enclosed_count Kind.Commit a held = a
enclosed_count Kind.Lease a held = 0
enclosed_count Kind.LeaseAck a held = 0

-- rs has the records that go with m, and p has room for them
pub record Encloses (p : List ℕ) (m : Mail) (rs : List ℕ) : Type 0 where
  pub numbered : Numbered m
  pub held : enclosed_from m.kind (agreed_of m) + enclosed_count m.kind (agreed_of m) (length rs)
      ≤ length rs
  pub room : head_words + enclosed_count m.kind (agreed_of m) (length rs) ≤ length p

-- p has become q, which holds m with its records of rs
pub record Enclosed (p : List ℕ) (m : Mail) (rs q : List ℕ) : Type 0 where
  pub letter : letter_at q ≡ letter_of m rs
  pub words : length q ≡ length p
  pub fits : (J : ℕ) → length p ≡ head_words + J → place_fits J q ≡ true
