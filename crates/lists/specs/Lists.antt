-- The text of a list, and what a line of two lists is answered: "lines of two lists, records
-- `LEFT:RIGHT` parted by commas, `-` for an empty list, answered `1 LIST`, `2 LIST` or `refused
-- 22`". A line that cannot be read is refused with 11.
use Rattle.std.specs.Prelude.{ℕ, ◌+◌, ◌≡◌, Bool, not, ◌&&◌, ◌||◌, List, [], ◌∷◌, ◌++◌, map, leb}
use Rattle.std.specs.Prelude.{Option, Some, None, unwrap_or, eqb, length, take, drop, get_or}
use Rattle.rules.specs.Pick.{pick}
use Rattle.rules.specs.Every.{each}
use Rattle.rules.specs.Sizes.{record_of}
use Rattle.scan.specs.Bytes.{index_of}
use Rattle.print.specs.Bytes.{bytes}
use Rattle.lines.specs.Read.{read_one}
use Rattle.longer.specs.Longer.{longer_of}
use Rattle.longer.specs.declared.Which.{Which}

-- ---- a list

-- what stands before the first byte b of a text, and what behind it
abbrev pub up_to : ℕ → List ℕ → List ℕ
up_to b s = take (index_of b s) s

abbrev pub behind : ℕ → List ℕ → List ℕ
behind b s = drop (index_of b s + 1) s

-- the texts that the bytes b part
abbrev pub ahead : ℕ → List (List ℕ) → List (List ℕ)
ahead x [] = (x ∷ []) ∷ []
ahead x (t ∷ ts) = (x ∷ t) ∷ ts

unfoldable pub parted_by : ℕ → List ℕ → List (List ℕ)
parted_by b [] = [] ∷ []
parted_by b (x ∷ s) = pick (eqb x b) ([] ∷ parted_by b s) (ahead x (parted_by b s))

-- the decimal that a text is, read as in a trace; 0 where it is none
abbrev pub value_of : Option ℕ → ℕ
value_of r = unwrap_or r 0

unfoldable pub number_in : List ℕ → ℕ
number_in s = value_of (read_one [] s)

-- "0 means no record"
unfoldable pub record_from : ℕ → ℕ → ℕ
record_from left right = pick (eqb left 0 || eqb right 0) 0 (record_of left right)

-- the record `LEFT:RIGHT` that a text is; 0 where it is none
unfoldable pub record_in : List ℕ → ℕ
record_in s = record_from (number_in (up_to 58 s)) (number_in (behind 58 s))

-- the records of a list that is not `-`
abbrev pub records_by : List ℕ → List ℕ
records_by s = map record_in (parted_by 44 s)

-- `-`
abbrev pub is_none : List ℕ → Bool
is_none s = eqb (length s) 1 && eqb (get_or s 0 0) 45

-- a list with these records, 0 for one that cannot be read, where there is room for so many
abbrev pub is_held : ℕ → Bool
is_held r = not (eqb r 0)

unfoldable pub listed_as : ℕ → List ℕ → Option ℕ
listed_as room rs =
    pick (each is_held rs && leb (length rs) room) (Some (length rs)) None

-- the records rs were read: where the answer names them they stand in front of the words o', which
-- are as many as o
pub record Reads (rs o o' : List ℕ) (r : Option ℕ) : Type 0 where
  pub answer : r ≡ listed_as (length o) rs
  pub records : (n : ℕ) → r ≡ Some n → take n o' ≡ rs
  pub words : length o' ≡ length o

abbrev pub RecordsRead : List ℕ → List ℕ → List ℕ → Option ℕ → Type 0
RecordsRead s o o' r = Reads (records_by s) o o' r

-- the records of a list; `-` has none
unfoldable pub records_in : List ℕ → List ℕ
records_in s = pick (is_none s) [] (records_by s)

abbrev pub ListRead : List ℕ → List ℕ → List ℕ → Option ℕ → Type 0
ListRead s o o' r = Reads (records_in s) o o' r

-- ---- a line

-- the lists xs and ys, read with these answers: 11 where one of them cannot be read
abbrev pub said_as : Option ℕ → List ℕ → Option ℕ → List ℕ → Option Which
said_as (Some n) xs (Some m) ys = Some (longer_of xs ys)
said_as (Some n) xs None ys = None
said_as None xs y ys = None

-- what a line is answered, where there is room for so many records of each list
unfoldable pub said_of : ℕ → ℕ → List ℕ → Option Which
said_of room room' line =
    said_as (listed_as room (records_in (up_to 32 line))) (records_in (up_to 32 line))
    (listed_as room' (records_in (behind 32 line))) (records_in (behind 32 line))

pub record Weighed (room room' : ℕ) (line : List ℕ) (m m' : ℕ) (r : Option Which) : Type 0 where
  pub said : r ≡ said_of room room' line
  pub first-room : m ≡ room
  pub second-room : m' ≡ room'

-- the same by the words in front of which the records stand
abbrev pub compared : Option ℕ → List ℕ → Option ℕ → List ℕ → Option Which
compared (Some n) a (Some m) b = Some (longer_of (take n a) (take m b))
compared (Some n) a None b = None
compared None a y b = None

-- "answered `1 LIST`, `2 LIST` or `refused 22`": the list as it stands in the line
abbrev pub list_text : ℕ → List ℕ → List ℕ
list_text digit list = digit ∷ 32 ∷ (list ++ (10 ∷ []))

abbrev pub which_text : List ℕ → Which → List ℕ
which_text line Which.First = list_text 49 (up_to 32 line)
which_text line Which.Second = list_text 50 (behind 32 line)
which_text line Which.Differs = bytes "refused 22\n"

abbrev pub said_text : List ℕ → Option Which → List ℕ
said_text line (Some w) = which_text line w
said_text line None = bytes "refused 11\n"
