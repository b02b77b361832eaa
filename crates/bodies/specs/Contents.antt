-- "A reader over the contents table" (Q-7): what the table of contents names in any bytes, and what
-- a reader answers at each place.
use Rattle.std.specs.Prelude.{ℕ, ◌+◌, ◌-◌, ◌*◌, Bool, ◌&&◌, List, leb, eqb, length}
use Rattle.words.specs.Rows.{part}
use Rattle.le.specs.Le.{of_le}
use Rattle.rules.specs.Pick.{pick}
use Rattle.rules.specs.Sizes.{most_boxes, within}
use Rattle.rules.specs.declared.model.Refusal.{Refusal}
use Rattle.image.specs.Longest.{table_bytes}
use Rattle.std.specs.Prelude.{Result, Ok, Err}
use Rattle.bodies.specs.declared.Part.{Part}

-- "Little-endian, 32 bits": number i of the table, counted from 0
unfoldable pub table_number : List ℕ → ℕ → ℕ
table_number im i = of_le (part im (4 * i) 4)

-- "number of bodies (n+2), then byte offset from the image's start and length of each": bodies are
-- numbered from 1
abbrev pub count_of : List ℕ → ℕ
count_of im = table_number im 0

abbrev pub begin_of : List ℕ → ℕ → ℕ
begin_of im k = table_number im (2 * k - 1)

abbrev pub long_of : List ℕ → ℕ → ℕ
long_of im k = table_number im (2 * k)

-- "exactly the part that the table names"
abbrev pub body_of : List ℕ → ℕ → List ℕ
body_of im k = part im (begin_of im k) (long_of im k)

-- "number of bodies (n+2)", n from 1 to 5
abbrev pub most_bodies : ℕ
most_bodies = most_boxes + 2

abbrev pub is_number : ℕ → Bool
is_number k = within 1 most_bodies k

-- the table has an entry for body k, and what it names lies inside the bytes
unfoldable pub has_body : List ℕ → ℕ → Bool
has_body im k =
    is_number k
    && (leb (table_bytes k) (length im)
    && (leb k (count_of im) && leb (begin_of im k + long_of im k) (length im)))

-- where a body begins and its length, or why there is none
abbrev pub Named : Type 0
Named = Result Part Refusal

abbrev pub part_from : ℕ → ℕ → Part
part_from a n = record { begin = a; long = n }

-- where body k begins and its length; 3 where there is none
unfoldable pub named : List ℕ → ℕ → Named
named im k =
    pick (has_body im k) (Ok (part_from (begin_of im k) (long_of im k)))
    (Err Refusal.Condition)

-- ---- a reader at place k: the next body's number, or 0 where the image is not by form

-- "Refusals: 1; 3 after the last body."
unfoldable pub asked : List ℕ → ℕ → Named
asked im k = pick (eqb k 0) (Err Refusal.Form) (named im k)

-- "handing out one body at a time": the place afterwards, the same where nothing is handed out
unfoldable pub after : List ℕ → ℕ → ℕ
after im k = pick (has_body im k) (k + 1) k
