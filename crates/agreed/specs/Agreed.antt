-- The agreed records of a box, in order, and where they stand in a site's words.
use Rattle.std.specs.Prelude.{ℕ, ◌+◌, ◌-◌, List, [], take, get_or}
use Rattle.words.specs.Rows.{part}
use Rattle.rules.specs.Pick.{pick}
use Rattle.rules.specs.Box.{Box}
use Rattle.rules.specs.Site.{is_box}
use Rattle.rules.specs.declared.model.Refusal.{Refusal}
use Rattle.row.specs.Row.{head_words}
use Rattle.memory.specs.Memory.{n_at, JAt, row_start, site_of, memory_form}
use Rattle.std.specs.Prelude.{Result, Ok, Err}
use Rattle.agreed.specs.declared.Listed.{Listed}

-- how many numbers a box keeps as agreed: "from first to last" (Q-4)
abbrev pub agreed_count : Box → ℕ
agreed_count x = x.head.kept.last + 1 - x.head.kept.first

-- their records; one that is held at last+1 is not agreed
abbrev pub agreed_records : Box → List ℕ
agreed_records x = take (agreed_count x) x.records

-- the box c that the words hold
abbrev pub box_at : List ℕ → List ℕ → ℕ → Box
box_at xs ls c = (site_of xs ls).box c

-- 2 for no box; else the first number, where its record stands, and how many there are
unfoldable pub agreed_in : List ℕ → List ℕ → ℕ → Result Listed Refusal
agreed_in xs ls c =
    pick (is_box (get_or xs n_at 0) c)
    (Ok (record {
      first = (box_at xs ls c).head.kept.first;
      place = row_start (get_or xs JAt 0) c + head_words;
      count = agreed_count (box_at xs ls c);
    }))
    (Err Refusal.Box)

-- 1 first, for words that are not by form
unfoldable pub agreed_on : List ℕ → List ℕ → ℕ → Result Listed Refusal
agreed_on xs ls c = pick (memory_form xs ls) (agreed_in xs ls c) (Err Refusal.Form)

-- the part of the words that an answer names, and none where it is refused
abbrev pub named : List ℕ → Result Listed Refusal → List ℕ
named xs (Ok l) = part xs l.place l.count
named xs (Err why) = []

-- the agreed records of box c, and none where it is refused
unfoldable pub records_on : List ℕ → List ℕ → ℕ → List ℕ
records_on xs ls c =
    pick (memory_form xs ls)
    (pick (is_box (get_or xs n_at 0) c) (agreed_records (box_at xs ls c)) [])
    []
