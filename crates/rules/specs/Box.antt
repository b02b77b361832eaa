-- A box and a letter with their records; "A box runs the same rules for its own part": an event in,
-- a turn out.
use Rattle.std.specs.Prelude.{ℕ, ◌+◌, ◌-◌, ◌≤◌, ◌<◌, List, [], ◌∷◌, ◌++◌, ltb, length, take, drop}
use Rattle.std.specs.Prelude.{Option, Some, None}
use Rattle.std.specs.Prelude.{get_or}
use Rattle.rules.specs.Pick.{pick}
use Rattle.rules.specs.Parts.{span}
use Rattle.rules.specs.Mails.{on_mail}
use Rattle.rules.specs.Steps.{acted}
use Rattle.rules.specs.Types.{Act, Book, BoxState, Kind, Mail, Setting, Turn}

-- a box: its fields, and the records that it holds, of the numbers first, first+1, .. (Q-4)
pub record Box : Type 0 where
  pub head : BoxState
  pub records : List ℕ

-- a mail with its records; in a Last and a Commit from its first on
pub record Letter : Type 0 where
  pub head : Mail
  pub records : List ℕ

-- the record after the first l, if there is one
unfoldable pub held_at : List ℕ → ℕ → Option ℕ
held_at rs l = pick (ltb l (length rs)) (Some (get_or rs l 0)) None

-- the record that a box holds at its last+1
abbrev pub mine : Box → Option ℕ
mine x = held_at x.records (span x.head.kept.first x.head.kept.last)

-- .. and a letter at its own
abbrev pub next_of : Letter → Option ℕ
next_of y = held_at y.records (span y.head.first y.head.last)

-- the record of number k, of those from first on
abbrev pub record_at : ℕ → List ℕ → ℕ → ℕ
record_at first rs k = get_or rs (k - first) 0

-- the records after a turn, of the box's rs and the mail's ms
unfoldable pub written : Book → List ℕ → List ℕ → List ℕ
written Book.Keep rs ms = rs
written (Book.Drop d) rs ms = drop d rs
written (Book.Put d a r) rs ms = drop d (take a rs) ++ (r ∷ [])
written (Book.Take d a b e) rs ms = drop d (take a rs) ++ drop b (take e ms)

-- what a turn makes of the book fits the box's records rs and the mail's ms: what it keeps and what
-- it takes is there, and there is room for J
abbrev pub BookFits : ℕ → List ℕ → List ℕ → Book → Type 0
BookFits J rs ms Book.Keep = Unit {0}
BookFits J rs ms (Book.Drop d) = d ≤ length rs
BookFits J rs ms (Book.Put d a r) = (d ≤ a) × (a ≤ length rs) × (a - d < J)
BookFits J rs ms (Book.Take d a b e) =
    (d ≤ a) × (a ≤ length rs) × (b < e) × (e ≤ length ms) × (a - d + (e - b) ≤ J)

-- the records that go with a mail, a of them agreed: of Last all that are held, of Begin the one at
-- last+1, of Commit those up to last
unfoldable pub enclosed : Kind → ℕ → List ℕ → List ℕ
enclosed Kind.Collect a rs = []
enclosed Kind.Last a rs = rs
enclosed Kind.Begin a rs = get_or rs a 0 ∷ []
enclosed Kind.Accept a rs = []
enclosed Kind.Commit a rs = take a rs
enclosed Kind.Lease a rs = []
enclosed Kind.LeaseAck a rs = []

abbrev pub letter_of : Mail → List ℕ → Letter
letter_of m rs = record {
  head = m;
  records = enclosed m.kind (span m.first m.last) rs;
}

-- "one event or mail in": a step of its own, or a letter with its sender
pub data Event : Type 0 where
  own : Act → Event
  mail : ℕ → Letter → Event

abbrev pub turn_of : Setting → Box → Event → Turn
turn_of s x (own a) = acted a x.head s (mine x)
turn_of s x (mail sender y) =
    on_mail x.head s sender y.head
    (get_or y.records 0 0) (next_of y) (mine x)

-- the records that an event brings
abbrev pub brought : Event → List ℕ
brought (own a) = []
brought (mail sender y) = y.records

-- the box after a turn, ms the records that the event brought
abbrev pub turned : Box → Turn → List ℕ → Box
turned x t ms = record { head = t.next; records = written t.book x.records ms }
