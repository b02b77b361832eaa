-- What several rules share: "others", the record at last+1, records that are taken, the best that
-- is cleared.
use Rattle.std.specs.Prelude.{ℕ, ◌+◌, ◌-◌, Bool, ◌&&◌, List, [], ◌∷◌, leb, ltb, eqb}
use Rattle.rules.specs.Pick.{pick}
use Rattle.rules.specs.Sizes.{most_number, unknown}
use Rattle.rules.specs.Sets.{without}
use Rattle.rules.specs.Fields.{lasting, keeping}
use Rattle.rules.specs.Types.{Best, Book, Kept, Setting}

-- "Others" are the present boxes but the box itself.
unfoldable pub others : Setting → ℕ
others s = without s.present s.me

-- "Peers unknown"
abbrev pub all_unknown : List ℕ
all_unknown = unknown ∷ unknown ∷ unknown ∷ unknown ∷ unknown ∷ []

-- "the stored pn if the stored number is last+1, else 0"
unfoldable pub under_of : Kept → ℕ
under_of k = pick (eqb k.stored.number (k.last + 1)) k.stored.pn 0

-- how many numbers there are from first to last
abbrev pub span : ℕ → ℕ → ℕ
span first last = last + 1 - first

-- "raises its own .. to that if lower" (Q-4)
unfoldable pub higher : ℕ → ℕ → ℕ
higher own theirs = pick (ltb own theirs) theirs own

-- how many records leave the book of k where its first is raised to F
abbrev pub dropped : ℕ → Kept → ℕ
dropped F k = higher k.first F - k.first

-- "Take its records from own last+1 to its last", and "raises its own first" (Q-4): what is kept
-- then, of a sender that keeps from F to L ..
unfoldable pub took_kept : ℕ → ℕ → Kept → Kept
took_kept F L k = keeping (higher k.first F) (lasting (higher k.last L) k)

-- .. and what becomes of the book: "if the sender's first lies above the receiver's last+1, it
-- takes the sender's agreed records whole" (Q-4)
unfoldable pub took_book : ℕ → ℕ → Kept → Book
took_book F L k =
    pick (ltb (k.last + 1) F) (Book.Take 0 0 0 (span F L))
    (pick (ltb k.last L)
    (Book.Take (dropped F k) (span k.first k.last) (span F k.last) (span F L))
    (Book.Drop (dropped F k)))

-- last+1 needs no record beyond J, and does not pass 1,000,000,000 (refusal 7 where this fails,
-- Q-4)
unfoldable pub room_next : ℕ → ℕ → ℕ → Bool
room_next J first last = leb (last + 2) (J + first) && ltb last most_number

-- "the best cleared is pn, number and record 0"
abbrev pub none : Best
none = record { pn = 0; number = 0; value = 0 }

-- "the best is cleared if its number is not above last"
unfoldable pub cleared : ℕ → Best → Best
cleared last best = pick (leb best.number last) none best
