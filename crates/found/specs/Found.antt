-- "A body is kept where each of its fields is by form, in the image's order, and its length is just
-- used up; else it is set aside at the first field that made it so (a body too short: the first
-- field that does not fit; too long: `rest`)."
use Rattle.std.specs.Prelude.{ℕ, zero, suc, ◌+◌, ◌-◌, ◌*◌, Bool, true, false, cond, List, [], ◌∷◌}
use Rattle.std.specs.Prelude.{leb, eqb, length, replicate}
use Rattle.rules.specs.Pick.{pick}
use Rattle.rules.specs.Sizes.{most_loads, most_mails, most_epoch, unknown, within, proper}
use Rattle.rules.specs.Sets.{set_form}
use Rattle.rules.specs.declared.model.Kind.{Kind}
use Rattle.std.specs.Prelude.{Option, Some, None, Result, Ok, Err}
use Rattle.values.specs.declared.Field.{Field}
use Rattle.letter.specs.Place.{kind_of, head_words as letter_words}
use Rattle.letter.specs.Faults.{head_fault as letter_fault}
use Rattle.row.specs.Row.{first_at, head_words as box_words}
use Rattle.row.specs.Faults.{head_fault as box_fault}
use Rattle.image.specs.Image.{box_groups, letter_groups}
use Rattle.image.specs.Longest.{general_long, box_head_long, letter_head_long}
use Rattle.found.specs.declared.Spot.{Spot}
use Rattle.found.specs.Stands.{word_at, words_at, groups_in}

-- what a body is: kept, or set aside at a field
abbrev pub Found : Type 0
Found = Result (Unit {0}) Spot

-- how far a walk over the mail has come: the place behind what was found by form, or the field at
-- which it has ended
abbrev pub Way : Type 0
Way = Result ℕ Spot

-- ---- what all bodies share

-- a field that is by form leaves what is found behind it
abbrev pub unless : Bool → Spot → Found → Found
unless formed s behind = cond formed behind (Err s)

-- "its length is just used up", "too long: `rest`"
abbrev pub end_found : List ℕ → ℕ → Found
end_found body at = unless (eqb at (length body)) Spot.Rest (Ok tt)

abbrev pub is_kept : Found → Bool
is_kept (Ok u) = true
is_kept (Err s) = false

-- "each record 0 or proper, and proper where held": how many are, before the first that is not
unfoldable pub leading : List ℕ → ℕ
leading [] = 0
leading (r ∷ rs) = pick (proper r) (suc (leading rs)) 0

-- ---- general

-- "n is the table's bodies less 2; a general body with another n is set aside at `n`"
unfoldable pub general_found : ℕ → List ℕ → Found
general_found n body =
    unless (eqb (word_at 4 body 0) n) Spot.N
    (unless (within 1 most_loads (word_at 4 body 4)) Spot.J
    (unless (within 1 most_mails (word_at 4 body 8)) Spot.L
    (unless (within 1 most_epoch (word_at 4 body 12)) Spot.Epoch
    (unless (set_form n (word_at 4 body 16)) Spot.Present
    (end_found body general_long)))))

-- "If the general body is set aside, J and L count as largest."
unfoldable pub loads_of : ℕ → List ℕ → ℕ
loads_of n body = pick (is_kept (general_found n body)) (word_at 4 body 4) most_loads

unfoldable pub mails_of : ℕ → List ℕ → ℕ
mails_of n body = pick (is_kept (general_found n body)) (word_at 4 body 8) most_mails

-- ---- a box

-- its words as a row has them; the lasts of peers above n are unknown
abbrev pub box_words_in : ℕ → List ℕ → List ℕ
box_words_in n body = groups_in (box_groups n) body 0 (replicate box_words unknown)

abbrev pub first_in : List ℕ → ℕ
first_in body = word_at 4 body (4 * first_at)

-- of so many records from `at` on, the first m are proper: a record is named by its load number
unfoldable pub records_found : List ℕ → ℕ → ℕ → ℕ → ℕ → Found
records_found body at first count m =
    unless (leb count m) (Spot.Record (first + m)) (end_found body (at + 8 * count))

-- "count of records held, and these", which stand from `at` on: the count is the head's last number
unfoldable pub held_found : List ℕ → ℕ → Found
held_found body at =
    records_found body at (first_in body) (word_at 4 body (at - 4))
    (leading (words_at 8 (word_at 4 body (at - 4)) body at))

abbrev pub head_found : Option Field → Found → Found
head_found None behind = behind
head_found (Some f) behind = Err (Spot.At f)

-- box b of n
unfoldable pub box_found : ℕ → ℕ → ℕ → List ℕ → Found
box_found n J b body =
    head_found (box_fault n J b (box_words_in n body)) (held_found body (box_head_long n))

-- ---- the mail, a walk from place to place

-- what is found behind q, unless the walk has ended
abbrev pub go_on : Way → (ℕ → Way) → Way
go_on (Ok q) behind = behind q
go_on (Err s) behind = Err s

-- m things, counted from i on, the first of them at p
unfoldable pub walk_on : (ℕ → ℕ → Way) → ℕ → ℕ → ℕ → Way
walk_on step zero i p = Ok p
walk_on step (suc m) i p = go_on (step i p) (walk_on step m (suc i))

-- the load number of a mail's first record: "`record15` of a .. Last or Commit that keeps from 15,
-- `record8` in a Begin whose last is 7"
abbrev pub number_in : Kind → ℕ → ℕ → ℕ
number_in Kind.Collect first last = first
number_in Kind.Last first last = first
number_in Kind.Begin first last = last + 1
number_in Kind.Accept first last = first
number_in Kind.Commit first last = first
number_in Kind.Lease first last = first
number_in Kind.LeaseAck first last = first

abbrev pub kind_in : List ℕ → ℕ → Kind
kind_in src at = kind_of (word_at 4 src at)

-- its words as a place has them; no first is 0
abbrev pub letter_words_in : List ℕ → ℕ → List ℕ
letter_words_in src at = groups_in (letter_groups (kind_in src at)) src at
    (replicate letter_words 0)

-- of so many records from `at` on, the first m are proper
unfoldable pub records_way : ℕ → ℕ → ℕ → ℕ → ℕ → ℕ → ℕ → Way
records_way a b i at first count m =
    cond (leb count m) (Ok (at + 8 * count)) (Err (Spot.MailRecord a b i (first + m)))

-- the records of mail i, which stand from p on
unfoldable pub enclosed_way : ℕ → ℕ → ℕ → Kind → List ℕ → ℕ → ℕ → Way
enclosed_way a b i kind src at p =
    records_way a b i p (number_in kind (word_at 4 src (at + 12)) (word_at 4 src (at + 8)))
    (word_at 4 src (p - 4)) (leading (words_at 8 (word_at 4 src (p - 4)) src p))

abbrev pub head_way : ℕ → ℕ → ℕ → Option Field → Way → Way
head_way a b i None behind = behind
head_way a b i (Some f) behind = Err (Spot.Mail a b i f)

-- mail i of the link from a to b
unfoldable pub letter_way : ℕ → ℕ → ℕ → List ℕ → ℕ → ℕ → Way
letter_way J a b src i at =
    head_way a b i (letter_fault J (letter_words_in src at))
    (enclosed_way a b i (kind_in src at) src at (at + letter_head_long (kind_in src at)))

-- "each a count and its mails"
unfoldable pub link_way : ℕ → ℕ → ℕ → ℕ → List ℕ → ℕ → Way
link_way J L a b src at =
    cond (leb (word_at 4 src at) L)
    (walk_on (letter_way J a b src) (word_at 4 src at) 1 (at + 4)) (Err (Spot.Link a b))

-- "links by sender then receiver": one for each ordered pair of different boxes
unfoldable pub pair_way : ℕ → ℕ → ℕ → List ℕ → ℕ → ℕ → Way
pair_way J L a src b at = cond (eqb a b) (Ok at) (link_way J L a b src at)

unfoldable pub sender_way : ℕ → ℕ → ℕ → List ℕ → ℕ → ℕ → Way
sender_way n J L src a at = walk_on (pair_way J L a src) n 1 at

abbrev pub way_found : List ℕ → Way → Found
way_found body (Ok q) = end_found body q
way_found body (Err s) = Err s

unfoldable pub mail_found : ℕ → ℕ → ℕ → List ℕ → Found
mail_found n J L body = way_found body (walk_on (sender_way n J L body) n 1 0)
