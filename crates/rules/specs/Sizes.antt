-- "The site and its sizes": the ranges, a majority, a record, the epoch's parity.
use Rattle.std.specs.Prelude.{ℕ, ◌+◌, ◌*◌, ◌/◌, ◌%◌, Bool, ◌&&◌, ◌||◌, [], ◌∷◌, leb, ltb, eqb}
use Rattle.rules.specs.Every.{all}

-- "n boxes, numbered 1 to n, n from 1 to 5"
abbrev pub most_boxes : ℕ
most_boxes = 5

-- "J from 1 to 4,096": "at most J records in all" (Q-4)
abbrev pub most_loads : ℕ
most_loads = 4096

-- "Load numbers, and by form every number field and last, may now run to 1,000,000,000" (Q-4)
abbrev pub most_number : ℕ
most_number = 1000000000

-- "at most L mails, L from 1 to 16"
abbrev pub most_mails : ℕ
most_mails = 16

-- "epoch (1 to 1,000,000 .."
abbrev pub most_epoch : ℕ
most_epoch = 1000000

-- "pn 0 to 999,999,999"
abbrev pub most_pn : ℕ
most_pn = 999999999

-- "unknown 4,294,967,295": the last of a peer of which nothing is known
abbrev pub unknown : ℕ
unknown = 4294967295

-- from a to b, both counted
abbrev pub within : ℕ → ℕ → ℕ → Bool
within a b x = leb a x && leb x b

-- refusal 13 is given exactly where this fails
unfoldable pub sizes_form : ℕ → ℕ → ℕ → Bool
sizes_form n J L =
    all (within 1 most_boxes n
    ∷ within 1 most_loads J
    ∷ within 1 most_mails L
    ∷ [])

-- "A majority is the whole part of n/2, plus 1."
abbrev pub majority_of : ℕ → ℕ
majority_of n = n / 2 + 1

-- "odd means an election is due"
abbrev pub even : ℕ → Bool
even e = eqb (e % 2) 0

-- "A record is a left and a right frame number .. kept as left × 4,294,967,296 + right."
abbrev pub record_of : ℕ → ℕ → ℕ
record_of left right = left * 4294967296 + right

abbrev pub left_of : ℕ → ℕ
left_of r = r / 4294967296

abbrev pub right_of : ℕ → ℕ
right_of r = r % 4294967296

-- ".. each 1 to 4,294,967,295": the right one cannot be more
unfoldable pub proper : ℕ → Bool
proper r = leb 1 (left_of r) && ltb (left_of r) 4294967296 && leb 1 (right_of r)

-- "each record 0 or proper": "0 means no record"
unfoldable pub record_form : ℕ → Bool
record_form r = eqb r 0 || proper r
