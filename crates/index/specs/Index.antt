-- The index of a box's agreed records by the left frame (Q-5), "beside each box's records in the
-- lent words": 64 heads, 64 tails, and beside each record the next number of its slot. Numbers
-- begin at 1, so that 0 means none.
use Rattle.std.specs.Prelude.{ℕ, zero, suc, ◌+◌, ◌%◌, Bool, true, false, ◌&&◌, List, [], ◌∷◌, leb}
use Rattle.std.specs.Prelude.{eqb, length}
use Rattle.words.specs.Rows.{part}
use Rattle.rules.specs.Every.{all}
use Rattle.rules.specs.Pick.{pick}
use Rattle.rules.specs.Sizes.{left_of}

-- the heads stand first, then the tails, then the next numbers
abbrev pub slots : ℕ
slots = 64

abbrev pub tails_at : ℕ
tails_at = 64

abbrev pub nexts_at : ℕ
nexts_at = 128

-- "by the remainder of the left frame number by 64"
unfoldable pub slot_of : ℕ → ℕ
slot_of r = left_of r % slots

-- ---- numbers, where the first of the records has number k

-- the smallest number whose record passes p; 0 where there is none
unfoldable pub first_of : (ℕ → Bool) → ℕ → List ℕ → ℕ
first_of p k [] = 0
first_of p k (r ∷ rs) = pick (p r) k (first_of p (k + 1) rs)

-- the largest; 0 where there is none
unfoldable pub last_of : (ℕ → Bool) → ℕ → List ℕ → ℕ
last_of p k [] = 0
last_of p k (r ∷ rs) = pick (eqb (last_of p (k + 1) rs) 0) (pick (p r) k 0) (last_of p (k + 1) rs)

-- the record has this left frame
unfoldable pub has_left : ℕ → ℕ → Bool
has_left left r = eqb (left_of r) left

-- the record is of slot s
unfoldable pub in_slot : ℕ → ℕ → Bool
in_slot s r = eqb (slot_of r) s

-- The full reading: "the smallest kept agreed number with that left frame, or none".
abbrev pub first_with : ℕ → ℕ → List ℕ → ℕ
first_with left k rs = first_of (has_left left) k rs

-- ---- the index

abbrev pub head_of : ℕ → ℕ → List ℕ → ℕ
head_of s k rs = first_of (in_slot s) k rs

abbrev pub tail_of : ℕ → ℕ → List ℕ → ℕ
tail_of s k rs = last_of (in_slot s) k rs

-- what f gives at the n numbers from s on
unfoldable pub table : (ℕ → ℕ) → ℕ → ℕ → List ℕ
table f s zero = []
table f s (suc n) = f s ∷ table f (suc s) n

unfoldable pub heads_of : ℕ → List ℕ → List ℕ
heads_of k rs = table (λ s. head_of s k rs) 0 slots

unfoldable pub tails_of : ℕ → List ℕ → List ℕ
tails_of k rs = table (λ s. tail_of s k rs) 0 slots

-- beside each record the smallest number above its own that is of its slot
unfoldable pub nexts_of : ℕ → List ℕ → List ℕ
nexts_of k [] = []
nexts_of k (r ∷ rs) = head_of (slot_of r) (k + 1) rs ∷ nexts_of (k + 1) rs

-- two lists are the same
unfoldable pub same : List ℕ → List ℕ → Bool
same [] [] = true
same [] (y ∷ ys) = false
same (x ∷ xs) [] = false
same (x ∷ xs) (y ∷ ys) = eqb x y && same xs ys

-- "By form the words' index is the one of the records": of the records rs, the first of number k.
-- Words behind it are unused room, and are not read.
unfoldable pub index_form : ℕ → List ℕ → List ℕ → Bool
index_form k rs ix =
    all (leb 1 k
    ∷ leb (nexts_at + length rs) (length ix)
    ∷ same (part ix 0 slots) (heads_of k rs)
    ∷ same (part ix tails_at slots) (tails_of k rs)
    ∷ same (part ix nexts_at (length rs)) (nexts_of k rs)
    ∷ [])
