-- Sets of boxes as words: box k is the value 2^(k−1).
use Rattle.std.specs.Prelude.{ℕ, zero, suc, ◌+◌, ◌-◌, ◌/◌, ◌%◌, Bool, false, eqb}
use Rattle.std.specs.Int.Bits.{bit_and, bit_or}
use Rattle.rules.specs.Pick.{pick}

-- box k alone: 1, 2, 4, 8 or 16; 0 for a number that is no box's
unfoldable pub bit : ℕ → ℕ
bit k =
    pick (eqb k 1) 1
    (pick (eqb k 2) 2
    (pick (eqb k 3) 4
    (pick (eqb k 4) 8
    (pick (eqb k 5) 16
    0))))

-- the set w with box k
unfoldable pub joined : ℕ → ℕ → ℕ
joined w k = bit_or w (bit k)

-- the set w without box k, among the five boxes
unfoldable pub without : ℕ → ℕ → ℕ
without w k = bit_and w (31 - bit k)

-- the set w includes all of the set v
abbrev pub includes : ℕ → ℕ → Bool
includes w v = eqb (bit_and w v) v

-- the binary digit of 2^k in w is 1
unfoldable pub digit : ℕ → ℕ → Bool
digit w zero = eqb (w % 2) 1
digit w (suc k) = digit (w / 2) k

-- box k is in the set w
unfoldable pub has : ℕ → ℕ → Bool
has w zero = false
has w (suc k) = digit w k

-- "sets only of boxes 1 to n"
unfoldable pub set_form : ℕ → ℕ → Bool
set_form zero w = eqb w 0
set_form (suc n) w = set_form n (w / 2)

-- all boxes 1 to n
unfoldable pub full_set : ℕ → ℕ
full_set zero = 0
full_set (suc n) = full_set n + full_set n + 1
