-- The number of one or two digits that stands before the last byte of a text.
use Rattle.std.specs.Prelude.{ℕ, ◌+◌, ◌-◌, ◌*◌, ◌&&◌, List, eqb, ltb, length, get_or}
use Rattle.rules.specs.Pick.{pick}

-- the byte k places before the end, 0 where there is none
unfoldable pub from_end : List ℕ → ℕ → ℕ
from_end s k = pick (ltb (length s) k) 0 (pick (eqb k 0) 0 (get_or s (length s - k) 0))

unfoldable pub code_of : List ℕ → ℕ
code_of s =
    pick (ltb 47 (from_end s 3) && ltb (from_end s 3) 58)
    ((from_end s 3 - 48) * 10 + (from_end s 2 - 48))
    (from_end s 2 - 48)
