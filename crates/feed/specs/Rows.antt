-- Where the lasts stand in rows that are w words wide.
use Rattle.std.specs.Prelude.{ℕ, ◌+◌, ◌-◌, ◌*◌, List, map, get_or}
use Rattle.trace.specs.Replay.{up_to}
use Rattle.row.specs.Row.{last_at}
use Rattle.memory.specs.Memory.{general_words}

-- the last of the first box
abbrev pub first_last : ℕ
first_last = general_words + last_at

abbrev pub lasts_at : List ℕ → ℕ → ℕ → List ℕ
lasts_at xs w n = map (λ b. get_or xs ((b - 1) * w + first_last) 0) (up_to n)
