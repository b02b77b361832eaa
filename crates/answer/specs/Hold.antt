-- A line that comes in pieces, and how much of it has to be kept.
use Rattle.std.specs.Prelude.{ℕ, ◌+◌, ◌*◌}

-- one byte more than the longest line that asks something of an image of at most m bytes: its hex,
-- a space, 64 bytes
abbrev pub held_for : ℕ → ℕ
held_for m = 2 * m + 66
