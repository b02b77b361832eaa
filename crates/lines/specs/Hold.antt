-- A line that comes in pieces.
use Rattle.std.specs.Prelude.{ℕ, ◌≡◌, List, ◌++◌, length, take, drop}

-- what is kept of the first len bytes of the buffer o and then piece: as much as o has room for
abbrev pub kept : List ℕ → ℕ → List ℕ → List ℕ
kept o len piece = take (length o) (take len o ++ piece)

pub record KeepIs (o : List ℕ) (len : ℕ) (piece p : List ℕ) (r : ℕ) : Type 0 where
  pub count : r ≡ length (kept o len piece)
  pub bytes : p ≡ kept o len piece ++ drop r o
