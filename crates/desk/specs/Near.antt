-- How far two ticks are apart, and the waiting right frame that is nearest to a tick (Q-13).
use Rattle.std.specs.Prelude.{ℕ, ◌+◌, ◌-◌, ◌%◌, min, Bool, not, ◌&&◌, ◌||◌, List, [], ◌∷◌, ◌==◌}
use Rattle.std.specs.Prelude.{nat_le, nat_lt}
use Rattle.rules.specs.Pick.{pick}
use Rattle.desk.specs.Sides.{frame_of, tick_of}

-- "The tick runs past its end to 0": so many ticks after b it is a
unfoldable pub ticks_from : ℕ → ℕ → ℕ
ticks_from b a = (a + 4294967296 - b) % 4294967296

-- "the difference of two ticks is taken round the wrap, forward or back, whichever is smaller"
unfoldable pub apart : ℕ → ℕ → ℕ
apart a b = min (ticks_from b a) (ticks_from a b)

-- "at most 40 ticks"
abbrev pub most_apart : ℕ
most_apart = 40

-- a right frame waits at the word w, near enough to tick t
unfoldable pub near : ℕ → ℕ → Bool
near t w = not (frame_of w == 0) && nat_le (apart t (tick_of w)) most_apart

-- "of smallest difference .., the lower frame number on a tie": w goes before v
unfoldable pub before : ℕ → ℕ → ℕ → Bool
before t w v =
    nat_lt (apart t (tick_of w)) (apart t (tick_of v))
    || (apart t (tick_of w) == apart t (tick_of v) && nat_lt (frame_of w) (frame_of v))

-- the better of what was found so far, 0 for nothing, and the word w
unfoldable pub better : ℕ → ℕ → ℕ → ℕ
better t found w = pick (near t w && (found == 0 || before t w found)) w found

unfoldable pub nearest_from : ℕ → ℕ → List ℕ → ℕ
nearest_from t found [] = found
nearest_from t found (w ∷ ws) = nearest_from t (better t found w) ws

-- "the waiting right frame of smallest difference", as its word; 0 where none is near enough
abbrev pub nearest_of : ℕ → List ℕ → ℕ
nearest_of t ws = nearest_from t 0 ws
