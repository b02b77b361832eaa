-- A feeding from its start on, and what holds of it: the pieces' outputs and the end's are the
-- replay of the whole input.
use Rattle.std.specs.Prelude.{ℕ, ◌≡◌, List, [], ◌++◌, take, Result, Ok, Err}
use Rattle.rules.specs.declared.model.Refusal.{Refusal}
use Rattle.trace.specs.Replay.{replay}
use Rattle.feed.specs.State.{Begins}
use Rattle.feed.specs.Entries.{PieceFed, EndSaid}
use Rattle.feed.specs.declared.state.Fed.{Fed}
use Rattle.feed.specs.declared.state.Feed.{Feed}

-- the state after a piece, how many bytes of it were taken and the place past the answers; a piece
-- that is refused leaves the state, and nothing is taken or said
abbrev pub came_of : Feed → Result Fed Refusal → Fed
came_of f (Ok g) = g
came_of f (Err why) = record { feed = f; took = 0; at = 0 }

-- the bytes taken, all that was written of them, the state, and the words. By the contracts of
-- `start` and `feed_piece` a program that calls them has just this: nothing is asked of how the
-- input was cut, of the buffers, or of what the words held at first; a refused piece counts too.
pub data Went : List ℕ → List ℕ → Feed → List ℕ → List ℕ → Type 0 where
  begins : {f : Feed} {xs ls : List ℕ} → Begins f → Went [] [] f xs ls
  goes : {input output : List ℕ} {f : Feed} {xs ls piece xs' ls' before after : List ℕ}
      {r : Result Fed Refusal}
      → Went input output f xs ls → PieceFed f piece xs ls xs' ls' before after r
      → Went (input ++ take (came_of f r).took piece) (output ++ take (came_of f r).at after)
      (came_of f r).feed xs' ls'

-- the outputs for the pieces, in order, and the end's are together exactly the replay of the whole
-- input
pub record Whole : Type 0 where
  pub replays : {input output : List ℕ} {f : Feed} {xs ls before after : List ℕ} {at : ℕ}
      → Went input output f xs ls → EndSaid f before after (Ok at)
      → output ++ take at after ≡ replay input
