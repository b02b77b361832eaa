-- A piece of the input, fed whole where all that is said of it could be written; and what one read
-- brought.
use Rattle.std.specs.Prelude.{ℕ, ◌<◌, ◌≤◌, ◌≡◌, true, false, not, ◌&&◌, List, length, take}
use Rattle.trace.specs.Feeding.{feed_next}
use Rattle.feed.specs.State.{course_next, feeding_of, is_ended, Lent}
use Rattle.feed.specs.declared.state.Feed.{Feed}
use Rattle.replay.specs.declared.run.Going.{Going}
use Rattle.replay.specs.declared.run.Sent.{Sent}

pub record FedAll (f : Feed) (piece xs ls xs' ls' : List ℕ) (s : Sent) : Type 0 where
  pub next : s.whole ≡ true
      → feeding_of s.feed xs' ls' ≡ feed_next course_next (feeding_of f xs ls) piece
  pub lent : Lent s.feed.stage xs' ls'
  pub site : length xs' ≡ length xs
  pub links : length ls' ≡ length ls

-- after a piece there is more to read where it was fed whole and no line of it was refused
pub record Goes (s : Sent) (g : Going) : Type 0 where
  pub feed : g.feed ≡ s.feed
  pub more : g.more ≡ (s.whole && not (is_ended s.feed.stage))

-- the run is over
pub record Over (f : Feed) (g : Going) : Type 0 where
  pub feed : g.feed ≡ f
  pub more : g.more ≡ false

-- n bytes came, which stand at the front of the input's buffer, and all of them were fed; the run
-- has not ended
pub record Brought (f : Feed) (xs ls xs' ls' input : List ℕ) (n : ℕ) (g : Going) : Type 0 where
  pub some : 0 < n
  pub within : n ≤ length input
  pub next : feeding_of g.feed xs' ls' ≡ feed_next course_next (feeding_of f xs ls) (take n input)
  pub goes : is_ended g.feed.stage ≡ false

-- one read: where there is more to read, what came was fed
pub record ReadOn (f : Feed) (xs ls xs' ls' input : List ℕ) (g : Going) : Type 0 where
  pub more : g.more ≡ true → (n : ℕ) × Brought f xs ls xs' ls' input n g
  pub lent : Lent g.feed.stage xs' ls'
