-- Words that `journal_fresh` made, and any calls of the other functions for C since, refused ones
-- too, runs among them, the site stored by `journal_write` and loaded by `journal_read` in between.
use Rattle.std.specs.Prelude.{ℕ, ◌≡◌, List, [], ◌∷◌, take}
use Rattle.rules.specs.Numbers.{answer_number}
use Rattle.rules.specs.declared.model.Call.{Call}
use Rattle.laws.specs.Frames.{CallFits}
use Rattle.site.specs.Entries.{holds_on}
use Rattle.journal.specs.Numbered.{Stepped, Freshened}
use Rattle.journal.specs.Images.{WriteAnswered, ReadAnswered}
use Rattle.journal.specs.Run.{RunAnswered}
use Rattle.memory.specs.Memory.{site_of}
use Rattle.said.specs.Said.{Said, called, held, calls}
use Rattle.said.specs.Demand3.{Demand3}
use Rattle.engine_safety.specs.Served.{firsts_in}
use Rattle.journal_safety.specs.Ran.{said_run}

-- what was said since, each answer by the number that was returned, and the words now. By the
-- contracts of the functions a program that calls them has just this. Frame numbers are numbers of
-- 32 bits.
pub data Called (n J L : ℕ) : List (Said ℕ) → List ℕ → List ℕ → Type 0 where
  made : {xs ls xs' ls' : List ℕ} → Freshened n J L xs ls xs' ls' 0 → Called n J L [] xs' ls'
  stepped : {h : List (Said ℕ)} {xs ls xs' ls' : List ℕ} {r : ℕ} (d : Call) → CallFits d
      → Called n J L h xs ls → Stepped d xs ls xs' ls' r → Called n J L (called d r ∷ h) xs' ls'
  asked : {h : List (Said ℕ)} {xs ls : List ℕ} {r : ℕ} (b k left right : ℕ) → Called n J L h xs ls
      → r ≡ answer_number (holds_on xs ls b k left right)
      → Called n J L (held b k left right r ∷ h) xs ls
  -- a run: the steps that it does are said
  ran : {h : List (Said ℕ)} {xs ls xs' ls' : List ℕ} {u u' r : ℕ} (steps : ℕ)
      → Called n J L h xs ls → RunAnswered steps xs ls xs' ls' u u' r
      → Called n J L (said_run answer_number steps (site_of xs ls) h) xs' ls'
  -- the length that was returned, as many bytes of the buffer, were read into other words
  stored : {h : List (Said ℕ)} {xs ls out out' us vs us' vs' : List ℕ} {len len' : ℕ}
      → Called n J L h xs ls → WriteAnswered xs ls out out' len len' 0
      → ReadAnswered (take len' out') us vs us' vs' 0 → Called n J L h us' vs'

pub record CalledSafely : Type 0 where
  -- with what `journal_holds` returns now
  pub demand_3 : {n J L : ℕ} {h : List (Said ℕ)} {xs ls : List ℕ} → Called n J L h xs ls
      → Demand3 0 14 h (λ b k left right. answer_number (holds_on xs ls b k left right))
      (firsts_in xs ls)
  -- Not empty: after some calls, on whatever words they were made, a holds line is true at two
  -- boxes.
  pub not-empty : (ds : List Call)
      × ((h : List (Said ℕ)) (xs ls : List ℕ) → Called 2 16 8 h xs ls → calls h ≡ ds
      → (answer_number (holds_on xs ls 1 1 71 72) ≡ 0)
      × (answer_number (holds_on xs ls 2 1 71 72) ≡ 0))
