-- Words that `fresh` made, and any calls of `step` and holds lines since, the site stored by
-- `write` and loaded by `read` in between: nothing is asked of their order, number or kind, and a
-- refused call counts too.
use Rattle.std.specs.Prelude.{ℕ, ◌≤◌, ◌≡◌, List, [], ◌∷◌, take}
use Rattle.rules.specs.Box.{Letter}
use Rattle.rules.specs.declared.model.Answer.{Answer}
use Rattle.rules.specs.declared.model.Call.{Call}
use Rattle.laws.specs.Frames.{CallFits}
use Rattle.memory.specs.Memory.{site_of}
use Rattle.site.specs.Entries.{After, FreshMade, step_on, holds_on}
use Rattle.std.specs.Prelude.{Ok}
use Rattle.writer.specs.Writer.{WriteIs}
use Rattle.reader.specs.Reader.{ReadIs}
use Rattle.safety.specs.Demand3.{In}
use Rattle.safety.specs.Begins.{BeginComes}
use Rattle.said.specs.Said.{Talk, called, held, calls}
use Rattle.said.specs.Spoken.{Safe}

-- what was said since (the latest first), and the words now. By the contracts of `fresh`, `step`,
-- `holds`, `write` and `read` a program that calls them has just this. Frame numbers are numbers of
-- 32 bits.
pub data Served (n J L : ℕ) : Talk → List ℕ → List ℕ → Type 0 where
  made : {xs ls xs' ls' : List ℕ} → FreshMade n J L xs ls xs' ls' Answer.Done
      → Served n J L [] xs' ls'
  stepped : {h : Talk} {xs ls xs' ls' : List ℕ} {a : Answer} (d : Call) → CallFits d
      → Served n J L h xs ls → After (step_on xs ls d) xs ls xs' ls' a
      → Served n J L (called d a ∷ h) xs' ls'
  asked : {h : Talk} {xs ls : List ℕ} (b k left right : ℕ) → Served n J L h xs ls
      → Served n J L (held b k left right (holds_on xs ls b k left right) ∷ h) xs ls
  -- m bytes were written, and read into other words
  stored : {h : Talk} {xs ls out out' us vs us' vs' : List ℕ} (m : ℕ) → Served n J L h xs ls
      → WriteIs xs ls out (Ok m) out' → ReadIs (take m out') us vs Answer.Done us' vs'
      → Served n J L h us' vs'

-- the first number that each box keeps: a word of its row
abbrev pub firsts_in : List ℕ → List ℕ → ℕ → ℕ
firsts_in xs ls b = ((site_of xs ls).box b).head.kept.first

pub record Filed : Type 0 where
  pub demand_3 : {n J L : ℕ} {h : Talk} {xs ls : List ℕ} → Served n J L h xs ls
      → Safe h (holds_on xs ls) (firsts_in xs ls)
  -- Not empty: after some calls, on whatever words they were made, a holds line is true at two
  -- boxes.
  pub not-empty : (ds : List Call)
      × ((h : Talk) (xs ls : List ℕ) → Served 2 16 8 h xs ls → calls h ≡ ds
      → (holds_on xs ls 1 1 71 72 ≡ Answer.Done) × (holds_on xs ls 2 1 71 72 ≡ Answer.Done))
  -- Neither the first nor the last number of a box falls at any call (Q-4).
  pub never-falls : {n J L : ℕ} {h : Talk} {xs ls xs' ls' : List ℕ} {a : Answer} (d : Call)
      → Served n J L h xs ls → After (step_on xs ls d) xs ls xs' ls' a → (b : ℕ)
      → (firsts_in xs ls b ≤ firsts_in xs' ls' b)
      × (((site_of xs ls).box b).head.kept.last ≤ ((site_of xs' ls').box b).head.kept.last)
  -- A box that stops and a box that returns keep all that they store.
  pub stopped : {n J L : ℕ} {h : Talk} {xs ls xs' ls' : List ℕ} {a : Answer} (c b : ℕ)
      → Served n J L h xs ls → After (step_on xs ls (Call.Stop c)) xs ls xs' ls' a
      → (site_of xs' ls').box b ≡ (site_of xs ls).box b
  pub returned : {n J L : ℕ} {h : Talk} {xs ls xs' ls' : List ℕ} {a : Answer} (c b : ℕ)
      → Served n J L h xs ls → After (step_on xs ls (Call.Return c)) xs ls xs' ls' a
      → (site_of xs' ls').box b ≡ (site_of xs ls).box b
  -- A Begin on its way to box b has just the number that b has promised, wherever it stands (Q-10).
  pub begins : {n J L : ℕ} {h : Talk} {xs ls : List ℕ} → Served n J L h xs ls
      → (a b : ℕ) → In b n → (ahead : List Letter) (y : Letter)
      → BeginComes (site_of xs ls) a b ahead y
      → y.head.pn ≡ ((site_of xs ls).box b).head.kept.pn
