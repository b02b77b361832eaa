-- Q-12 of what the engine answers: a present box that `unheard c` does not name has taken the lease
-- of c. Of words as `Served` has them: `fresh` made them, and any calls since, stored and loaded in
-- between.
use Rattle.std.specs.Prelude.{Ok}
use Rattle.std.specs.Prelude.{ℕ, ◌≡◌, true, false, List, ◌∷◌, take}
use Rattle.rules.specs.Sets.{has}
use Rattle.rules.specs.declared.model.Answer.{Answer}
use Rattle.rules.specs.declared.model.Call.{Call}
use Rattle.laws.specs.Frames.{CallFits}
use Rattle.memory.specs.Memory.{site_of}
use Rattle.site.specs.Entries.{After, step_on, holds_on, unheard_on}
use Rattle.std.specs.Prelude.{Ok}
use Rattle.writer.specs.Writer.{WriteIs}
use Rattle.reader.specs.Reader.{ReadIs}
use Rattle.safety.specs.Heard.{TakesLease}
use Rattle.said.specs.Said.{Talk, called, held, calls}
use Rattle.engine_safety.specs.Served.{Served, stepped, asked, stored}

-- asked who has not answered the lease of c, the engine names the set w: so the lease is out
abbrev pub Names : List ℕ → List ℕ → ℕ → ℕ → Type 0
Names xs ls c w = unheard_on xs ls c ≡ Ok w

abbrev pub Out : List ℕ → List ℕ → ℕ → Type 0
Out xs ls c = (w : ℕ) × Names xs ls c w

abbrev pub Present : List ℕ → List ℕ → ℕ → Type 0
Present xs ls b = has (site_of xs ls).present b ≡ true

-- b took a Lease of c for the last that c had, and the lease of c has been out ever since: so it is
-- the one that is out now (`one-lease`)
pub data Took {n J L : ℕ} (c b : ℕ) : (h : Talk) (xs ls : List ℕ) → Served n J L h xs ls → Type 0
  where
    now : {h : Talk} {xs ls xs' ls' : List ℕ} {a : Answer} {fits : CallFits (Call.Deliver c b)}
        {p : Served n J L h xs ls} {after : After (step_on xs ls (Call.Deliver c b))
        xs ls xs' ls' a}
        → TakesLease (site_of xs ls) c b → a ≡ Answer.Taken → Out xs' ls' c
        → Took c b (called (Call.Deliver c b) a ∷ h) xs' ls'
        (stepped (Call.Deliver c b) fits p after)
    since : {h : Talk} {xs ls xs' ls' : List ℕ} {a : Answer} {d : Call} {fits : CallFits d}
        {p : Served n J L h xs ls} {after : After (step_on xs ls d) xs ls xs' ls' a}
        → Took c b h xs ls p → Out xs' ls' c
        → Took c b (called d a ∷ h) xs' ls' (stepped d fits p after)
    -- a holds line was asked; the site was stored and loaded
    still : {h : Talk} {xs ls : List ℕ} {e k left right : ℕ} {p : Served n J L h xs ls}
        → Took c b h xs ls p
        → Took c b (held e k left right (holds_on xs ls e k left right) ∷ h) xs ls
        (asked e k left right p)
    loaded : {h : Talk} {xs ls out out' us vs us' vs' : List ℕ} {m : ℕ} {p : Served n J L h xs ls}
        {w : WriteIs xs ls out (Ok m) out'}
        {r : ReadIs (take m out') us vs Answer.Done us' vs'}
        → Took c b h xs ls p → Took c b h us' vs' (stored m p w r)

pub record Leased : Type 0 where
  -- Another present box that `unheard c` does not name has taken the lease.
  pub took : {n J L : ℕ} {h : Talk} {xs ls : List ℕ} (p : Served n J L h xs ls) (c b w : ℕ)
      → (b ≡ c → ⊥) → Names xs ls c w → Present xs ls b → has w b ≡ false → Took c b h xs ls p
  -- It names present boxes alone.
  pub present : {n J L : ℕ} {h : Talk} {xs ls : List ℕ} → Served n J L h xs ls → (c b w : ℕ)
      → Names xs ls c w → has w b ≡ true → Present xs ls b
  -- Where `heard c` is done, every other present box has taken the lease.
  pub all-took : {n J L : ℕ} {h : Talk} {xs ls : List ℕ} (p : Served n J L h xs ls) (c b : ℕ)
      → (b ≡ c → ⊥) → (step_on xs ls (Call.Heard c)).answer ≡ Answer.Done → Present xs ls b
      → Took c b h xs ls p
  -- No lease begins while one is out: the two calls that begin one do nothing.
  pub one-lease : {n J L : ℕ} {h : Talk} {xs ls : List ℕ} → Served n J L h xs ls → (c w : ℕ)
      → Names xs ls c w
      → ((step_on xs ls (Call.Ready c)).next ≡ site_of xs ls)
      × ((step_on xs ls (Call.Finish c)).next ≡ site_of xs ls)
  -- Not empty: after some calls, on whatever words they were made, both boxes are present and
  -- `unheard 1` names nobody.
  pub not-empty : (ds : List Call)
      × ((h : Talk) (xs ls : List ℕ) → Served 2 16 8 h xs ls → calls h ≡ ds
      → Names xs ls 1 0 × Present xs ls 2)
