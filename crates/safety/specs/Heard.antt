-- Q-12, in statements alone: who is in the set of a leader has taken a Lease of it since its phase
-- Lease began. Whatever is repeated or lost, a later lease notes no LeaseAck of an earlier one.
use Rattle.std.specs.Prelude.{ℕ, ◌≡◌, true, List, ◌∷◌}
use Rattle.rules.specs.Sizes.{most_boxes}
use Rattle.rules.specs.Sets.{has}
use Rattle.rules.specs.Box.{Letter}
use Rattle.rules.specs.Site.{Site, setting}
use Rattle.rules.specs.Step.{step, run}
use Rattle.rules.specs.Unheard.{lease_is_out}
use Rattle.rules.specs.declared.model.Answer.{Answer}
use Rattle.rules.specs.declared.model.Call.{Call}
use Rattle.rules.specs.declared.model.Kind.{Kind}
use Rattle.safety.specs.Demand3.{In, start}

-- box c leads in an even epoch, and its phase is Lease or LeaseDone
abbrev pub LeaseOut : Site → ℕ → Type 0
LeaseOut s c = lease_is_out (s.box c).head (setting s c) ≡ true

-- the mail at the head of the link from c to b is a Lease of the last that c has, and b takes it
pub record TakesLease (s : Site) (c b : ℕ) : Type 0 where
  pub lease : Letter
  pub behind : List Letter
  pub stands : s.link c b ≡ lease ∷ behind
  pub kind : lease.head.kind ≡ Kind.Lease
  pub last : lease.head.last ≡ (s.box c).head.kept.last
  pub taken : (step s (Call.Deliver c b)).answer ≡ Answer.Taken

-- among the calls (the latest first) b took a Lease of c, and the lease of c has been out ever
-- since: so it is the one that is out now (`one-lease`)
pub data TookLease (s : Site) (c b : ℕ) : List Call → Type 0 where
  now : (calls : List Call) → TakesLease (run s calls) c b
      → LeaseOut (run s (Call.Deliver c b ∷ calls)) c → TookLease s c b (Call.Deliver c b ∷ calls)
  since : (call : Call) {calls : List Call} → TookLease s c b calls
      → LeaseOut (run s (call ∷ calls)) c → TookLease s c b (call ∷ calls)

pub record Heard : Type 0 where
  -- For every n from 1 to 5, every J and L, and any calls from the fresh site: while the lease of c
  -- is out, every other box of its set has taken it.
  pub took : (n J L : ℕ) → In n most_boxes → (calls : List Call) (c b : ℕ) → In c n → In b n
      → (b ≡ c → ⊥) → LeaseOut (run (start n J L) calls) c
      → has ((run (start n J L) calls).box c).head.heard b ≡ true
      → TookLease (start n J L) c b calls
  -- "The step `heard c` is allowed .. when the set includes all present": where it is done, every
  -- other present box has taken the lease.
  pub all-took : (n J L : ℕ) → In n most_boxes → (calls : List Call) (c b : ℕ) → (b ≡ c → ⊥)
      → (step (run (start n J L) calls) (Call.Heard c)).answer ≡ Answer.Done
      → has (run (start n J L) calls).present b ≡ true → TookLease (start n J L) c b calls
  -- No lease begins while one is out: from any site, the two steps that begin one do nothing.
  pub one-lease : (s : Site) (c : ℕ) → LeaseOut s c
      → ((step s (Call.Ready c)).next ≡ s) × ((step s (Call.Finish c)).next ≡ s)
  -- Not empty: in some run of two boxes, both present, `heard` is done.
  pub not-empty : (calls : List Call)
      × ((step (run (start 2 16 8) calls) (Call.Heard 1)).answer ≡ Answer.Done)
      × (has (run (start 2 16 8) calls).present 2 ≡ true)
