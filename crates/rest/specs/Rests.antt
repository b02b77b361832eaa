-- What the step `rest` leaves as it was, in statements alone: "after it every later step, save a
-- Lose or repeat before the next election, gets the same refusal, discard cause and mail as it
-- would have, and leaves the same records and promises" (Q-6). Over runs of any length.
use Rattle.std.specs.Prelude.{ℕ, ◌≡◌, Bool, true, false, List, [], ◌∷◌, length, drop}
use Rattle.rules.specs.Sizes.{even}
use Rattle.rules.specs.Box.{Letter}
use Rattle.rules.specs.Site.{Site, fresh, is_box}
use Rattle.rules.specs.Form.{form}
use Rattle.rules.specs.Step.{refused, did, step, run, holds}
use Rattle.rules.specs.Unheard.{unheard}
use Rattle.rules.specs.declared.model.Answer.{Answer}
use Rattle.rules.specs.declared.model.Call.{Call}
use Rattle.rules.specs.declared.model.Refusal.{Refusal}
use Rattle.laws.specs.Frames.{CallFits}
use Rattle.rest.specs.Rest.{AtRest, rested, rest}

-- frame numbers are numbers of 32 bits
abbrev pub AllFit : List Call → Type 0
AllFit [] = Unit {0}
AllFit (d ∷ ds) = CallFits d × AllFit ds

-- the calls that look at a link in either parity
abbrev pub sees_links : Call → Bool
sees_links (Call.Elect c) = false
sees_links (Call.Recover c) = false
sees_links (Call.Collect c) = false
sees_links (Call.Ready c) = false
sees_links (Call.Offer c left right) = false
sees_links (Call.Propose c) = false
sees_links (Call.Agree c) = false
sees_links (Call.Finish c) = false
sees_links (Call.Heard c) = false
sees_links (Call.Trim c k) = false
sees_links (Call.Stop c) = false
sees_links (Call.Return c) = false
sees_links (Call.Timeout c) = false
sees_links (Call.Lose a b) = true
sees_links (Call.Repeat a b) = true
sees_links (Call.Deliver a b) = false

-- the mail of a call: what it puts on the link from a to b, behind what stood there
abbrev pub sent : Site → Call → ℕ → ℕ → List Letter
sent s d a b = drop (length (s.link a b)) ((step s d).next.link a b)

-- the call d gets the same at the sites x and y: refusal or discard cause, and mail
pub record SameCall (d : Call) (x y : Site) : Type 0 where
  pub answer : (step x d).answer ≡ (step y d).answer
  pub mail : (a b : ℕ) → sent x d a b ≡ sent y d a b

-- .. and so do the questions that change nothing
pub record SameAsked (x y : Site) : Type 0 where
  pub holds : (c k left right : ℕ) → holds x c k left right ≡ holds y c k left right
  pub unheard : (c : ℕ) → unheard x c ≡ unheard y c

-- the same records and promises, and with them last, first and the stored pn and number
pub record SameStore (x y : Site) : Type 0 where
  pub epoch : x.epoch ≡ y.epoch
  pub present : x.present ≡ y.present
  pub kept : (b : ℕ) → is_box x.n b ≡ true → (x.box b).head.kept ≡ (y.box b).head.kept
  pub records : (b : ℕ) → is_box x.n b ≡ true → (x.box b).records ≡ (y.box b).records

-- after any calls from a site s and from s put at rest
pub record Unseen (s : Site) (calls : List Call) : Type 0 where
  pub store : SameStore (run s calls) (run (rested s) calls)
  pub asked : SameAsked (run s calls) (run (rested s) calls)
  -- an election raises the epoch, and until then it stays: so a Lose or a Repeat is excepted while
  -- the epoch is that of s, and then for its own answer alone
  pub call : (d : Call) → CallFits d
      → ((run s calls).epoch ≡ s.epoch → sees_links d ≡ false)
      → SameCall d (run s calls) (run (rested s) calls)
  -- all mail under way is the same once there was an election
  pub links : ((run s calls).epoch ≡ s.epoch → ⊥) → (run s calls).link ≡ (run (rested s) calls).link

pub record Rests : Type 0 where
  -- what `rest` does: the site is put at rest, and stays by form; ..
  pub done : (s : Site) → form s ≡ true → even s.epoch ≡ false
      → (rest s ≡ did (rested s)) × AtRest (rested s) × (form (rested s) ≡ true)
  -- .. 1, then 3, leave it
  pub unformed : (s : Site) → form s ≡ false → rest s ≡ refused s Refusal.Form
  pub not-due : (s : Site) → form s ≡ true → even s.epoch ≡ true
      → rest s ≡ refused s Refusal.Condition
  -- a site at rest is left as it is by a second one; a fresh site is at rest
  pub twice : (s : Site) → rested (rested s) ≡ rested s
  pub fresh-rests : (n J L : ℕ) → AtRest (fresh n J L)
  -- whatever comes after it
  pub unseen : (s : Site) → form s ≡ true → even s.epoch ≡ false → (calls : List Call)
      → AllFit calls → Unseen s calls
  -- the exception is not idle: a Lose and a Repeat before the election see that the mail is gone
  pub seen : (calls : List Call)
      × (even (run (fresh 2 16 8) calls).epoch ≡ false)
      × ((step (run (fresh 2 16 8) calls) (Call.Lose 1 2)).answer ≡ Answer.Done)
      × ((step (rest (run (fresh 2 16 8) calls)).next (Call.Lose 1 2)).answer
      ≡ Answer.Refused Refusal.Condition)
      × ((step (run (fresh 2 16 8) calls) (Call.Repeat 1 2)).answer ≡ Answer.Done)
      × ((step (rest (run (fresh 2 16 8) calls)).next (Call.Repeat 1 2)).answer
      ≡ Answer.Refused Refusal.Condition)
