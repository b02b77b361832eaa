-- What holds of any run at the desk. This is the ticket that never was: a load is two pictures of
-- one moment.
use Rattle.std.specs.Prelude.{ℕ, ◌≤◌, ◌≡◌, true, false, List, [], ◌∷◌, ◌⊎◌}
use Rattle.rules.specs.declared.model.Answer.{Answer}
use Rattle.rules.specs.declared.model.Call.{Call}
use Rattle.site.specs.Entries.{FreshMade, holds_on}
use Rattle.desk.specs.Near.{apart, most_apart}
use Rattle.desk.specs.Sides.{stands}
use Rattle.desk.specs.Desk.{side_of}
use Rattle.desk.specs.Told.{WaitsAt}
use Rattle.std.specs.Prelude.{Ok}
use Rattle.desk.specs.declared.answers.Side.{Side}
use Rattle.desk_safety.specs.Runs.{Event, gave, paired, called, Next, Then}
use Rattle.desk_safety.specs.Runs.{Takes, Gives, Withdraws, Any}

-- a frame waits with the tick with which it was last given in, or as it stood in the desk's words
-- ws when the run began
pub data Waited (ws : List ℕ) (s : Side) (f t : ℕ) : List Event → Type 0 where
  from_start : WaitsAt f t (side_of s ws) → Waited ws s f t []
  just : {es : List Event} → Waited ws s f t (gave s f t (Ok tt) ∷ es)
  since : {e : Event} {es : List Event} → ((u : ℕ) → Gives s f u e → ⊥) → Waited ws s f t es
      → Waited ws s f t (e ∷ es)

-- the frames were paired at the desk, and their ticks were within 40 of each other
pub data PairedNear (ws : List ℕ) (left right : ℕ) : List Event → Type 0 where
  now : {es : List Event} (t u : ℕ) → Waited ws Side.Left left t es
      → Waited ws Side.Right right u es → apart t u ≤ most_apart
      → PairedNear ws left right (paired left (Ok right) ∷ es)
  before : {e : Event} {es : List Event} → PairedNear ws left right es
      → PairedNear ws left right (e ∷ es)

-- a caller offered the frames to a box past the desk
abbrev pub PastDesk : ℕ → ℕ → Event → Type 0
PastDesk left right e = (c : ℕ) × (e ≡ called (Call.Offer c left right) Answer.Done)

pub record DeskSafely : Type 0 where
  -- "No frame is in two accepted offers unless its number was given in again between them."
  pub once : {us vs ws os xs ys zs ns ls ms ks js : List ℕ} {d e : Event} {es : List Event}
      (s : Side) (f : ℕ) → Next us xs ls d vs ys ms → Then vs ys ms es ws zs ks
      → Next ws zs ks e os ns js → Takes s f d → Takes s f e → Any (λ g. (t : ℕ) × Gives s f t g) es
  -- A frame leaves the desk only by an accepted offer or by being withdrawn.
  pub leaves : {ws xs ls ws' xs' ls' : List ℕ} {es : List Event} (s : Side) (f : ℕ)
      → (f ≡ 0 → ⊥) → Then ws xs ls es ws' xs' ls' → stands f (side_of s ws) ≡ true
      → stands f (side_of s ws') ≡ false → Any (λ e. Takes s f e ⊎ Withdraws s f e) es
  -- With demand 3: from a fresh site on, a load that is agreed was offered past the desk, or its
  -- left and right frame were paired at the desk with ticks within 40 of each other.
  pub near : {n J L : ℕ} {us vs ws xs ls ws' xs' ls' : List ℕ} {es : List Event}
      → FreshMade n J L us vs xs ls Answer.Done → Then ws xs ls es ws' xs' ls'
      → (b k left right : ℕ) → holds_on xs' ls' b k left right ≡ Answer.Done
      → Any (PastDesk left right) es ⊎ PairedNear ws left right es
