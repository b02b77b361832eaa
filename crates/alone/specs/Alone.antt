-- A box by itself keeps demand 3, in statements alone: of boxes that run `own_step` and a carrier
-- that keeps its duties (Yard).
use Rattle.std.specs.Prelude.{ℕ, ◌+◌, ◌≤◌, ◌≡◌, true, false, List, [], ◌∷◌, ◌++◌, length}
use Rattle.rules.specs.Sizes.{even, sizes_form, record_of}
use Rattle.rules.specs.Box.{Box, Letter, own, mail}
use Rattle.rules.specs.Own.{unmoved, own_step, own_fresh, own_elected, own_holds}
use Rattle.rules.specs.Site.{Site, is_link, setting, popped}
use Rattle.rules.specs.Form.{form}
use Rattle.rules.specs.Step.{step, run, holds}
use Rattle.rules.specs.declared.model.Act.{Act}
use Rattle.rules.specs.declared.model.Answer.{Answer}
use Rattle.rules.specs.declared.model.Call.{Call}
use Rattle.rules.specs.declared.model.Setting.{Setting}
use Rattle.laws.specs.Frames.{CallFits}
use Rattle.safety.specs.Demand3.{In, Agreed, record_at, start, Offered, AfterRun}
use Rattle.alone.specs.Links.{linked, call_of}
use Rattle.alone.specs.Apart.{with_alone, waiting, Told, Waits}
use Rattle.alone.specs.Yard.{Yard, asked, told_of, Tells, Happens, Lived, did, told, waits}

-- what box b knows after an election
abbrev pub elected-setting : Site → ℕ → Setting
elected-setting s b = record {
  n = s.n;
  j = s.J;
  l = s.L;
  epoch = s.epoch + 1;
  present = s.present;
  me = b;
}

-- the site s stands for the yard y
pub record Stands (y : Yard) (s : Site) : Type 0 where
  pub sizes : (s.n ≡ y.n) × (s.J ≡ y.J) × (s.L ≡ y.L)
  pub epoch : s.epoch ≡ y.epoch
  pub present : s.present ≡ y.present
  pub links : y.link ≡ s.link
  -- in an even epoch the rows of the boxes that were told of it are the same
  pub told : (b : ℕ) → Told y b → (y.box b).row ≡ s.box b
  -- what a box has filed is the same at all times
  pub kept : (b : ℕ) → In b y.n → (y.box b).row.head.kept ≡ (s.box b).head.kept
  pub records : (b : ℕ) → In b y.n → (y.box b).row.records ≡ (s.box b).records

-- in what they lived, a box by itself answered an Offer of the record r with Done; j calls came
-- before it
pub data Taken {n J L : ℕ} : (calls : List Call) (y : Yard) → Lived n J L calls y → ℕ → ℕ → Type 0
  where
    now : {calls : List Call} {y z : Yard} (l : Lived n J L calls y) (c left right : ℕ)
        (h : Happens y (Call.Offer c left right) Answer.Done z)
        → Taken (Call.Offer c left right ∷ calls) z (did l h) (length calls) (record_of left right)
    before : {calls : List Call} {y z : Yard} {l : Lived n J L calls y} {d : Call} {a : Answer}
        (h : Happens y d a z) {j r : ℕ} → Taken calls y l j r → Taken (d ∷ calls) z (did l h) j r
    before-told : {calls : List Call} {y : Yard} {l : Lived n J L calls y} {b : ℕ} (h : Tells y b)
        {j r : ℕ} → Taken calls y l j r → Taken calls (with_alone y b (told_of y b))
        (told b l h) j r
    before-waits : {calls : List Call} {y : Yard} {l : Lived n J L calls y} {b e w : ℕ}
        (i : In b y.n) (h : Waits y b e w) {j r : ℕ} → Taken calls y l j r
        → Taken calls (with_alone y b (waiting y b e w)) (waits b e w l i h) j r

-- frame numbers are numbers of 32 bits
abbrev pub AllFit : List Call → Type 0
AllFit [] = Unit {0}
AllFit (d ∷ ds) = CallFits d × AllFit ds

-- boxes by themselves stand where the site s does, each told of its epoch
pub record Lives (n J L : ℕ) (s : Site) : Type 0 where
  pub calls : List Call
  pub yard : Yard
  pub lived : Lived n J L calls yard
  pub same : run (start n J L) calls ≡ s
  pub everyone : even yard.epoch ≡ true → (b : ℕ) → In b n → Told yard b

-- a box by itself and the site's box
pub record OwnIsSite : Type 0 where
  -- "The site's Recover .. Finish and Deliver ARE the box's own step plus links."
  pub acts : (s : Site) → form s ≡ true → (c : ℕ) (a : Act) → In c s.n
      → step s (call_of c a) ≡ linked s s c (own_step (setting s c) (s.box c) (own a))
  pub delivers : (s : Site) → form s ≡ true → (a b : ℕ) (m : Letter) (behind : List Letter)
      → is_link s.n a b ≡ true → s.link a b ≡ m ∷ behind
      → step s (Call.Deliver a b)
      ≡ linked s (popped s a b) b (own_step (setting s b) (s.box b) (mail a m))
  -- A box alone is started as a box of the fresh site, ..
  pub starts : (n J L : ℕ) (x : Box) → sizes_form n J L ≡ true
      → (b : ℕ) → own_fresh n J L x ≡ unmoved ((start n J L).box b) Answer.Done
  -- .. is told of an election with the site's answer, and becomes the site's box, ..
  pub is-told : (s : Site) → form s ≡ true → even s.epoch ≡ false → (b c : ℕ) → In b s.n
      → own_elected (elected-setting s b) (s.box b) c
      ≡ unmoved ((step s (Call.Elect c)).next.box b) (step s (Call.Elect c)).answer
  -- .. and is asked as the site is.
  pub is-asked : (s : Site) → form s ≡ true → (c k left right : ℕ) → In c s.n
      → own_holds (setting s c) (s.box c) k left right ≡ holds s c k left right

-- n boxes by themselves, for whatever they lived
pub record AloneKeeps (n J L : ℕ) : Type 0 where
  -- "What such boxes do is a run of the site", ..
  pub stands : {calls : List Call} {y : Yard} → Lived n J L calls y
      → Stands y (run (start n J L) calls)
  -- .. with the same answers, ..
  pub answers : {calls : List Call} {y z : Yard} {d : Call} {a : Answer} → Lived n J L calls y
      → Happens y d a z → (step (run (start n J L) calls) d).answer ≡ a
  -- .. "so that demand 3 holds of their rows": agreement, no hole, origin, ..
  pub after_run : {calls : List Call} {y : Yard} → Lived n J L calls y
      → AfterRun n (start n J L) calls (λ b. (y.box b).row)
  -- .. where the Offer that a number comes from is one that a box by itself answered with Done;
  pub offers : {calls : List Call} {y : Yard} (l : Lived n J L calls y) {j r : ℕ}
      → Offered (start n J L) calls j r → Taken calls y l j r
  -- neither first nor last ever falls, ..
  pub never-falls : {calls : List Call} {y z : Yard} (further : List Call) → Lived n J L calls y
      → Lived n J L (further ++ calls) z → (b : ℕ) → In b n
      → ((y.box b).row.head.kept.first ≤ (z.box b).row.head.kept.first)
      × ((y.box b).row.head.kept.last ≤ (z.box b).row.head.kept.last)
  -- .. and what any box keeps as agreed later is what any box kept as agreed before.
  pub over-time : {calls : List Call} {y z : Yard} (further : List Call) → Lived n J L calls y
      → Lived n J L (further ++ calls) z → (b d k : ℕ) → In b n → In d n
      → Agreed (y.box b).row k → Agreed (z.box d).row k
      → record_at (z.box d).row k ≡ record_at (y.box b).row k
  -- A box that is asked, at whatever time, answers as the site does in the run; ..
  pub asked-alike : {calls : List Call} {y : Yard} → Lived n J L calls y → (b : ℕ) → In b n
      → (k left right : ℕ)
      → asked y b k left right ≡ holds (run (start n J L) calls) b k left right
  -- .. so any two answers of boxes by themselves that are true of one number name the same frames,
  -- the second one at whatever time later.
  pub one-pair : {calls : List Call} {y z : Yard} (further : List Call) → Lived n J L calls y
      → Lived n J L (further ++ calls) z → (b d k left right left' right' : ℕ) → In b n → In d n
      → asked y b k left right ≡ Answer.Done → asked z d k left' right' ≡ Answer.Done
      → (left ≡ left') × (right ≡ right')
  -- The duties can be kept: whatever a site does, boxes by themselves can do.
  pub lives : (calls : List Call) → AllFit calls → Lives n J L (run (start n J L) calls)

pub record Demand3Alone : Type 0 where
  pub own-is-site : OwnIsSite
  pub keeps : (n J L : ℕ) → sizes_form n J L ≡ true → AloneKeeps n J L
  -- Not empty: a load is agreed at two boxes by themselves.
  pub not-empty : (calls : List Call) × (y : Yard) × Lived 2 16 8 calls y
      × Agreed (y.box 1).row 1 × Agreed (y.box 2).row 1
