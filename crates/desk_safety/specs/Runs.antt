-- Any list of calls at the desk and of the engine, on lent words: ws is the desk, xs and ls the
-- site. By the contracts of the entries a program that calls them has just this.
use Rattle.std.specs.Prelude.{ℕ, ◌<◌, ◌≡◌, List, [], ◌∷◌, take}
use Rattle.rules.specs.declared.model.Answer.{Answer}
use Rattle.rules.specs.declared.model.Call.{Call}
use Rattle.laws.specs.Frames.{CallFits}
use Rattle.site.specs.Entries.{After, step_on}
use Rattle.std.specs.Prelude.{Ok}
use Rattle.writer.specs.Writer.{WriteIs}
use Rattle.reader.specs.Reader.{ReadIs}
use Rattle.desk.specs.Sides.{SideIs}
use Rattle.desk.specs.Desk.{given, withdrawn}
use Rattle.desk.specs.Offer.{PairIs}
use Rattle.std.specs.Prelude.{⊤, Result, Ok, Err}
use Rattle.desk.specs.declared.answers.Why.{Why}
use Rattle.desk.specs.declared.answers.Side.{Side}

-- what was asked, and answered
pub data Event : Type 0 where
  gave : Side → ℕ → ℕ → Result ⊤ Why → Event
  withdrew : Side → ℕ → Result ⊤ Why → Event
  paired : ℕ → Result ℕ Why → Event
  called : Call → Answer → Event
  -- the site was written to an image, and read into other words
  stored : Event

-- frame numbers and ticks are numbers of 32 bits
abbrev pub Fits : ℕ → Type 0
Fits x = x < 4294967296

abbrev pub RightFits : Result ℕ Why → Type 0
RightFits (Ok g) = Fits g
RightFits (Err why) = Unit {0}

-- one call
pub data Next (ws xs ls : List ℕ) : Event → List ℕ → List ℕ → List ℕ → Type 0 where
  gives : {ws' : List ℕ} {r : Result ⊤ Why} (s : Side) (f t : ℕ) → Fits f → Fits t
      → SideIs (given s f t ws) ws' r → Next ws xs ls (gave s f t r) ws' xs ls
  withdraws : {ws' : List ℕ} {r : Result ⊤ Why} (s : Side) (f : ℕ) → SideIs (withdrawn s f ws) ws' r
      → Next ws xs ls (withdrew s f r) ws' xs ls
  pairs : {ws' xs' ls' : List ℕ} {r : Result ℕ Why} (f : ℕ) → Fits f → RightFits r
      → PairIs f ws xs ls ws' xs' ls' r → Next ws xs ls (paired f r) ws' xs' ls'
  steps : {xs' ls' : List ℕ} {a : Answer} (d : Call) → CallFits d
      → After (step_on xs ls d) xs ls xs' ls' a → Next ws xs ls (called d a) ws xs' ls'
  stores : {out out' us vs us' vs' : List ℕ} (m : ℕ)
      → WriteIs xs ls out (Ok m) out' → ReadIs (take m out') us vs Answer.Done us' vs'
      → Next ws xs ls stored ws us' vs'

-- any number of calls, the latest first
pub data Then (ws xs ls : List ℕ) : List Event → List ℕ → List ℕ → List ℕ → Type 0 where
  none : Then ws xs ls [] ws xs ls
  more : {es : List Event} {e : Event} {us ys ms vs zs ns : List ℕ} → Then ws xs ls es us ys ms
      → Next us ys ms e vs zs ns → Then ws xs ls (e ∷ es) vs zs ns

-- ---- frames in events; left 7 and right 7 are different frames

-- an accepted offer has the frame
abbrev pub Takes : Side → ℕ → Event → Type 0
Takes Side.Left f e = (g : ℕ) × (e ≡ paired f (Ok g))
Takes Side.Right g e = (f : ℕ) × (e ≡ paired f (Ok g))

-- the frame is given in, with this tick
abbrev pub Gives : Side → ℕ → ℕ → Event → Type 0
Gives s f t e = e ≡ gave s f t (Ok tt)

-- the frame is withdrawn
abbrev pub Withdraws : Side → ℕ → Event → Type 0
Withdraws s f e = e ≡ withdrew s f (Ok tt)

-- one of the events is such
pub data Any (P : Event → Type 0) : List Event → Type 0 where
  here : {e : Event} {es : List Event} → P e → Any P (e ∷ es)
  there : {e : Event} {es : List Event} → Any P es → Any P (e ∷ es)
