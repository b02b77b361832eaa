-- Boxes by themselves of the model, and their carrier: what may happen, each with the carrier's
-- duties (Apart). What a box does is `own_step`; it is given nothing but its row, what it was told,
-- and one event.
use Rattle.std.specs.Prelude.{ℕ, ◌≡◌, List, [], ◌∷◌}
use Rattle.rules.specs.Box.{Box, Letter, Event, own, mail}
use Rattle.rules.specs.Own.{OwnOutcome, own_step, own_elected, own_holds}
use Rattle.rules.specs.Site.{fresh_box}
use Rattle.rules.specs.declared.model.Act.{Act}
use Rattle.rules.specs.declared.model.Answer.{Answer}
use Rattle.rules.specs.declared.model.Call.{Call}
use Rattle.laws.specs.Frames.{ActFits}
use Rattle.safety.specs.Demand3.{In}
use Rattle.alone.specs.Links.{call_of}
use Rattle.alone.specs.Apart.{Lone, Apart, begun_with, known, now, with_alone, told_with}
use Rattle.alone.specs.Apart.{waiting, without-head, stored_as, answered_as, carried_as, Told}
use Rattle.alone.specs.Apart.{Untold, Waits, Head, Brings}

abbrev pub Alone : Type 0
Alone = Lone Box

abbrev pub Yard : Type 0
Yard = Apart Box Letter

-- each box started by itself, and no letter under way
unfoldable pub begun : ℕ → ℕ → ℕ → Yard
begun n J L = begun_with n J L (λ b. fresh_box)

-- box b is told of the election, with what there is to know
abbrev pub hears : Yard → ℕ → OwnOutcome
hears y b = own_elected (now y b) (y.box b).row y.leader

abbrev pub told_of : Yard → ℕ → Alone
told_of y b = told_with y (hears y b).next

pub record Tells (y : Yard) (b : ℕ) : Type 0 where
  pub untold : Untold y b
  pub heard : (hears y b).answer ≡ Answer.Done

-- the event e that box c runs by itself, and what it answers where it is asked whether number k has
-- these frames
abbrev pub ran : Yard → ℕ → Event → OwnOutcome
ran y c e = own_step (known y c) (y.box c).row e

abbrev pub asked : Yard → ℕ → ℕ → ℕ → ℕ → Answer
asked y c k left right = own_holds (known y c) (y.box c).row k left right

-- box c's outcome o
abbrev pub stored : Yard → ℕ → OwnOutcome → Yard
stored y c o = stored_as y c o.next o.to o.letters

abbrev pub answered : Yard → ℕ → OwnOutcome → Answer
answered base c o = answered_as base c o.answer o.to

abbrev pub carried : Yard → Yard → ℕ → OwnOutcome → Yard
carried y base c o = carried_as y base c o.answer o.next o.to o.letters

-- something happens that the site has a call for, with its answer
pub data Happens (y : Yard) : Call → Answer → Yard → Type 0 where
  -- box c takes a step of its own
  acts : (c : ℕ) (a : Act) → Told y c → ActFits a
      → Happens y (call_of c a) (answered y c (ran y c (own a))) (carried y y c (ran y c (own a)))
  -- a letter is handed over to b; where b refuses it, it stays at the head
  hands : (a b : ℕ) (m : Letter) → Told y b → Head y a b m
      → Happens y (Call.Deliver a b) (answered (without-head y a b) b (ran y b (mail a m)))
      (carried y (without-head y a b) b (ran y b (mail a m)))
  brings : {d : Call} {z : Yard} → Brings y d z → Happens y d Answer.Done z

-- all that happened to boxes that began by themselves, as the calls of a site, the latest first;
-- what a box is told, and that it forgets it, the site does not see
pub data Lived (n J L : ℕ) : List Call → Yard → Type 0 where
  began : Lived n J L [] (begun n J L)
  did : {calls : List Call} {y z : Yard} {d : Call} {a : Answer}
      → Lived n J L calls y → Happens y d a z → Lived n J L (d ∷ calls) z
  told : {calls : List Call} {y : Yard} (b : ℕ) → Lived n J L calls y → Tells y b
      → Lived n J L calls (with_alone y b (told_of y b))
  waits : {calls : List Call} {y : Yard} (b e w : ℕ) → Lived n J L calls y → In b y.n
      → Waits y b e w → Lived n J L calls (with_alone y b (waiting y b e w))
