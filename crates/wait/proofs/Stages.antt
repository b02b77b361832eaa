-- What stands between the leader and another present box while a run lasts, phase by phase; what
-- the leader has in hand; and what is left to do, as a number.
use Prim.Native.Nat.{ℕ, ◌+◌, ◌-◌, ◌*◌, ◌≤◌, ◌<◌}
use mathlib.Core.Path.{◌≡◌}
use mathlib.Core.Bool.{true, false, cond}
use mathlib.Core.List.{List, [], ◌∷◌, ◌++◌}
use lib.Count.{ones}
use lib.ListN.{length, get_or}
use Rattle.std.specs.Prelude.{is_some}
use Rattle.rules.specs.Sizes.{even, unknown}
use Rattle.rules.specs.Sets.{has, set_form, bit}
use Rattle.rules.specs.Parts.{higher, room_next}
use Rattle.rules.specs.Steps.{has_previous}
use Rattle.rules.specs.Box.{Box, Letter, own, mail, mine, letter_of, turn_of, turned}
use Rattle.rules.specs.Site.{Site, setting}
use Rattle.laws.proofs.Types.{Act, Answer, Call, Cause, Kind, Mail, Out, Phase, State, Turn}
use Rattle.laws.proofs.Logic.{In, Or, All}
use Rattle.laws.proofs.FormLaws.{FormedSizes, FormedBox, FormedLetter}

-- ---- names

abbrev pub pn : Box → ℕ
pn x = x.head.kept.pn

abbrev pub last : Box → ℕ
last x = x.head.kept.last

abbrev pub first : Box → ℕ
first x = x.head.kept.first

abbrev pub phase : Box → Phase
phase x = x.head.phase

abbrev pub state : Box → State
state x = x.head.state

-- the last that X has noted of box b
abbrev pub peer : Box → ℕ → ℕ
peer X b = get_or X.head.peers (b - 1) 0

-- how many others are present
abbrev pub others# : Site → ℕ
others# s = ones s.present - 1

-- ---- what does not change while a run lasts

pub record Time (s : Site) (c : ℕ) : Type 0 where
  pub sizes : FormedSizes s.n s.J s.L
  pub present : set_form s.n s.present ≡ true
  pub even : even s.epoch ≡ true
  pub box : In c s.n
  pub here : has s.present c ≡ true
  pub several : 1 < ones s.present
  pub room : 8 ≤ s.L

-- b is present, and not the leader
pub record Other (s : Site) (c b : ℕ) : Type 0 where
  pub box : In b s.n
  pub apart : b ≡ c → ⊥
  pub here : has s.present b ≡ true

-- ---- links

abbrev pub IsCommit : Letter → Type 0
IsCommit y = y.head.kind ≡ Kind.Commit

-- the last that a box at l has when it has taken the Commits of a link
unfoldable pub ahead : ℕ → List Letter → ℕ
ahead l [] = l
ahead l (y ∷ ys) = ahead (higher l y.head.last) ys

-- leader X, other box b as x; the link from the leader, and the link to it
pub data Between (s : Site) (X : Box) (b : ℕ) (x : Box) : List Letter → List Letter → Type 0 where
  -- Election
  idle : phase X ≡ Phase.Election → Between s X b x [] []
  -- SendCollect: what is left of an earlier round
  old-collect : (y : Letter) → phase X ≡ Phase.SendCollect → y.head.kind ≡ Kind.Collect
      → y.head.pn ≤ pn X
      → Between s X b x (y ∷ []) []
  old-last : (y : Letter) → phase X ≡ Phase.SendCollect → y.head.kind ≡ Kind.Last
      → Between s X b x [] (y ∷ [])
  old-commits : (ys : List Letter) → phase X ≡ Phase.SendCollect → All IsCommit ys
      → Between s X b x ys []
  -- Collect: asked, answering, and answered
  collect : (y : Letter) → phase X ≡ Phase.Collect → y.head.kind ≡ Kind.Collect
      → y.head.pn ≡ pn X → has X.head.answered b ≡ false → peer X b ≡ unknown
      → Between s X b x (y ∷ []) []
  answer : (y : Letter) → phase X ≡ Phase.Collect → y.head.kind ≡ Kind.Last
      → y.head.pn ≡ pn x → pn X ≤ pn x → y.head.last ≡ last x
      → has X.head.answered b ≡ false → peer X b ≡ unknown
      → Between s X b x [] (y ∷ [])
  answered : (ys : List Letter) → phase X ≡ Phase.Collect → All IsCommit ys
      → length ys < ones X.head.answered → ahead (last x) ys ≡ last X
      → has X.head.answered b ≡ true → peer X b ≤ last X → pn x ≡ pn X
      → Between s X b x ys []
  -- Begin
  begin : (y : Letter) → phase X ≡ Phase.Begin → y.head.kind ≡ Kind.Begin
      → y.head.pn ≡ pn X → pn x ≡ pn X → y.head.last ≡ last X → last x ≡ last X
      → room_next s.J y.head.first (last X) ≡ true
      → Between s X b x (y ∷ []) []
  accept : (y : Letter) → phase X ≡ Phase.Begin → y.head.kind ≡ Kind.Accept
      → y.head.pn ≡ pn X → y.head.last ≡ last X → last x ≡ last X
      → Between s X b x [] (y ∷ [])
  accepted : phase X ≡ Phase.Begin → has X.head.accepts b ≡ true → last x ≡ last X
      → Between s X b x [] []
  -- Commit
  commit : (y : Letter) → phase X ≡ Phase.Commit → y.head.kind ≡ Kind.Commit
      → y.head.last ≡ last X → last x ≤ last X
      → Between s X b x (y ∷ []) []
  committed : phase X ≡ Phase.Commit → last x ≡ last X → Between s X b x [] []
  -- Lease
  lease : (y : Letter) → phase X ≡ Phase.Lease → y.head.kind ≡ Kind.Lease
      → y.head.last ≡ last X → last x ≡ last X
      → Between s X b x (y ∷ []) []
  lease-ack : (y : Letter) → phase X ≡ Phase.Lease → y.head.kind ≡ Kind.LeaseAck
      → state x ≡ State.Active → last x ≡ last X
      → Between s X b x [] (y ∷ [])
  heard : phase X ≡ Phase.Lease → has X.head.heard b ≡ true
      → state x ≡ State.Active → last x ≡ last X
      → Between s X b x [] []
  -- LeaseDone
  usable : phase X ≡ Phase.LeaseDone → state x ≡ State.Active → last x ≡ last X
      → Between s X b x [] []

-- ---- the leader

pub data Leading (s : Site) (c : ℕ) (X : Box) : Type 0 where
  elected : phase X ≡ Phase.Election → state X ≡ State.Recovering → pn X ≤ 999999800
      → Leading s c X
  recovers : phase X ≡ Phase.SendCollect → state X ≡ State.Recovering → Leading s c X
  collects : phase X ≡ Phase.Collect → state X ≡ State.Recovering
      → has X.head.answered c ≡ true
      → ((b : ℕ) → In b s.n → has X.head.answered b ≡ true → has s.present b ≡ true)
      → X.head.best.number ≤ last X + 1
      → (has_previous X.head ≡ true → room_next s.J (first X) (last X) ≡ true)
      → Leading s c X
  begins : phase X ≡ Phase.Begin → Or (state X ≡ State.Updating) (state X ≡ State.UpdatingPrevious)
      → has X.head.accepts c ≡ true → is_some (mine X) ≡ true
      → Leading s c X
  commits : phase X ≡ Phase.Commit → state X ≡ State.Refresh → Leading s c X
  leases : phase X ≡ Phase.Lease → state X ≡ State.Active → has X.head.heard c ≡ true
      → Leading s c X
  leads : phase X ≡ Phase.LeaseDone → state X ≡ State.Active → Leading s c X

-- ---- what is left to do, where k others are present

abbrev pub weight : ℕ → Kind → ℕ
weight k Kind.Collect = 2 + k
weight k Kind.Last = 1 + k
weight k Kind.Begin = 2
weight k Kind.Accept = 1
weight k Kind.Commit = 1
weight k Kind.Lease = 2
weight k Kind.LeaseAck = 1

-- of a link's mails
unfoldable pub load : ℕ → List Letter → ℕ
load k [] = 0
load k (y ∷ ys) = weight k y.head.kind + load k ys

-- of what is sent
unfoldable pub cost : ℕ → Out → ℕ
cost k Out.Nothing = 0
cost k (Out.To set m) = k * weight k m.kind

-- of a round of Collects, and after Ready
abbrev pub round : ℕ → ℕ
round k = 1 + k * (k + 2)

abbrev pub after : ℕ → ℕ
after k = 4 + 5 * k

-- of the leader's own steps and what they will send, where r others have promised more
unfoldable pub ahead_of : ℕ → ℕ → Phase → ℕ
ahead_of k r Phase.Election = 1 + (k + 1) * round k + after k
ahead_of k r Phase.SendCollect = (r + 1) * round k + after k
ahead_of k r Phase.Collect = r * round k + after k
ahead_of k r Phase.Begin = 3 + 3 * k
ahead_of k r Phase.Commit = 2 + 2 * k
ahead_of k r Phase.Lease = 1
ahead_of k r Phase.LeaseDone = 0

-- ---- turns

-- the mail that goes to box b, of what is sent
unfoldable pub sent_to : Out → List ℕ → ℕ → List Letter
sent_to Out.Nothing rs b = []
sent_to (Out.To set m) rs b = cond (has set b) (letter_of m rs ∷ []) []

-- what is sent goes to others that are present
abbrev pub ToOthers : Site → ℕ → Out → Type 0
ToOthers s c Out.Nothing = Unit {0}
ToOthers s c (Out.To set m) = (b : ℕ) → In b s.n → has set b ≡ true → Other s c b

-- the other box b takes the mail y of the leader c: it is x', and may reply
pub data Replies (s : Site) (c b : ℕ) (X x' : Box) (down up : List Letter) (y : Letter)
    : Out → Type 0 where
  silent : Between s X b x' down up → Replies s c b X x' down up y Out.Nothing
  replies : (m : Mail) → up ≡ []
      → ((k : ℕ) → weight k m.kind < weight k y.head.kind)
      → Between s X b x' down (letter_of m x'.records ∷ [])
      → Replies s c b X x' down up y (Out.To (bit c) m)

pub record Follows (s : Site) (c b : ℕ) (X x : Box) (down up : List Letter) (y : Letter) (t : Turn)
    : Type 0 where
  pub taken : t.answer ≡ Answer.Taken
  pub reply : Replies s c b X (turned x t y.records) down up y t.out
  -- it promises no more than the leader, or what it had promised
  pub promise : Or (t.next.kept.pn ≤ pn X) (t.next.kept.pn ≡ pn x)

-- the leader goes from X to X' and sends
pub record Goes (s : Site) (c : ℕ) (X X' : Box) (out : Out) : Type 0 where
  pub leading : Leading s c X'
  pub leads : X'.head.leads ≡ X.head.leads
  pub top : pn X' ≤ 999999900
  pub rises : pn X ≤ pn X'
  pub to-others : ToOthers s c out

-- a mail of box b costs less than it weighs; or a round begins, b being passed for good
pub data Pays (s : Site) (X X' x : Box) (y : Letter) (out : Out) : Type 0 where
  same : phase X' ≡ phase X → pn X' ≡ pn X
      → ((k : ℕ) → cost k out < weight k y.head.kind)
      → Pays s X X' x y out
  again : phase X ≡ Phase.Collect → phase X' ≡ Phase.SendCollect → pn X < pn x → pn x < pn X'
      → ((k : ℕ) → cost k out < weight k y.head.kind)
      → Pays s X X' x y out

-- the leader is handed the mail y of the other box b, which is x
pub data Heeds (s : Site) (c b : ℕ) (X x : Box) (y : Letter) (t : Turn) : Type 0 where
  discards : (why : Cause) → t.answer ≡ Answer.Discarded why → Between s X b x [] []
      → Heeds s c b X x y t
  takes : t.answer ≡ Answer.Taken → Goes s c X (turned X t y.records) t.out
      → Pays s X (turned X t y.records) x y t.out
      → Between s (turned X t y.records) b x
      (sent_to t.out (turned X t y.records).records b) []
      → ((d : ℕ) (z : Box) (down up : List Letter) → Other s c d → (d ≡ b → ⊥)
      → Between s X d z down up
      → (length down < 8)
      × Between s (turned X t y.records) d z
      (down ++ sent_to t.out (turned X t y.records).records d) up)
      → Heeds s c b X x y t

-- the leader's own step, where no mail is under way
pub record Acts (s : Site) (c : ℕ) (X : Box) (box : ℕ → Box) (a : Act) (t : Turn) : Type 0 where
  pub done : t.answer ≡ Answer.Done
  pub goes : Goes s c X (turned X t []) t.out
  pub between : (b : ℕ) → Other s c b
      → Between s (turned X t []) b (box b) (sent_to t.out (turned X t []).records b) []
  pub pays : (k r r' : ℕ) → r' ≤ k → (pn (turned X t []) ≡ pn X → r' ≡ r)
      → ahead_of k r' (phase (turned X t [])) + cost k t.out < ahead_of k r (phase X)

-- the step of box c that each phase leads to, and its call
pub data StepOf (c : ℕ) : Phase → Act → Call → Type 0 where
  recover : StepOf c Phase.Election Act.Recover (Call.Recover c)
  collect : StepOf c Phase.SendCollect Act.Collect (Call.Collect c)
  ready : StepOf c Phase.Collect Act.Ready (Call.Ready c)
  agree : StepOf c Phase.Begin Act.Agree (Call.Agree c)
  finish : StepOf c Phase.Commit Act.Finish (Call.Finish c)
  hear : StepOf c Phase.Lease Act.Heard (Call.Heard c)

-- ---- what a run's proof is made of

pub record Turns : Type 0 where
  pub follows : (s : Site) (c b : ℕ) (X x : Box) (y : Letter) (down up : List Letter)
      → Time s c → Other s c b → x.head.leads ≡ false
      → FormedBox s.n s.J c X → FormedBox s.n s.J b x → FormedLetter s.J y
      → Between s X b x (y ∷ down) up
      → Follows s c b X x down up y (turn_of (setting s b) x (mail c y))
  pub heeds : (s : Site) (c b : ℕ) (X x : Box) (y : Letter) (down up : List Letter)
      → Time s c → Other s c b → X.head.leads ≡ true → pn X ≤ 999999900
      → Or (pn x ≤ pn X) (pn x ≤ 999999800)
      → FormedBox s.n s.J c X → FormedBox s.n s.J b x → FormedLetter s.J y
      → Leading s c X → Between s X b x down (y ∷ up)
      → (down ≡ []) × (up ≡ []) × Heeds s c b X x y (turn_of (setting s c) X (mail b y))
  pub acts : (s : Site) (c : ℕ) (X : Box) (box : ℕ → Box) (a : Act) (d : Call)
      → Time s c → X.head.leads ≡ true → pn X ≤ 999999900
      → FormedBox s.n s.J c X
      → ((b : ℕ) → Other s c b → FormedBox s.n s.J b (box b))
      → Leading s c X → ((b : ℕ) → Other s c b → Between s X b (box b) [] [])
      → StepOf c (phase X) a d
      → Acts s c X box a (turn_of (setting s c) X (own a))
