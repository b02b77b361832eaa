-- The invariant, in definitions alone; each clause says why it is there. `Core` and `Ranks` speak
-- of what boxes keep, at every epoch. `Live` speaks of an even epoch: its leader c with the box x,
-- and the mail on its way.
use Prim.Native.Nat.{ℕ, suc, ◌+◌, ◌%◌, ◌≤◌, ◌<◌, max}
use mathlib.Core.Path.{◌≡◌}
use mathlib.Core.Bool.{Bool, true}
use mathlib.Core.List.{List, []}
use lib.ListN.{length, get_or}
use Rattle.rules.specs.Sizes.{most_boxes, even}
use Rattle.rules.specs.Sets.{has}
use Rattle.rules.specs.Parts.{span}
use Rattle.rules.specs.Box.{Box, Letter, record_at}
use Rattle.rules.specs.Site.{Site}
use Rattle.laws.proofs.Logic.{In, All}
use Rattle.laws.proofs.Counts.{Major}
use Rattle.laws.proofs.View.{Links, Store, store, phase_of, state_of, at, HeldNext, Shaped, Reading}
use Rattle.laws.proofs.View.{Collect, Last, Begin, Accept, Commit, Inert, read}

-- What has been agreed at some box, from number 1 on, dropped or not, and how the last of it was:
-- under which pn, by which boxes.
pub record Agreement : Type 0 where
  pub records : List ℕ
  pub pn : ℕ
  pub by : ℕ → Bool

-- of the records rs, which stand from number F on, those of F to L are agreed
abbrev pub Agrees : Agreement → ℕ → ℕ → List ℕ → Type 0
Agrees g F L rs =
    (k : ℕ) → F ≤ suc k → suc k ≤ L → record_at F rs (suc k) ≡ get_or g.records k 0

-- ---- what boxes keep

-- one box, which took part in the last agreement or not
pub record BoxOk (g : Agreement) (part : Bool) (a : Store) : Type 0 where
  -- what it keeps as agreed is agreed: this is demand 3
  pub low : a.last ≤ length g.records
  pub agreed : Agrees g a.first a.last a.records
  -- there is no hole from first to last, and it keeps its last agreed number
  pub shaped : Shaped a
  pub kept : a.first ≤ max 1 a.last
  -- a record held at last+1 was taken under the stored pn: so its Last tells the truth
  pub number : HeldNext a → a.stored_number ≡ suc a.last
  -- a part of the last agreement has promised its pn: so no lower pn is agreed later
  pub promise : part ≡ true → g.pn ≤ a.pn
  -- .. and holds its record until it counts it: so a majority that is asked later hears of it
  pub vote : part ≡ true → a.last < length g.records
      → (suc a.last ≡ length g.records) × HeldNext a × (g.pn ≤ a.stored_pn)
  -- what is held at the last agreed number, under that pn or a higher one, is the agreed record
  pub same : suc a.last ≡ length g.records → HeldNext a → g.pn ≤ a.stored_pn
      → at a (a.last + 1) ≡ get_or g.records a.last 0
  -- what is held at an earlier number was not taken later: so it never beats the agreed record
  pub old : suc a.last < length g.records → HeldNext a → a.stored_pn ≤ g.pn

pub record Core (n : ℕ) (box : ℕ → Box) (g : Agreement) : Type 0 where
  -- every box is so, ..
  pub boxes : (b : ℕ) → In b n → BoxOk g (g.by b) (store (box b))
  -- .. and those that took part are a majority: two majorities meet
  pub major : Major n g.by
  -- some box counts all that is agreed: one box alone has recovered as soon as it is elected
  pub top : ℕ
  pub top_in : In top n
  pub topped : length g.records ≤ (store (box top)).last
  -- a majority promised each stored pn: so a leader that heard a majority is at or above it
  pub N : ℕ → ℕ → Bool
  pub N-major : (x : ℕ) → In x n → Major n (N x)
  pub N-pn : (x b : ℕ) → In x n → In b n → N x b ≡ true
      → (store (box x)).stored_pn ≤ (store (box b)).pn

-- a pn with the rank of x is not above what x has promised: so a new pn of x stands nowhere yet
pub record Ranks (n : ℕ) (box : ℕ → Box) : Type 0 where
  -- a rank has at most two digits, and a set word five boxes
  pub few : n ≤ most_boxes
  -- no promise, ..
  pub pns : (x b : ℕ) → In x n → In b n → (store (box b)).pn % 100 ≡ x
      → (store (box b)).pn ≤ (store (box x)).pn
  -- .. and no stored pn
  pub stored_pns : (x b : ℕ) → In x n → In b n → (store (box b)).stored_pn % 100 ≡ x
      → (store (box b)).stored_pn ≤ (store (box x)).pn

-- ---- the mail on its way from a to b, whose stores are sa and sb; w is the present set

-- the box with the store a has taken the record r of number l+1, under pn P
pub record Voted (P l r : ℕ) (a : Store) : Type 0 where
  pub place : a.last ≡ l
  pub held : HeldNext a
  pub value : at a (l + 1) ≡ r
  pub under : a.stored_pn ≡ P

-- .. which the leader's box x has at its last+1
abbrev pub VotedFor : Box → Store → Type 0
VotedFor x a = Voted (store x).pn (store x).last (at (store x) ((store x).last + 1)) a

module _ (w : ℕ) (g : Agreement) (c : ℕ) (x : Box) where
  pub record CollectOk (a b q : ℕ) : Type 0 where
    -- only the leader asks, and only present boxes: so only they promise
    pub from : a ≡ c
    pub to : has w b ≡ true
    -- its pn is the leader's, and not above its promise: so the receiver's promise keeps `Ranks`
    pub rank : q % 100 ≡ c
    pub le : q ≤ (store x).pn
    -- a pn that is not yet sent is on no mail: so no peer has been asked when the leader asks
    pub fresh : phase_of x ≡ 1 → q ≡ (store x).pn → ⊥

  -- a Last of the pn that is being collected
  pub record Answers (a : ℕ) (sa : Store) (l F u : ℕ) (rs : List ℕ) : Type 0 where
    -- its sender has promised that pn
    pub promise : sa.pn ≡ (store x).pn
    -- its sender goes beyond the last it told only by the leader's Commits
    pub reach : l < sa.last → sa.last ≤ (store x).last
    -- a part of the last agreement tells of it
    pub vote : g.by a ≡ true → l < length g.records
        → (suc l ≡ length g.records) × (span F l < length rs) × (g.pn ≤ u)

  -- what a Last says of its sender's store, as it was (see `BoxOk`)
  pub record Told (a : ℕ) (sa : Store) (q l F u : ℕ) (rs : List ℕ) : Type 0 where
    -- a pn of the leader's rank is not above the leader's: a new pn that it shows is new
    pub rank : q % 100 ≡ c → q ≤ (store x).pn
    -- a pn that is not yet sent is answered by no mail
    pub fresh : phase_of x ≡ 1 → q ≡ (store x).pn → ⊥
    -- the leader may take its agreed records
    pub low : l ≤ length g.records
    pub agreed : Agrees g F l rs
    -- its unagreed record is as in `BoxOk`: so the best stays what `Hearing` says
    pub same : suc l ≡ length g.records → span F l < length rs → g.pn ≤ u
        → record_at F rs (l + 1) ≡ get_or g.records l 0
    pub old : suc l < length g.records → span F l < length rs → u ≤ g.pn
    -- it counts only where it answers the pn that is being collected
    pub answers : phase_of x ≡ 2 → q ≡ (store x).pn → Answers a sa l F u rs

  pub record LastOk (a : ℕ) (sa : Store) (b q l F u : ℕ) (rs : List ℕ) : Type 0 where
    -- only present boxes answer, and only the leader
    pub to : b ≡ c
    pub from : has w a ≡ true
    -- a leader that has recovered discards it
    pub told : state_of x ≡ 0 → Told a sa q l F u rs

  pub record BeginOk (a b : ℕ) (sb : Store) (q l r : ℕ) : Type 0 where
    pub from : a ≡ c
    pub to : has w b ≡ true
    -- the leader has recovered, and this is its pn: so it is the receiver's too
    pub recovered : state_of x ≡ 0 → ⊥
    pub pn : q ≡ (store x).pn
    -- the record is the one that the leader holds at last+1, or has agreed since
    pub le : l ≤ (store x).last
    pub value : l ≡ (store x).last → HeldNext (store x) × (at (store x) ((store x).last + 1) ≡ r)
    pub done : l < (store x).last → r ≡ get_or g.records l 0
    -- nothing beyond it is agreed, while its receiver would take it
    pub top : sb.last ≤ l → length g.records ≤ suc l
    -- one of the leader's last+1 is on its way only while the leader waits for it
    pub now : l ≡ (store x).last → phase_of x ≡ 4

  pub record AcceptOk (a : ℕ) (sa : Store) (b q l : ℕ) : Type 0 where
    pub to : b ≡ c
    pub from : has w a ≡ true
    pub recovered : state_of x ≡ 0 → ⊥
    pub le : l ≤ (store x).last
    pub now : l ≡ (store x).last → phase_of x ≡ 4
    -- its sender has the record that the leader waits for
    pub voted : l ≡ (store x).last → VotedFor x sa

  pub record CommitOk (a b l F : ℕ) (rs : List ℕ) : Type 0 where
    pub from : a ≡ c
    pub to : has w b ≡ true
    -- its records are agreed, and the leader counts them
    pub le : l ≤ (store x).last
    pub agreed : Agrees g F l rs

  abbrev pub MailOk : (a : ℕ) → Store → (b : ℕ) → Store → Reading → Type 0
  MailOk a sa b sb (Collect q l) = CollectOk a b q
  MailOk a sa b sb (Last q l F u rs) = LastOk a sa b q l F u rs
  MailOk a sa b sb (Begin q l F r) = BeginOk a b sb q l r
  MailOk a sa b sb (Accept q l) = AcceptOk a sa b q l
  MailOk a sa b sb (Commit q l F rs) = CommitOk a b l F rs
  -- its receiver keeps what it has: nothing is asked of it
  MailOk a sa b sb Inert = Unit {0}

  -- no box has a link to itself
  abbrev pub PostOk : (a : ℕ) → Store → (b : ℕ) → Store → Letter → Type 0
  PostOk a sa b sb y = (a ≡ b → ⊥) → MailOk a sa b sb (read y)

-- ---- the leader's stages

-- what a leader of the pn P and the last l knows once all present have answered
pub record Ripe (n w : ℕ) (box : ℕ → Box) (g : Agreement) (P l : ℕ) : Type 0 where
  -- all present have promised this pn: so they take its Begins, and no lower ones
  pub pns : (b : ℕ) → In b n → has w b ≡ true → (store (box b)).pn ≡ P
  -- no stored pn is above it, and only present boxes have it: so what it agrees is the newest
  pub stored_pns : (b : ℕ) → In b n → (store (box b)).stored_pn ≤ P
  pub mine : (b : ℕ) → In b n → (store (box b)).stored_pn ≡ P → has w b ≡ true
  -- nothing beyond its last+1 is agreed
  pub top : length g.records ≤ suc l
  -- the last agreement was under this pn or a lower one
  pub under : g.pn ≤ P
  -- no present box is ahead: so none counts what the leader does not
  pub lasts : (b : ℕ) → In b n → has w b ≡ true → (store (box b)).last ≤ l

module _ (n w : ℕ) (box : ℕ → Box) (g : Agreement) (c : ℕ) (x : Box) where
  -- phase SendCollect
  pub record Asking : Type 0 where
    pub recovering : state_of x ≡ 0
    -- the Collects will have the leader's rank
    pub rank : (store x).pn % 100 ≡ c
    -- the new pn stands nowhere else: so who promises it later has been asked for it
    pub apart : (b : ℕ) → In b n → (store (box b)).stored_pn ≡ (store x).pn → ⊥
    pub new : (b : ℕ) → In b n → (b ≡ c → ⊥) → (store (box b)).pn ≡ (store x).pn → ⊥

  -- who has answered
  abbrev pub Answered : ℕ → Type 0
  Answered b = has x.head.answered b ≡ true

  -- phase Collect: the best is the best of what they told that answered
  pub record Hearing : Type 0 where
    pub recovering : state_of x ≡ 0
    -- no record was stored under this pn
    pub apart : (b : ℕ) → In b n → (store (box b)).stored_pn ≡ (store x).pn → ⊥
    -- who answered has promised this pn, and is not ahead of the leader: at Ready all present have
    pub promise : (b : ℕ) → In b n → Answered b → (store (box b)).pn ≡ (store x).pn
    pub lasts : (b : ℕ) → In b n → Answered b → (store (box b)).last ≤ (store x).last
    -- once a part of the last agreement has answered, the best is of that number, and its pn is
    -- at or above the agreement's
    pub found : (b : ℕ) → In b n → Answered b → g.by b ≡ true
        → (store x).last < length g.records
        → (x.head.best.number ≡ length g.records) × (g.pn ≤ x.head.best.pn)
    -- such a best is the agreed record
    pub same : (k : ℕ) → suc k ≡ x.head.best.number → suc k ≡ length g.records
        → g.pn ≤ x.head.best.pn → x.head.best.value ≡ get_or g.records k 0
    -- a best of an earlier number, or of a later one, does not keep it out
    pub old : x.head.best.number < length g.records → x.head.best.pn ≤ g.pn
    pub limit : x.head.best.number ≤ suc (store x).last

  -- not Recovering
  pub record Settled : Type 0 where
    pub ripe : Ripe n w box g (store x).pn (store x).last
    -- what is agreed beyond last, the leader has started
    pub done : (phase_of x ≡ 4 → ⊥) → length g.records ≤ (store x).last
    -- the leader itself has taken what it started
    pub own : phase_of x ≡ 4 → (store x).stored_pn ≡ (store x).pn
    -- who is in the accept set has taken it too
    pub accepted : phase_of x ≡ 4 → (b : ℕ) → In b n → has x.head.accepts b ≡ true
        → VotedFor x (store (box b))

pub record Live (n w : ℕ) (box : ℕ → Box) (link : Links) (g : Agreement) : Type 0 where
  -- one box alone leads; it is present, and so is a majority
  pub c : ℕ
  pub c_in : In c n
  pub lead : (box c).head.leads ≡ true
  pub only : (b : ℕ) → In b n → (box b).head.leads ≡ true → b ≡ c
  pub here : has w c ≡ true
  pub major : Major n (has w)
  -- its box, apart from the others: a step at another box leaves the clauses on it as they stand
  pub x : Box
  pub at : box c ≡ x
  -- an election empties the links: so a new pn meets no mail
  pub quiet : phase_of x ≡ 0 → (a b : ℕ) → link a b ≡ []
  -- the stages, ..
  pub asking : phase_of x ≡ 1 → Asking n w box g c x
  pub hearing : phase_of x ≡ 2 → Hearing n w box g c x
  pub settled : (state_of x ≡ 0 → ⊥) → Settled n w box g c x
  -- .. and every mail on its way
  pub mails : (a b : ℕ) → All (PostOk w g c x a (store (box a)) b (store (box b))) (link a b)

-- ---- all of it

pub record Inv (s : Site) : Type 0 where
  pub agreed : Agreement
  pub core : Core s.n s.box agreed
  pub ranks : Ranks s.n s.box
  -- an odd epoch waits for an election, which empties the links: nothing is asked of the mail
  pub live : even s.epoch ≡ true → Live s.n s.present s.box s.link agreed
