-- Boxes by themselves in words, and their carrier: what may happen, each with the carrier's duties
-- (`alone`'s Apart). What a box does is a call of an entry of `own`, and nothing is known of it but
-- what the entry's contract says.
use Rattle.std.specs.Prelude.{ℕ, ◌+◌, ◌≤◌, List, [], ◌∷◌, length}
use Rattle.rules.specs.Own.{OwnOutcome}
use Rattle.rules.specs.declared.model.Act.{Act}
use Rattle.rules.specs.declared.model.Answer.{Answer}
use Rattle.rules.specs.declared.model.Call.{Call}
use Rattle.laws.specs.Frames.{ActFits}
use Rattle.letter.specs.Place.{head_words}
use Rattle.own.specs.Entry as entry
use Rattle.own.specs.Entry.{Owned, act_on, mail_on, elected_on, holds_on}
use Rattle.own.specs.Lent.{StillReads}
use Rattle.alone.specs.Links.{call_of}
use Rattle.alone.specs.Apart.{Apart, known, now, without-head, answered_as, carried_as, Told}
use Rattle.alone.specs.Apart.{Untold}
use Rattle.alone.specs.Apart.{Head, Brings}

-- a row is its words, and a letter those of its place: the carrier copies words
abbrev pub Boards : Type 0
Boards = Apart (List ℕ) (List ℕ)

-- what `own::holds` answers box c where it is asked whether number k has these frames
abbrev pub asks : Boards → ℕ → ℕ → ℕ → ℕ → Answer
asks y c k left right = holds_on (known y c) (y.box c).row k left right

-- box b is told of the election: `own::elected` on its row answered 0 and left r
pub record Tells (y : Boards) (b : ℕ) (r : List ℕ) : Type 0 where
  pub untold : Untold y b
  pub heard : entry.Told y.n y.J (elected_on (now y b) (y.box b).row y.leader)
      (y.box b).row r Answer.Done

-- what `own::act` or `own::mail` gave back: the row and the letter in words, the answer, and the
-- boxes that the letter goes to
pub record Turn : Type 0 where
  pub row : List ℕ
  pub letter : List ℕ
  pub answer : Answer
  pub to : ℕ

-- a call on box c's row, with a place for a letter that is long enough, gave t back; o is what
-- comes of it in such a place
pub record Gave (y : Boards) (c : ℕ) (o : List ℕ → OwnOutcome) (t : Turn) : Type 0 where
  pub place : List ℕ
  pub words : head_words + y.J ≤ length place
  pub owned : Owned (known y c) (o place) (y.box c).row place t.row t.letter t.answer
      t.to
  pub reads : StillReads (known y c) (y.box c).row t.row t.letter t.to

-- .. a step of its own, and a letter in the words p from box a
abbrev pub Acted : Boards → ℕ → Act → Turn → Type 0
Acted y c a t = Gave y c (act_on (known y c) (y.box c).row a) t

abbrev pub Mailed : Boards → ℕ → ℕ → List ℕ → Turn → Type 0
Mailed y c a p t = Gave y c (mail_on (known y c) (y.box c).row a p) t

-- the turn was done on a copy of the row. Where it counts, the copy is stored, and then the letter
-- leaves; where a full link holds it back, the copy is thrown away, and the answer is 8.
abbrev pub answered : Boards → ℕ → Turn → Answer
answered base c t = answered_as base c t.answer t.to

abbrev pub carried : Boards → Boards → ℕ → Turn → Boards
carried y base c t = carried_as y base c t.answer t.row t.to (t.letter ∷ [])

-- something happens that the site has a call for, with its answer
pub data Happens (y : Boards) : Call → Answer → Boards → Type 0 where
  -- box c takes a step of its own; frame numbers are numbers of 32 bits
  acts : (c : ℕ) (a : Act) (t : Turn) → Told y c → ActFits a → Acted y c a t
      → Happens y (call_of c a) (answered y c t) (carried y y c t)
  -- a letter is handed over to b; where b refuses it, it stays at the head
  hands : (a b : ℕ) (p : List ℕ) (t : Turn) → Told y b → Head y a b p → Mailed y b a p t
      → Happens y (Call.Deliver a b) (answered (without-head y a b) b t)
      (carried y (without-head y a b) b t)
  brings : {d : Call} {z : Boards} → Brings y d z → Happens y d Answer.Done z
