-- "Demand 2 shuts out the engine that refuses every step, the one that answers every step alike,
-- the one that hands the site back untouched, the one that agrees a load at Propose and then acts
-- out the mail, and the one whose count of replies is made up: the count is a field of the next
-- site." Since Q-1 that field is the set of boxes that answered.
use Rattle.std.specs.Prelude.{ℕ, ◌≡◌, Bool, true, List, ◌∷◌, ltb}
use Rattle.rules.specs.Every.{each}
use Rattle.rules.specs.Sets.{bit, joined}
use Rattle.rules.specs.Answers.{is_refusal}
use Rattle.rules.specs.Box.{Letter}
use Rattle.rules.specs.Site.{Site}
use Rattle.rules.specs.declared.model.Answer.{Answer}
use Rattle.rules.specs.declared.model.Call.{Call}
use Rattle.rules.specs.declared.model.Kind.{Kind}
use Rattle.laws.specs.Frames.{CallFits}
use Rattle.memory.specs.Memory.{site_of}
use Rattle.site.specs.Entries.{After, step_on, holds_on}

-- an engine: anything that takes words and a call, and gives an answer and words
pub record Reply : Type 0 where
  pub answer : Answer
  pub site : List ℕ
  pub links : List ℕ

abbrev pub Engine : Type 0
Engine = List ℕ → List ℕ → Call → Reply

-- the site that it leaves
abbrev pub leaves : Engine → List ℕ → List ℕ → Call → Site
leaves e xs ls d = site_of (e xs ls d).site (e xs ls d).links

-- what can be lent and called: words of 64 bits, frame numbers of 32
abbrev pub are_words : List ℕ → Bool
are_words xs = each (λ x. ltb x 18446744073709551616) xs

pub record Fits (xs ls : List ℕ) (d : Call) : Type 0 where
  pub site : are_words xs ≡ true
  pub links : are_words ls ≡ true
  pub call : CallFits d

-- it keeps what `step` promises
abbrev pub Keeps : Engine → Type 0
Keeps e =
    (xs ls : List ℕ) (d : Call) → Fits xs ls d
    → After (step_on xs ls d) xs ls (e xs ls d).site (e xs ls d).links (e xs ls d).answer

-- ---- the engines

abbrev pub RefusesAll : Engine → Type 0
RefusesAll e =
    (xs ls : List ℕ) (d : Call) → Fits xs ls d → is_refusal (e xs ls d).answer ≡ true

-- one answer to all calls, be it of one site only
abbrev pub AnswersAlike : Engine → Type 0
AnswersAlike e =
    (xs ls : List ℕ) (c d : Call) → Fits xs ls c → Fits xs ls d
    → (e xs ls c).answer ≡ (e xs ls d).answer

abbrev pub HandsBack : Engine → Type 0
HandsBack e = (xs ls : List ℕ) (d : Call) → Fits xs ls d → leaves e xs ls d ≡ site_of xs ls

-- somewhere a Propose makes a holds line true
abbrev pub AgreesAtPropose : Engine → Type 0
AgreesAtPropose e =
    (xs : List ℕ) × (ls : List ℕ) × (c : ℕ) × (b : ℕ) × (k : ℕ) × (left : ℕ) × (right : ℕ)
    × Fits xs ls (Call.Propose c)
    × (holds_on xs ls b k left right ≡ Answer.Done → ⊥)
    × (holds_on (e xs ls (Call.Propose c)).site (e xs ls (Call.Propose c)).links b k left right
    ≡ Answer.Done)

-- who answered box b, after a call on the site s: those who had; itself alone, where it collects;
-- and the sender of a Last under its promised number
pub data Answered (s : Site) (b : ℕ) : Call → ℕ → Type 0 where
  before : {d : Call} → Answered s b d (s.box b).head.answered
  itself : Answered s b (Call.Collect b) (bit b)
  sender : {a : ℕ} {y : Letter} {ys : List Letter} → s.link a b ≡ y ∷ ys
      → y.head.kind ≡ Kind.Last → y.head.pn ≡ (s.box b).head.kept.pn
      → Answered s b (Call.Deliver a b) (joined (s.box b).head.answered a)

-- somewhere the set of boxes that answered is another
abbrev pub MakesUpReplies : Engine → Type 0
MakesUpReplies e =
    (xs : List ℕ) × (ls : List ℕ) × (d : Call) × (b : ℕ) × Fits xs ls d
    × (Answered (site_of xs ls) b d ((leaves e xs ls d).box b).head.answered → ⊥)

-- somewhere, at words and a call that are given, answer or site are not those of the rules
abbrev pub Contradicts : Engine → Type 0
Contradicts e =
    (xs : List ℕ) × (ls : List ℕ) × (d : Call) × Fits xs ls d
    × (((e xs ls d).answer ≡ (step_on xs ls d).answer) × (leaves e xs ls d ≡ (step_on xs ls d).next)
    → ⊥)

-- ---- none of them keeps it

pub record ShutOut : Type 0 where
  pub refuses-all : (e : Engine) → Keeps e → RefusesAll e → ⊥
  pub answers-alike : (e : Engine) → Keeps e → AnswersAlike e → ⊥
  pub hands-back : (e : Engine) → Keeps e → HandsBack e → ⊥
  pub agrees-at-propose : (e : Engine) → Keeps e → AgreesAtPropose e → ⊥
  pub makes_up_replies : (e : Engine) → Keeps e → MakesUpReplies e → ⊥
  pub contradicts : (e : Engine) → Keeps e → Contradicts e → ⊥
