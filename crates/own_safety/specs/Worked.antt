-- Whatever boxes by themselves did and were asked, with rows and letters in words and the duties
-- kept: demand 3 holds of all that they answered.
use Rattle.std.specs.Prelude.{ℕ, ◌≤◌, ◌≡◌, true, List, [], ◌∷◌, ◌++◌, map}
use Rattle.rules.specs.Every.{each}
use Rattle.rules.specs.Sizes.{sizes_form}
use Rattle.rules.specs.Box.{Box, Letter}
use Rattle.rules.specs.Numbers.{answer_number}
use Rattle.rules.specs.Step.{run}
use Rattle.rules.specs.declared.model.Answer.{Answer}
use Rattle.rules.specs.declared.model.Call.{Call}
use Rattle.letter.specs.Place.{letter_at}
use Rattle.row.specs.Row.{box_of}
use Rattle.own.specs.Entry as entry
use Rattle.own.specs.Entry.{row_of, place_of, row_reads, place_reads, fresh_on}
use Rattle.safety.specs.Demand3.{In, start}
use Rattle.said.specs.Said.{Talk, called, held, calls, retold, TrueAt}
use Rattle.said.specs.Demand3.{Demand3}
use Rattle.said.specs.Spoken.{Spoken, Safe}
use Rattle.alone.specs.Yard.{Yard, Lived}
use Rattle.alone.specs.Apart.{begun_with, with_alone, told_with, waiting, Waits}
use Rattle.own_safety.specs.Boards.{Boards, asks, Tells, Happens}

-- what was said since (the latest first), and the boards now. By the contracts of `own::fresh`,
-- `own::act`, `own::mail`, `own::elected` and `own::holds`, programs that call them and a carrier
-- that keeps its duties have just this. A call that is refused and does not stand here changes
-- nothing.
pub data Worked (n J L : ℕ) : Talk → Boards → Type 0 where
  -- "1. A box gets a fresh row once": `own::fresh` made one of whatever words there were. When it
  -- did makes no difference: before it, nothing is done with the row.
  began : (words rows : ℕ → List ℕ) → 1 ≤ n
      → ((b : ℕ) → In b n
      → entry.Told n J (fresh_on n J L (words b)) (words b) (rows b) Answer.Done)
      → Worked n J L [] (begun_with n J L rows)
  did : {h : Talk} {y z : Boards} {d : Call} {a : Answer} → Worked n J L h y → Happens y d a z
      → Worked n J L (called d a ∷ h) z
  told : {h : Talk} {y : Boards} (b : ℕ) (r : List ℕ) → Worked n J L h y → Tells y b r
      → Worked n J L h (with_alone y b (told_with y r))
  waits : {h : Talk} {y : Boards} (b e w : ℕ) → In b n → Worked n J L h y → Waits y b e w
      → Worked n J L h (with_alone y b (waiting y b e w))
  -- a box is asked, at whatever time
  asked : {h : Talk} {y : Boards} (b k left right : ℕ) → In b n → Worked n J L h y
      → Worked n J L (held b k left right (asks y b k left right) ∷ h) y

-- the box that board b's row holds, and its first kept number
abbrev pub box_in : Boards → ℕ → Box
box_in y b = box_of y.n (row_of y.J (y.box b).row)

abbrev pub firsts_in : Boards → ℕ → ℕ
firsts_in y b = (box_in y b).head.kept.first

abbrev pub lasts_in : Boards → ℕ → ℕ
lasts_in y b = (box_in y b).head.kept.last

-- the letters that the words of a link hold
abbrev pub letters_in : ℕ → List (List ℕ) → List Letter
letters_in J ps = map (λ p. letter_at (place_of J p)) ps

-- the boards y can be read, and they are read as the model's yard v
pub record Reads (y : Boards) (v : Yard) : Type 0 where
  pub rows-read : (b : ℕ) → In b y.n → row_reads y.J (y.box b).row ≡ true
  pub letters-read : (a b : ℕ) → each (place_reads y.J) (y.link a b) ≡ true
  pub sizes : (v.n ≡ y.n) × (v.J ≡ y.J) × (v.L ≡ y.L)
  pub epoch : v.epoch ≡ y.epoch
  pub present : v.present ≡ y.present
  pub leader : v.leader ≡ y.leader
  pub rows : (b : ℕ) → In b y.n → (v.box b).row ≡ box_in y b
  pub told : (b : ℕ) → In b y.n
      → ((v.box b).epoch ≡ (y.box b).epoch) × ((v.box b).present ≡ (y.box b).present)
  pub links : (a b : ℕ) → v.link a b ≡ letters_in y.J (y.link a b)

pub record WorkedSafely : Type 0 where
  -- Demand 3 of everything that was said, with what `own::holds` answers now, ..
  pub demand_3 : {n J L : ℕ} {h : Talk} {y : Boards} → Worked n J L h y
      → Safe h (asks y) (firsts_in y)
  -- .. with numbers too, as the functions for C return them (`journal_own_..`): 0 done, 14 untrue.
  pub by-numbers : {n J L : ℕ} {h : Talk} {y : Boards} → Worked n J L h y
      → Demand3 0 14 (retold answer_number h)
      (λ b k left right. answer_number (asks y b k left right)) (firsts_in y)
  -- The rules of a site answer all of it just so, ..
  pub spoken : {n J L : ℕ} {h : Talk} {y : Boards} → Worked n J L h y
      → Spoken n J L h (run (start n J L) (calls h))
  -- .. and rows and letters hold what the model's boxes and their carrier have after the same
  -- calls.
  pub reads : {n J L : ℕ} {h : Talk} {y : Boards} → Worked n J L h y
      → (v : Yard) × Lived n J L (calls h) v × Reads y v
  -- Neither the first nor the last number of a box ever falls.
  pub never-falls : {n J L : ℕ} {h : Talk} {y z : Boards} (more : Talk) → Worked n J L h y
      → Worked n J L (more ++ h) z → (b : ℕ) → In b n
      → (firsts_in y b ≤ firsts_in z b) × (lasts_in y b ≤ lasts_in z b)
  -- The contracts can be met and the duties can be kept: whatever boxes by themselves do in the
  -- model, boards in words can do, ..
  pub lives : {n J L : ℕ} {ds : List Call} {v : Yard} → sizes_form n J L ≡ true → Lived n J L ds v
      → (h : Talk) × (y : Boards) × Worked n J L h y × (calls h ≡ ds) × Reads y v
  -- .. and some boards have said that two boxes hold a load.
  pub not-empty : (h : Talk) × (y : Boards) × Worked 2 16 8 h y
      × (i : ℕ) × TrueAt Answer.Done h i 1 1 71 72
      × (j : ℕ) × TrueAt Answer.Done h j 2 1 71 72
