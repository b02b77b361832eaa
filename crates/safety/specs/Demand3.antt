-- Demand 3, in statements alone: what is true of every run of the model's calls (`fresh`, `step`
-- and `run` of the crate rules). A refused call leaves the site, so "any calls" leaves nothing out.
use Rattle.std.specs.Prelude.{ℕ, ◌-◌, ◌≤◌, ◌<◌, max, ◌≡◌, true, List, ◌∷◌, ◌++◌, length}
use Rattle.rules.specs.Sizes.{most_boxes, record_of, proper}
use Rattle.rules.specs.Box.{Box, record_at as record_from}
use Rattle.rules.specs.Site.{Site, fresh}
use Rattle.rules.specs.Step.{step, run}
use Rattle.rules.specs.declared.model.Answer.{Answer}
use Rattle.rules.specs.declared.model.Call.{Call}

-- a number of 1 to n
abbrev pub In : ℕ → ℕ → Type 0
In k n = (1 ≤ k) × (k ≤ n)

-- the box keeps load number k as agreed: "from first to last" (Q-4)
abbrev pub Agreed : Box → ℕ → Type 0
Agreed x k = (x.head.kept.first ≤ k) × (k ≤ x.head.kept.last)

-- the record that the box holds for number k
abbrev pub record_at : Box → ℕ → ℕ
record_at x k = record_from x.head.kept.first x.records k

-- where a run begins
abbrev pub start : ℕ → ℕ → ℕ → Site
start n J L = fresh n J L

-- among the calls (the latest first) an Offer of the record r was accepted; j calls came before it
pub data Offered (s : Site) : List Call → ℕ → ℕ → Type 0 where
  now : (calls : List Call) (c left right : ℕ)
      → (step (run s calls) (Call.Offer c left right)).answer ≡ Answer.Done
      → Offered s (Call.Offer c left right ∷ calls) (length calls) (record_of left right)
  before : (call : Call) {calls : List Call} {j r : ℕ}
      → Offered s calls j r → Offered s (call ∷ calls) j r

-- the n boxes after the calls from the site s
pub record AfterRun (n : ℕ) (s : Site) (calls : List Call) (box : ℕ → Box) : Type 0 where
  -- Agreement: two boxes that both still keep a number as agreed hold the same record for it.
  pub agreement : (b d k : ℕ) → In b n → In d n
      → Agreed (box b) k → Agreed (box d) k → record_at (box b) k ≡ record_at (box d) k
  -- What a box keeps begins at 1, or at a number that it counts as agreed: so it may drop old
  -- numbers, and not its last one.
  pub kept-range : (b : ℕ) → In b n
      → In (box b).head.kept.first (max 1 (box b).head.kept.last)
  -- No hole: a box holds a proper record for every number from its first to its last.
  pub no_hole : (b k : ℕ) → In b n → Agreed (box b) k
      → (k - (box b).head.kept.first < length (box b).records)
      × (proper (record_at (box b) k) ≡ true)
  -- Origin: to every agreed number belongs one accepted Offer, known by the calls before it; ..
  pub offer-of : ℕ → ℕ
  -- .. what was offered is the record of every box that keeps the number as agreed; ..
  pub offer-is : (b k : ℕ) → In b n
      → Agreed (box b) k → Offered s calls (offer-of k) (record_at (box b) k)
  -- .. and no Offer fills two numbers.
  pub offer-once : (b d j k : ℕ) → In b n → In d n → Agreed (box b) j → Agreed (box d) k
      → offer-of j ≡ offer-of k → j ≡ k

-- at some time of the calls (the latest first) a box of the n kept number k as agreed, with the
-- record r
pub record Once (n : ℕ) (s : Site) (calls : List Call) (k r : ℕ) : Type 0 where
  pub later : List Call
  pub earlier : List Call
  pub time : calls ≡ later ++ earlier
  pub box : ℕ
  pub box-in : In box n
  pub agreed : Agreed ((run s earlier).box box) k
  pub value : record_at ((run s earlier).box box) k ≡ r

-- where numbers come from over a whole run, those that no box keeps any more among them
pub record OverTime (n : ℕ) (s : Site) (calls : List Call) : Type 0 where
  -- one map for all times: to every number that was ever agreed belongs one accepted Offer, ..
  pub offer-of : ℕ → ℕ
  -- .. of the record that every box had for it, ..
  pub offer-is : (k r : ℕ) → Once n s calls k r → Offered s calls (offer-of k) r
  -- .. and no Offer fills two numbers, not even one after the other was dropped.
  pub offer-once : (j k q r : ℕ) → Once n s calls j q → Once n s calls k r
      → offer-of j ≡ offer-of k → j ≡ k

pub record Demand3 : Type 0 where
  -- For every n from 1 to 5, every J and L, and any calls from the fresh site.
  pub after_run : (n J L : ℕ) → In n most_boxes → (calls : List Call)
      → AfterRun n (start n J L) calls (run (start n J L) calls).box
  -- "neither first nor last ever falls": from any site, whatever calls follow.
  pub never-falls : (s : Site) (calls : List Call) (b : ℕ)
      → ((s.box b).head.kept.first ≤ ((run s calls).box b).head.kept.first)
      × ((s.box b).head.kept.last ≤ ((run s calls).box b).head.kept.last)
  -- "an agreed record does not change while it is kept": from any site, whatever calls follow.
  pub kept-agreed : (s : Site) (calls : List Call) (b k : ℕ)
      → Agreed (s.box b) k → Agreed ((run s calls).box b) k
      → record_at ((run s calls).box b) k ≡ record_at (s.box b) k
  -- Over time: what any box keeps as agreed after further calls is what any box kept as agreed
  -- under that number before them, even where that one has dropped it since.
  pub over-time : (n J L : ℕ) → In n most_boxes → (calls further : List Call) (b d k : ℕ)
      → In b n → In d n
      → Agreed ((run (start n J L) calls).box b) k
      → Agreed ((run (start n J L) (further ++ calls)).box d) k
      → record_at ((run (start n J L) (further ++ calls)).box d) k
      ≡ record_at ((run (start n J L) calls).box b) k
  pub offers-over-time : (n J L : ℕ) → In n most_boxes → (calls : List Call)
      → OverTime n (start n J L) calls
  -- Not empty: in some run a load is agreed at two boxes.
  pub not-empty : (calls : List Call)
      × Agreed ((run (start 2 16 8) calls).box 1) 1
      × Agreed ((run (start 2 16 8) calls).box 2) 1
  -- "freed room must be used by later numbers": in some run of boxes with room for two records the
  -- third number is agreed at both.
  pub room-again : (calls : List Call)
      × Agreed ((run (start 2 2 8) calls).box 1) 3
      × Agreed ((run (start 2 2 8) calls).box 2) 3
