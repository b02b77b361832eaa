-- Demand 3 with rest steps anywhere in a run, in statements alone: a run with them keeps what the
-- run of its calls alone keeps, and gets the same answers.
use Rattle.std.specs.Prelude.{ℕ, ◌≤◌, ◌≡◌, true, false, List, [], ◌∷◌, ◌++◌, length}
use Rattle.rules.specs.Sizes.{even, sizes_form, record_of}
use Rattle.rules.specs.Site.{Site}
use Rattle.rules.specs.Step.{step, run}
use Rattle.rules.specs.declared.model.Answer.{Answer}
use Rattle.rules.specs.declared.model.Call.{Call}
use Rattle.safety.specs.Demand3.{In, Agreed, record_at, start, Offered, AfterRun}
use Rattle.rest.specs.Rest.{rest}
use Rattle.rest.specs.Rests.{AllFit, sees_links}

-- a call, or the step `rest`
pub data Deed : Type 0 where
  calls : Call → Deed
  rests : Deed

-- a run of them, the latest first; a refused one leaves the site
unfoldable pub done_by : Site → List Deed → Site
done_by s [] = s
done_by s (calls d ∷ ds) = (step (done_by s ds) d).next
done_by s (rests ∷ ds) = (rest (done_by s ds)).next

abbrev pub calls_of : List Deed → List Call
calls_of [] = []
calls_of (calls d ∷ ds) = d ∷ calls_of ds
calls_of (rests ∷ ds) = calls_of ds

-- among them an Offer of the record r was accepted; j calls came before it
pub data OfferedIn (s : Site) : List Deed → ℕ → ℕ → Type 0 where
  now : (ds : List Deed) (c left right : ℕ)
      → (step (done_by s ds) (Call.Offer c left right)).answer ≡ Answer.Done
      → OfferedIn s (calls (Call.Offer c left right) ∷ ds) (length (calls_of ds))
      (record_of left right)
  before : (e : Deed) {ds : List Deed} {j r : ℕ} → OfferedIn s ds j r → OfferedIn s (e ∷ ds) j r

-- n boxes from a fresh site, for whatever is done; frame numbers are numbers of 32 bits
pub record RestsKeep (n J L : ℕ) : Type 0 where
  -- agreement, no hole, origin, ..
  pub after_run : (ds : List Deed) → AllFit (calls_of ds)
      → AfterRun n (start n J L) (calls_of ds) (done_by (start n J L) ds).box
  -- .. where the Offer that a number comes from is one that was accepted in this run, ..
  pub offers : (ds : List Deed) → AllFit (calls_of ds) → {j r : ℕ}
      → Offered (start n J L) (calls_of ds) j r → OfferedIn (start n J L) ds j r
  -- .. and what any box keeps as agreed later is what any box kept as agreed before.
  pub over-time : (ds further : List Deed) → AllFit (calls_of (further ++ ds)) → (b d k : ℕ)
      → In b n → In d n
      → Agreed ((done_by (start n J L) ds).box b) k
      → Agreed ((done_by (start n J L) (further ++ ds)).box d) k
      → record_at ((done_by (start n J L) (further ++ ds)).box d) k
      ≡ record_at ((done_by (start n J L) ds).box b) k
  -- Every call is answered as in the run of the calls alone, but a Lose or a Repeat in an odd
  -- epoch.
  pub answers : (ds : List Deed) → AllFit (calls_of ds) → (d : Call)
      → (even (run (start n J L) (calls_of ds)).epoch ≡ false → sees_links d ≡ false)
      → (step (run (start n J L) (calls_of ds)) d).answer
      ≡ (step (done_by (start n J L) ds) d).answer

pub record Demand3Rests : Type 0 where
  pub keeps : (n J L : ℕ) → sizes_form n J L ≡ true → RestsKeep n J L
  -- from any site, whatever is done: neither first nor last ever falls, ..
  pub never-falls : (s : Site) (ds : List Deed) (b : ℕ)
      → ((s.box b).head.kept.first ≤ ((done_by s ds).box b).head.kept.first)
      × ((s.box b).head.kept.last ≤ ((done_by s ds).box b).head.kept.last)
  -- .. and an agreed record does not change while it is kept
  pub kept-agreed : (s : Site) (ds : List Deed) (b k : ℕ)
      → Agreed (s.box b) k → Agreed ((done_by s ds).box b) k
      → record_at ((done_by s ds).box b) k ≡ record_at (s.box b) k
  -- Not empty: a load that was begun, and then put at rest, is agreed at two boxes after it.
  pub not-empty : (before after : List Deed)
      × Agreed ((done_by (start 2 16 8) (after ++ rests ∷ before)).box 1) 1
      × Agreed ((done_by (start 2 16 8) (after ++ rests ∷ before)).box 2) 1
