-- What the rules answer to any calls and holds lines from a fresh site on, and the site that they
-- lead to. Frame numbers are numbers of 32 bits.
use Rattle.std.specs.Prelude.{ℕ, ◌≡◌, true, [], ◌∷◌}
use Rattle.rules.specs.Sizes.{sizes_form}
use Rattle.rules.specs.Site.{Site, fresh}
use Rattle.rules.specs.Step.{step, holds}
use Rattle.rules.specs.declared.model.Answer.{Answer}
use Rattle.rules.specs.declared.model.Call.{Call}
use Rattle.rules.specs.declared.model.Refusal.{Refusal}
use Rattle.laws.specs.Frames.{CallFits}
use Rattle.said.specs.Said.{Talk, called, held, TrueAt}
use Rattle.said.specs.Demand3.{Demand3}

pub data Spoken (n J L : ℕ) : Talk → Site → Type 0 where
  begun : sizes_form n J L ≡ true → Spoken n J L [] (fresh n J L)
  stepped : {h : Talk} {s : Site} (d : Call) → CallFits d → Spoken n J L h s
      → Spoken n J L (called d (step s d).answer ∷ h) (step s d).next
  asked : {h : Talk} {s : Site} (b k left right : ℕ) → Spoken n J L h s
      → Spoken n J L (held b k left right (holds s b k left right) ∷ h) s

-- demand 3 with the engine's own answers
abbrev pub Safe : Talk → (ℕ → ℕ → ℕ → ℕ → Answer) → (ℕ → ℕ) → Type 0
Safe h now first = Demand3 Answer.Done (Answer.Refused Refusal.Untrue) h now first

-- the first number that each box keeps
abbrev pub firsts : Site → ℕ → ℕ
firsts s b = (s.box b).head.kept.first

pub record SpokenSafely : Type 0 where
  pub demand_3 : {n J L : ℕ} {h : Talk} {s : Site} → Spoken n J L h s
      → Safe h (holds s) (firsts s)
  -- Not empty: a list of calls after which a holds line is true at two boxes.
  pub not-empty : (h : Talk) × (s : Site) × Spoken 2 16 8 h s
      × (i : ℕ) × TrueAt Answer.Done h i 1 1 71 72
      × (j : ℕ) × TrueAt Answer.Done h j 2 1 71 72
