-- Demand 3 of one trace: of its lines that were not refused. By `Output` (crate trace) the
-- replayer's output has just these, each with its number and the lasts, and then the refused one.
use Rattle.std.specs.Prelude.{ℕ, ◌≡◌, Bool, true, false, not, List, [], ◌∷◌, ◌++◌}
use Rattle.rules.specs.Answers.{is_refusal}
use Rattle.rules.specs.Site.{Site}
use Rattle.rules.specs.Step.{holds}
use Rattle.lines.specs.declared.Line.{Line}
use Rattle.trace.specs.Lines.{lines_of}
use Rattle.trace.specs.Replay.{Run, going, replay}
use Rattle.trace.specs.Stops.{Ran, Output, all-taken, stopped}
use Rattle.said.specs.Said.{Said, called, held, TrueAt}
use Rattle.said.specs.Demand3.{Demand3}
use Rattle.said.specs.Spoken.{firsts}

-- lines after those of h, as what was said: each is answered `true`, for it was not refused
abbrev pub said_from : List (Said Bool) → List Line → List (Said Bool)
said_from h [] = h
said_from h (Line.Site n J L ∷ ls) = said_from h ls
said_from h (Line.Call d ∷ ls) = said_from (called d true ∷ h) ls
said_from h (Line.Holds b k left right ∷ ls) = said_from (held b k left right true ∷ h) ls
said_from h (Line.Unreadable ∷ ls) = said_from h ls

-- whether a holds line would be taken at this site
abbrev pub taken : Site → ℕ → ℕ → ℕ → ℕ → Bool
taken s b k left right = not (is_refusal (holds s b k left right))

-- the lines that an output answers with the lasts, and the run that they lead to
abbrev pub answered_lines : {ls : List Line} {text : List ℕ} → Output ls text → List Line
answered_lines {ls} (all-taken p) = ls
answered_lines (stopped before l after e p q f) = before

abbrev pub run_after : {ls : List Line} {text : List ℕ} → Output ls text → Run
run_after (all-taken {r = r} p) = r
run_after (stopped before l after {r = r} e p q f) = r

pub record TracedSafely : Type 0 where
  -- the first lines of any input, if the rules take them all and they lead to the site s
  pub demand_3 : (input : List ℕ) (ls rest : List Line) {text : List ℕ} {k : ℕ} {s : Site}
      → lines_of input ≡ ls ++ rest → Ran ls (going k s) text
      → Demand3 true false (said_from [] ls) (taken s) (firsts s)
  -- .. and so of the replayer's whole output
  pub replayed : (input : List ℕ) (o : Output (lines_of input) (replay input)) (k : ℕ) (s : Site)
      → run_after o ≡ going k s
      → Demand3 true false (said_from [] (answered_lines o)) (taken s) (firsts s)
  -- Not empty: lines that the rules take, with a true holds line of each of two boxes.
  pub not-empty : (ls : List Line) × (k : ℕ) × (s : Site) × (text : List ℕ)
      × Ran ls (going k s) text
      × (i : ℕ) × TrueAt true (said_from [] ls) i 1 1 71 72
      × (j : ℕ) × TrueAt true (said_from [] ls) j 2 1 71 72
