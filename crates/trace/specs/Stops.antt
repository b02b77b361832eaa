-- Which lines the rules take and which they refuse, and a run that goes on to the first refused
-- line: over the rules alone, without the replay's own functions.
use Rattle.std.specs.Prelude.{ℕ, ◌+◌, ◌<◌, ◌≤◌, ◌≡◌, Bool, true, false, List, [], ◌∷◌, ◌++◌, length}
use Rattle.rules.specs.Answers.{is_refusal}
use Rattle.rules.specs.Numbers.{refusal_number}
use Rattle.rules.specs.Site.{Site, fresh}
use Rattle.rules.specs.Step.{step, holds}
use Rattle.rules.specs.declared.model.Answer.{Answer}
use Rattle.rules.specs.declared.model.Call.{Call}
use Rattle.rules.specs.declared.model.Refusal.{Refusal}
use Rattle.print.specs.Text.{done_text, refused_text}
use Rattle.lines.specs.declared.Line.{Line}
use Rattle.trace.specs.Replay.{Run, first, going, trace_sizes, most_lines, lasts}

-- a site line; a call or a holds line
abbrev pub opens : Line → Bool
opens (Line.Site n J L) = true
opens (Line.Call c) = false
opens (Line.Holds c k left right) = false
opens Line.Unreadable = false

abbrev pub plays : Line → Bool
plays (Line.Site n J L) = false
plays (Line.Call c) = true
plays (Line.Holds c k left right) = true
plays Line.Unreadable = false

-- the rules take a line, and leave this site
pub data Takes : Run → Line → Site → Type 0 where
  site : {n J L : ℕ} → trace_sizes n J L ≡ true → Takes first (Line.Site n J L) (fresh n J L)
  call : {k : ℕ} {s : Site} {c : Call} → k ≤ most_lines → is_refusal (step s c).answer ≡ false
      → Takes (going k s) (Line.Call c) (step s c).next
  holding : {k : ℕ} {s : Site} {c i left right : ℕ} → k ≤ most_lines
      → is_refusal (holds s c i left right) ≡ false
      → Takes (going k s) (Line.Holds c i left right) s

-- the rules refuse a line
pub data Refuses : Run → Line → Refusal → Type 0 where
  sizes : {n J L : ℕ} → trace_sizes n J L ≡ false → Refuses first (Line.Site n J L) Refusal.Sizes
  call : {k : ℕ} {s : Site} {c : Call} {why : Refusal} → k ≤ most_lines
      → (step s c).answer ≡ Answer.Refused why → Refuses (going k s) (Line.Call c) why
  holding : {k : ℕ} {s : Site} {c i left right : ℕ} {why : Refusal} → k ≤ most_lines
      → holds s c i left right ≡ Answer.Refused why
      → Refuses (going k s) (Line.Holds c i left right) why
  other-first : {l : Line} → opens l ≡ false → Refuses first l Refusal.Line
  other-later : {k : ℕ} {s : Site} {l : Line} → k ≤ most_lines → plays l ≡ false
      → Refuses (going k s) l Refusal.Line
  too_many : {k : ℕ} {s : Site} {l : Line} → most_lines < k → Refuses (going k s) l Refusal.Line

-- lines that the rules take one after another, the run that they lead to, and what is printed
pub data Ran : List Line → Run → List ℕ → Type 0 where
  none : Ran [] first []
  more : {ls : List Line} {r : Run} {t : List ℕ} {l : Line} {s : Site} → Ran ls r t → Takes r l s
      → Ran (ls ++ (l ∷ [])) (going (length ls + 1 + 1) s)
      (t ++ done_text (length ls + 1) s.epoch (lasts s))

-- a text is the whole output of these lines: all are taken; or those before one are taken, and it
-- is refused, and named with its number and the refusal's
pub data Output (ls : List Line) (text : List ℕ) : Type 0 where
  all-taken : {r : Run} → Ran ls r text → Output ls text
  stopped : (before : List Line) (l : Line) (after : List Line) {r : Run} {t : List ℕ}
      {why : Refusal} → ls ≡ before ++ (l ∷ after) → Ran before r t → Refuses r l why
      → text ≡ t ++ refused_text (length before + 1) (refusal_number why) → Output ls text
