-- "Replay": what each line does, what it prints, and when the run ends.
use Rattle.std.specs.Prelude.{ℕ, zero, suc, ◌+◌, Bool, ◌&&◌, List, [], ◌∷◌, ◌++◌, map, leb}
use Rattle.rules.specs.Pick.{pick}
use Rattle.rules.specs.Sizes.{sizes_form}
use Rattle.rules.specs.Numbers.{refusal_number}
use Rattle.rules.specs.Site.{Site, fresh}
use Rattle.rules.specs.Step.{step, holds}
use Rattle.rules.specs.declared.model.Answer.{Answer}
use Rattle.rules.specs.declared.model.Refusal.{Refusal}
use Rattle.print.specs.Text.{done_text, refused_text}
use Rattle.lines.specs.declared.Line.{Line}
use Rattle.trace.specs.Feeding.{Feeding}
use Rattle.trace.specs.Lines.{lines_of, texts}

-- a run between two lines: before the first; going, with the next line's number and the site; or at
-- its end
pub data Run : Type 0 where
  first : Run
  going : ℕ → Site → Run
  ended : Run

-- what the rules say of a line: it is done, and leaves this site; or it is refused
pub data Told : Type 0 where
  done : Site → Told
  refused : Refusal → Told

abbrev pub told : Answer → Site → Told
told Answer.Done s = done s
told Answer.Taken s = done s
told (Answer.Discarded why) s = done s
told (Answer.Refused why) s = refused why

-- "(here J at most 32, L at most 8, else 13)"
unfoldable pub trace_sizes : ℕ → ℕ → ℕ → Bool
trace_sizes n J L = sizes_form n J L && leb J 32 && leb L 8

-- "First `site n J L`": "Any other line first .. is unreadable."
unfoldable pub opened : Line → Told
opened (Line.Site n J L) = pick (trace_sizes n J L) (done (fresh n J L)) (refused Refusal.Sizes)
opened (Line.Call c) = refused Refusal.Line
opened (Line.Holds c k left right) = refused Refusal.Line
opened Line.Unreadable = refused Refusal.Line

-- then calls and holds lines; ".. a second site line .. is unreadable"
unfoldable pub played : Site → Line → Told
played s (Line.Site n J L) = refused Refusal.Line
played s (Line.Call c) = told (step s c).answer (step s c).next
played s (Line.Holds c k left right) = told (holds s c k left right) s
played s Line.Unreadable = refused Refusal.Line

-- "a line after the 4,294,967,295th is unreadable"
abbrev pub most_lines : ℕ
most_lines = 4294967295

unfoldable pub judged : ℕ → Site → Line → Told
judged k s l = pick (leb k most_lines) (played s l) (refused Refusal.Line)

-- 1 to n, and "last of boxes 1 to n"
unfoldable pub up_to : ℕ → List ℕ
up_to zero = []
up_to (suc n) = up_to n ++ (suc n ∷ [])

abbrev pub lasts : Site → List ℕ
lasts s = map (λ b. (s.box b).head.kept.last) (up_to s.n)

-- "After each line it prints line number, epoch, and last of boxes 1 to n. A refused line prints `k
-- refused code` .."
unfoldable pub told_text : ℕ → Told → List ℕ
told_text k (done s) = done_text k s.epoch (lasts s)
told_text k (refused why) = refused_text k (refusal_number why)

-- ".. and ends the run."
unfoldable pub told_next : ℕ → Told → Run
told_next k (done s) = going (k + 1) s
told_next k (refused why) = ended

unfoldable pub line_text : Run → Line → List ℕ
line_text first l = told_text 1 (opened l)
line_text (going k s) l = told_text k (judged k s l)
line_text ended l = []

unfoldable pub line_next : Run → Line → Run
line_next first l = told_next 1 (opened l)
line_next (going k s) l = told_next k (judged k s l)
line_next ended l = ended

-- the whole output of the whole input; "No input, no output."
unfoldable pub replay : List ℕ → List ℕ
replay s = texts line_next line_text first (lines_of s)

-- the same fed in pieces: before the first byte
abbrev pub start : Feeding Run
start = record { run = first; held = [] }
