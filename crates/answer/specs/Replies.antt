-- What is asked of a site, and what comes of it by the paper's rules: a line of a trace, a run
-- (Q-9), or which load has a frame (Q-5).
use Rattle.std.specs.Prelude.{Bool, true, false}
use Rattle.rules.specs.Answers.{is_refusal}
use Rattle.rules.specs.Site.{Site, Outcome}
use Rattle.rules.specs.Step.{step, holds, refused}
use Rattle.rules.specs.declared.model.Refusal.{Refusal}
use Rattle.wait.specs.Run.{run_of}
use Rattle.wait.specs.declared.model.Run.{Run}
use Rattle.find.specs.Find.{find}
use Rattle.lines.specs.Printed.{in_range}
use Rattle.lines.specs.declared.Line.{Line}
use Rattle.answer.specs.declared.reply.Ask.{Ask}
use Rattle.answer.specs.declared.reply.Reply.{Reply}

-- a site line is none that is asked of an image
abbrev pub served_line : Line → Bool
served_line (Line.Site n J L) = false
served_line (Line.Call d) = true
served_line (Line.Holds c k left right) = true
served_line Line.Unreadable = false

abbrev pub served : Ask → Bool
served (Ask.Line l) = served_line l
served (Ask.Run steps) = true
served (Ask.Find c left) = true

-- its numbers are of 32 bits
abbrev pub ask_in_range : Ask → Bool
ask_in_range (Ask.Line l) = in_range l
ask_in_range (Ask.Run steps) = true
ask_in_range (Ask.Find c left) = true

-- what is replied, and the site that it leaves
pub record Replied : Type 0 where
  pub answer : Reply
  pub next : Site

-- "(of `holds`: the same image)"
abbrev pub line_outcome : Site → Line → Outcome
line_outcome s (Line.Site n J L) = refused s Refusal.Line
line_outcome s (Line.Call d) = step s d
line_outcome s (Line.Holds c k left right) = record { answer = holds s c k left right; next = s }
line_outcome s Line.Unreadable = refused s Refusal.Line

abbrev pub outcome_of : Site → Ask → Replied
outcome_of s (Ask.Line l) = record {
  answer = Reply.Answer (line_outcome s l).answer;
  next = (line_outcome s l).next;
}
outcome_of s (Ask.Run steps) = record {
  answer = Reply.Run (run_of s steps).answer;
  next = (run_of s steps).next;
}
outcome_of s (Ask.Find c left) = record { answer = Reply.Found (find s c left); next = s }

abbrev pub run_refused : Run → Bool
run_refused (Run.Ran used) = false
run_refused (Run.Stopped why used) = false
run_refused (Run.Refused why) = true

-- the site stays as it was
abbrev pub unchanged : Reply → Bool
unchanged (Reply.Answer a) = is_refusal a
unchanged (Reply.Run r) = run_refused r
unchanged (Reply.Found w) = true
