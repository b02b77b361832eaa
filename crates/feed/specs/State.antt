-- The state of a feeding, and the run that it and the lent words stand for.
use Rattle.std.specs.Prelude.{ℕ, ◌≤◌, ◌≡◌, Bool, true, false, List, [], ◌∷◌, length, take}
use Rattle.rules.specs.Site.{Site}
use Rattle.memory.specs.Memory.{site_words, links_words, past_site, past_links, site_of}
use Rattle.memory.specs.Memory.{memory_form}
use Rattle.lines.specs.declared.Line.{Line}
use Rattle.trace.specs.Feeding.{Feeding, feed_text}
use Rattle.trace.specs.Replay.{Run, first, going, ended, Told, done, refused, opened, judged}
use Rattle.trace.specs.Replay.{line_next, line_text}
use Rattle.feed.specs.declared.held.Held.{Held}
use Rattle.feed.specs.declared.state.Feed.{Feed}
use Rattle.feed.specs.declared.state.Stage.{Stage}

-- a run, and the site that the lent words hold: it is there after the run's end too
pub record Course : Type 0 where
  pub run : Run
  pub site : Site

-- "A refusal returns its number and nothing else; site, links and lent buffers stay."
unfoldable pub told_site : Site → Told → Site
told_site s (done t) = t
told_site s (refused why) = s

unfoldable pub line_site : Run → Site → Line → Site
line_site first s l = told_site s (opened l)
line_site (going k t) s l = told_site s (judged k t l)
line_site ended s l = s

-- a line of the replay, with the site that it leaves
abbrev pub course_next : Course → Line → Course
course_next c l = record { run = line_next c.run l; site = line_site c.run c.site l }

abbrev pub course_text : Course → Line → List ℕ
course_text c l = line_text c.run l

-- a mark for each line that is done
unfoldable pub told_mark : Told → List ℕ
told_mark (done t) = 1 ∷ []
told_mark (refused why) = []

unfoldable pub line_mark : Run → Line → List ℕ
line_mark first l = told_mark (opened l)
line_mark (going k t) l = told_mark (judged k t l)
line_mark ended l = []

abbrev pub course_mark : Course → Line → List ℕ
course_mark c l = line_mark c.run l

-- no line of these bytes is done: those that end among them are refused, or come after the run's
-- end
abbrev pub NoneDone : Feeding Course → List ℕ → Type 0
NoneDone s p = feed_text course_next course_mark s p ≡ []

-- every word is as it was
abbrev pub Untouched : List ℕ → List ℕ → List ℕ → List ℕ → Type 0
Untouched xs ls xs' ls' = (xs' ≡ xs) × (ls' ≡ ls)

-- the words past the site's own are as they were
pub record Past (xs ls xs' ls' : List ℕ) : Type 0 where
  pub site : past_site (site_of xs' ls').n (site_of xs' ls').J xs'
      ≡ past_site (site_of xs' ls').n (site_of xs' ls').J xs
  pub links : past_links (site_of xs' ls').n (site_of xs' ls').J (site_of xs' ls').L ls'
      ≡ past_links (site_of xs' ls').n (site_of xs' ls').J (site_of xs' ls').L ls

-- before the first byte, with any words
abbrev pub begun : Site → Feeding Course
begun s = record { run = record { run = first; site = s }; held = [] }

abbrev pub run_of : Stage → ℕ → Site → Run
run_of Stage.First k s = first
run_of Stage.Going k s = going k s
run_of Stage.Ended k s = ended

abbrev pub course_of : Stage → ℕ → Site → Course
course_of t k s = record { run = run_of t k s; site = s }

-- the bytes of the line that has begun, or its first 65
abbrev pub held_bytes : Held → List ℕ
held_bytes h = take h.len h.line

abbrev pub feeding_of : Feed → List ℕ → List ℕ → Feeding Course
feeding_of f xs ls = record {
  run = course_of f.stage f.k (site_of xs ls);
  held = held_bytes f.held;
}

-- a state before the first byte, whatever the words are
pub record Begins (f : Feed) : Type 0 where
  pub stage : f.stage ≡ Stage.First
  pub next : (xs ls : List ℕ) → feeding_of f xs ls ≡ begun (site_of xs ls)

-- "A refused line .. ends the run."
abbrev pub is_ended : Stage → Bool
is_ended Stage.First = false
is_ended Stage.Going = false
is_ended Stage.Ended = true

-- a run that goes has a site by form in the words
abbrev pub formed : Stage → List ℕ → List ℕ → Bool
formed Stage.First xs ls = true
formed Stage.Going xs ls = memory_form xs ls
formed Stage.Ended xs ls = true

-- words enough for every site of a trace: n at most 5, J at most 32, L at most 8
pub record Lent (stage : Stage) (xs ls : List ℕ) : Type 0 where
  pub site : site_words 5 32 ≤ length xs
  pub links : links_words 5 32 8 ≤ length ls
  pub form : formed stage xs ls ≡ true
