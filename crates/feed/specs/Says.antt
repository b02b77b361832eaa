-- What each function of the feeding says.
use Rattle.std.specs.Prelude.{ℕ, suc, ◌-◌, ◌≤◌, ◌<◌, ◌≡◌, true, false, ◌&&◌, cond, List, [], ◌∷◌}
use Rattle.std.specs.Prelude.{eqb, ltb, length, take, get_or}
use Rattle.std.proofs.lemmas.List.Edits.{sets}
use Rattle.words.specs.Rows.{part}
use Rattle.rules.specs.Answers.{is_refusal}
use Rattle.rules.specs.Pick.{pick}
use Rattle.rules.specs.Sizes.{most_boxes, most_loads}
use Rattle.rules.specs.declared.model.Answer.{Answer}
use Rattle.memory.specs.Memory.{site_words, site_of, memory_form}
use Rattle.print.specs.Text.{Wrote}
use Rattle.trace.specs.Feeding.{Feeding, plain, holding, byte_next, byte_text, feed_next}
use Rattle.trace.specs.Feeding.{feed_text}
use Rattle.trace.specs.Replay.{Told, told, told_text, told_next}
use Rattle.feed.specs.State.{Course, told_site, course_next, course_text, feeding_of, formed}
use Rattle.feed.specs.State.{Lent, NoneDone, Untouched, Past}
use Rattle.feed.specs.declared.state.Feed.{Feed}
use Rattle.feed.specs.declared.state.Fed.{Fed}
use Rattle.feed.specs.declared.state.Stage.{Stage}
use Rattle.feed.specs.declared.state.Turn.{Turn}

-- the longest answer: two numbers and five lasts, each of at most 20 digits, spaces and a newline
abbrev pub answer_most : ℕ
answer_most = 147

-- how many bytes of a piece are taken where this many bytes of the buffer are free: a newline waits
-- where there is no room for the longest answer
unfoldable pub taken : ℕ → Feeding Course → List ℕ → ℕ
taken room s [] = 0
taken room s (b ∷ p) =
    pick (eqb b 10 && ltb room answer_most) 0
    (suc (taken (room - length (byte_text course_text s b)) (byte_next course_next s b) p))

-- e is the place of the first newline from i on and below n, or n where there is none
pub record LineEnd (piece : List ℕ) (i n e : ℕ) : Type 0 where
  pub from : i ≤ e
  pub to : e ≤ n
  pub plain : plain (part piece i (e - i)) ≡ true
  pub newline : e < n → get_or piece e 0 ≡ 10

-- the words have room for the rows that they say they hold, at most five
pub record Rowed (xs : List ℕ) : Type 0 where
  pub boxes : get_or xs 0 0 ≤ most_boxes
  pub loads : get_or xs 1 0 ≤ most_loads
  pub rows : site_words (get_or xs 0 0) (get_or xs 1 0) ≤ length xs

-- the answer a to a line of which the rules say t
pub record Answers (t : Told) (xs ls xs' ls' : List ℕ) (a : Answer) : Type 0 where
  pub answer : told a (site_of xs' ls') ≡ t
  pub holds : site_of xs' ls' ≡ told_site (site_of xs ls) t
  pub form : is_refusal a ≡ false → memory_form xs' ls' ≡ true
  pub kept : is_refusal a ≡ true → Untouched xs ls xs' ls'
  pub past : Past xs ls xs' ls'
  pub site : length xs' ≡ length xs
  pub links : length ls' ≡ length ls

-- the answer a to line k was printed, and the run goes on or is at its end
pub record Finishes (k : ℕ) (a : Answer) (xs before after : List ℕ) (at : ℕ) (t : Turn) : Type 0
  where
    pub next : (ls : List ℕ) → feeding_of t.feed xs ls
        ≡ record {
          run = record { run = told_next k (told a (site_of xs ls)); site = site_of xs ls };
          held = [];
        }
    pub wrote : (ls : List ℕ)
        → Wrote answer_most before after at t.at (told_text k (told a (site_of xs ls)))
    pub form : (ls : List ℕ) → (is_refusal a ≡ false → memory_form xs ls ≡ true)
        → formed t.feed.stage xs ls ≡ true
    pub stage : t.feed.stage ≡ cond (is_refusal a) Stage.Ended Stage.Going

-- the line that has begun went on with p
pub record Keeps (f : Feed) (p : List ℕ) (g : Feed) : Type 0 where
  pub next : (xs ls : List ℕ) → feeding_of g xs ls ≡ holding (feeding_of f xs ls) p
  pub stage : g.stage ≡ f.stage

-- the state after a line is s, and its text was written; where it has no mark it was not done
pub record Turns (s : Feeding Course) (text mark xs ls xs' ls' before after : List ℕ) (at : ℕ)
    (t : Turn) : Type 0 where
  pub next : feeding_of t.feed xs' ls' ≡ s
  pub wrote : Wrote answer_most before after at t.at text
  pub kept : mark ≡ [] → Untouched xs ls xs' ls'
  pub past : Past xs ls xs' ls'
  pub later : t.feed.stage ≡ Stage.First → ⊥
  pub lent : Lent t.feed.stage xs' ls'
  pub site : length xs' ≡ length xs
  pub links : length ls' ≡ length ls

-- as much of a piece as the buffer has room for was fed
pub record Feeds (f : Feed) (piece xs ls xs' ls' before after : List ℕ) (g : Fed) : Type 0 where
  pub took : g.took ≡ taken (length before) (feeding_of f xs ls) piece
  pub next : feeding_of g.feed xs' ls'
      ≡ feed_next course_next (feeding_of f xs ls) (take g.took piece)
  pub bytes : after
      ≡ sets before 0 (feed_text course_next course_text (feeding_of f xs ls) (take g.took piece))
  pub end : g.at
      ≡ length (feed_text course_next course_text (feeding_of f xs ls) (take g.took piece))
  pub fits : g.at ≤ length after
  pub kept : NoneDone (feeding_of f xs ls) (take g.took piece) → Untouched xs ls xs' ls'
  pub past : Past xs ls xs' ls'
  pub lent : Lent g.feed.stage xs' ls'
  pub site : length xs' ≡ length xs
  pub links : length ls' ≡ length ls
