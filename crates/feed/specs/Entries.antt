-- What the entries promise, whatever state, words and buffer they are handed.
use Rattle.std.specs.Prelude.{ℕ, ◌≡◌, Bool, ◌&&◌, List, [], ◌∷◌, leb, length, Result, Ok, Err}
use Rattle.rules.specs.Needs.{need, ruled}
use Rattle.rules.specs.declared.model.Answer.{Answer}
use Rattle.rules.specs.declared.model.Refusal.{Refusal}
use Rattle.memory.specs.Memory.{site_words, links_words}
use Rattle.print.specs.Text.{Wrote}
use Rattle.trace.specs.Feeding.{end_text}
use Rattle.feed.specs.State.{course_text, feeding_of, formed}
use Rattle.feed.specs.Says.{Feeds, answer_most}
use Rattle.feed.specs.declared.state.Fed.{Fed}
use Rattle.feed.specs.declared.state.Feed.{Feed}
use Rattle.feed.specs.declared.state.Stage.{Stage}

-- room for every site of a trace, and for the longest answer
unfoldable pub has_room : ℕ → ℕ → ℕ → Bool
has_room site links out =
    leb (site_words 5 32) site && leb (links_words 5 32 8) links && leb answer_most out

-- 1 where a run goes and the words do not hold its site by form, 12 where room is too short
unfoldable pub piece_answer : Stage → List ℕ → List ℕ → List ℕ → Answer
piece_answer t xs ls out =
    ruled Answer.Refused
    (need Refusal.Form (formed t xs ls)
    ∷ need Refusal.Buffer (has_room (length xs) (length ls) (length out))
    ∷ [])
    Answer.Done

-- done, or why it is refused
abbrev pub answered_by : {T : Type 0} → Result T Refusal → Answer
answered_by (Ok t) = Answer.Done
answered_by (Err why) = Answer.Refused why

-- nothing was fed: the words and the buffer are as they were, and so the run is where it was
pub record Unfed (xs ls xs' ls' before after : List ℕ) : Type 0 where
  pub site : xs' ≡ xs
  pub links : ls' ≡ ls
  pub bytes : after ≡ before

-- a piece was fed, or refused
pub record PieceFed (f : Feed) (piece xs ls xs' ls' before after : List ℕ) (r : Result Fed Refusal)
    : Type 0 where
  pub answer : answered_by r ≡ piece_answer f.stage xs ls before
  pub fed : (g : Fed) → r ≡ Ok g → Feeds f piece xs ls xs' ls' before after g
  pub kept : (why : Refusal) → r ≡ Err why → Unfed xs ls xs' ls' before after

-- 12 where the buffer has no room for the longest answer
unfoldable pub end_answer : List ℕ → Answer
end_answer out =
    ruled Answer.Refused (need Refusal.Buffer (leb answer_most (length out)) ∷ []) Answer.Done

-- the end of the input was answered, or refused; the words do not matter
pub record EndSaid (f : Feed) (before after : List ℕ) (r : Result ℕ Refusal) : Type 0 where
  pub answer : answered_by r ≡ end_answer before
  pub said : (at : ℕ) → r ≡ Ok at → (xs ls : List ℕ)
      → Wrote answer_most before after 0 at (end_text course_text (feeding_of f xs ls))
  pub kept : (why : Refusal) → r ≡ Err why → after ≡ before
