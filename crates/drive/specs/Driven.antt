-- What the driver does and promises.
use Rattle.std.specs.Prelude.{ℕ, ◌≤◌, ◌≡◌, true, false, List, [], length, get_or}
use Rattle.rules.specs.Answers.{is_refusal}
use Rattle.rules.specs.Numbers.{answer_number}
use Rattle.rules.specs.declared.model.Answer.{Answer}
use Rattle.laws.specs.Frames.{CallFits}
use Rattle.memory.specs.Memory.{past_site, past_links}
use Rattle.site.specs.Entries.{After, fresh_on, step_on, holds_on}
use Rattle.said.specs.Said.{Said, called, held, Talk, retold}
use Rattle.said.specs.Demand3.{Demand3}
use Rattle.engine_safety.specs.Served.{Served, firsts_in}
use Rattle.drive.specs.Script.{talk_of, questions_of}

-- what was said on the words xs and ls, which have become xs' and ls'
abbrev pub Answered : Said ℕ → List ℕ → List ℕ → List ℕ → List ℕ → Type 0
Answered (called d r) xs ls xs' ls' =
    CallFits d × (a : Answer) × (r ≡ answer_number a) × After (step_on xs ls d) xs ls xs' ls' a
Answered (held b k left right r) xs ls xs' ls' =
    (r ≡ answer_number (holds_on xs ls b k left right)) × (xs' ≡ xs) × (ls' ≡ ls)

-- the first m questions were answered, each by the engine's own entries; the rest of the answers
-- and the words past the site's own are as they were
pub record Asked (n J L : ℕ) (script before after xs ls xs' ls' : List ℕ) (m : ℕ) : Type 0 where
  pub talk : Talk
  pub served : Served n J L talk xs' ls'
  pub answers : retold answer_number talk ≡ talk_of script after m
  pub rest : (i : ℕ) → m ≤ i → get_or after i 0 ≡ get_or before i 0
  pub as_many : length after ≡ length before
  pub site-words : length xs' ≡ length xs
  pub links-words : length ls' ≡ length ls
  pub past-site : past_site n J xs' ≡ past_site n J xs
  pub past-links : past_links n J L ls' ≡ past_links n J L ls

-- the script on words that `fresh` made
abbrev pub Drives : List ℕ → List ℕ → List ℕ → List ℕ → List ℕ → List ℕ → List ℕ → Type 0
Drives script before after xs ls xs' ls' =
    (n J L : ℕ) → Served n J L [] xs ls
    → Asked n J L script before after xs ls xs' ls' (questions_of script before)

-- a fresh site and the script, or a refusal
pub record Driven (n J L : ℕ) (script before after xs ls xs' ls' : List ℕ) (a : Answer) : Type 0
  where
    pub answer : a ≡ (fresh_on xs ls n J L).answer
    pub refused : is_refusal a ≡ true → (xs' ≡ xs) × (ls' ≡ ls) × (after ≡ before)
    pub done : is_refusal a ≡ false
        → Asked n J L script before after xs ls xs' ls' (questions_of script before)
    -- Demand 3 of the questions and their answers: 0 done, 14 untrue.
    pub demand_3 : is_refusal a ≡ false
        → Demand3 0 14 (talk_of script after (questions_of script before))
        (λ b k left right. answer_number (holds_on xs' ls' b k left right)) (firsts_in xs' ls')
