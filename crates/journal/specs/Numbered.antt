-- The entries of `site` and `own` with their answer as one number (`answer_number`): 0 done, the
-- refusal's own number, 100 taken, 101 to 104 discarded for role, phase, number, place.
use Rattle.std.specs.Prelude.{ℕ, ◌≡◌, cond, List}
use Rattle.rules.specs.Numbers.{answer_number}
use Rattle.rules.specs.Answers.{is_refusal}
use Rattle.rules.specs.Own.{OwnOutcome}
use Rattle.rules.specs.declared.model.Call.{Call}
use Rattle.rules.specs.declared.model.Setting.{Setting}
use Rattle.site.specs.Entries.{After, FreshMade, step_on, fresh_on}
use Rattle.own.specs.Entry.{Owned, Told}
use Rattle.own.specs.Lent.{StillReads}

-- `step` of the call d on the words xs and ls: they have become xs' and ls', and r was answered
pub record Stepped (d : Call) (xs ls xs' ls' : List ℕ) (r : ℕ) : Type 0 where
  pub number : r ≡ answer_number (step_on xs ls d).answer
  pub after : After (step_on xs ls d) xs ls xs' ls' (step_on xs ls d).answer

-- `fresh` of these sizes
pub record Freshened (n J L : ℕ) (xs ls xs' ls' : List ℕ) (r : ℕ) : Type 0 where
  pub number : r ≡ answer_number (fresh_on xs ls n J L).answer
  pub made : FreshMade n J L xs ls xs' ls' (fresh_on xs ls n J L).answer

-- the outcome o of a box by itself, on the row x, the tray out and the set to: they have become x',
-- out' and to', and r was answered. A refused call leaves the set too.
pub record Alone (s : Setting) (o : OwnOutcome) (x out x' out' : List ℕ) (to to' r : ℕ)
    : Type 0 where
  pub number : r ≡ answer_number o.answer
  pub owned : Owned s o x out x' out' o.answer o.to
  pub reads : StillReads s x x' out' o.to
  pub set : to' ≡ cond (is_refusal o.answer) to o.to

-- the outcome o of a box that is started or told, on the row x of a box of n with room for J
-- records: it has become x', and r was answered
pub record ToldAlone (n J : ℕ) (o : OwnOutcome) (x x' : List ℕ) (r : ℕ) : Type 0 where
  pub number : r ≡ answer_number o.answer
  pub told : Told n J o x x' o.answer

-- what a box is told of its site
abbrev pub setting_of : ℕ → ℕ → ℕ → ℕ → ℕ → ℕ → Setting
setting_of n J L epoch present me = record {
  n = n;
  j = J;
  l = L;
  epoch = epoch;
  present = present;
  me = me;
}
