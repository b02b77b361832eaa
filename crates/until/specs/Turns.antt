-- One turn of a run, and several: the run from here is the run from there.
use Rattle.std.specs.Prelude.{ℕ, ◌+◌, ◌≤◌, ◌<◌, ◌≡◌, Bool, true, false, not, ◌&&◌, List, eqb, ltb}
use Rattle.std.specs.Prelude.{length}
use Rattle.rules.specs.Pick.{pick}
use Rattle.rules.specs.Answers.{is_refusal}
use Rattle.rules.specs.Site.{Site}
use Rattle.rules.specs.declared.model.Act.{Act}
use Rattle.rules.specs.declared.model.Answer.{Answer}
use Rattle.rules.specs.declared.model.Call.{Call}
use Rattle.rules.specs.declared.model.Phase.{Phase}
use Rattle.rules.specs.declared.model.Setting.{Setting}
use Rattle.wait.specs.Run.{first_of, receiver_of, sender_of, ended, run_from}
use Rattle.std.specs.Prelude.{Option, Some, None, Result, Ok, Err}
use Rattle.wait.specs.declared.model.Run.{Run}
use Rattle.memory.specs.Memory.{past_site, past_links, site_of, memory_form}
use Rattle.memory.specs.After.{boxes_of, links_of}
use Rattle.site.specs.Entries.{FormedStep}
use Rattle.until.specs.declared.turns.Handed.{Handed}
use Rattle.until.specs.declared.turns.Stop.{Stop}
use Rattle.until.specs.declared.turns.Went.{Went}

-- ---- the first link that holds mail, and the leader, in the words

abbrev pub mail_on : Setting → List ℕ → ℕ → ℕ → Bool
mail_on s ls a b = not (eqb a b) && ltb 0 (length (links_of s ls a b))

abbrev pub receiver_in : Setting → List ℕ → ℕ → ℕ
receiver_in s ls a = first_of s.n (mail_on s ls a)

abbrev pub sender_in : Setting → List ℕ → ℕ
sender_in s ls = first_of s.n (λ a. ltb 0 (receiver_in s ls a))

abbrev pub leader_in : Setting → List ℕ → ℕ
leader_in s xs = first_of s.n (λ b. (boxes_of s xs b).head.leads)

-- ---- a mail's turn and a leader's

-- the head of the first such link
unfoldable pub mail_turn : Site → Option Call
mail_turn s =
    pick (eqb (sender_of s) 0) None
    (Some (Call.Deliver (sender_of s) (receiver_of s (sender_of s))))

-- the one step that a leader can have in a phase; in LeaseDone it has none, and heard is refused
abbrev pub act_in : Phase → Act
act_in Phase.Election = Act.Recover
act_in Phase.SendCollect = Act.Collect
act_in Phase.Collect = Act.Ready
act_in Phase.Lease = Act.Heard
act_in Phase.Begin = Act.Agree
act_in Phase.Commit = Act.Finish
act_in Phase.LeaseDone = Act.Heard

abbrev pub call_in : Phase → ℕ → Call
call_in Phase.Election c = Call.Recover c
call_in Phase.SendCollect c = Call.Collect c
call_in Phase.Collect c = Call.Ready c
call_in Phase.Lease c = Call.Heard c
call_in Phase.Begin c = Call.Agree c
call_in Phase.Commit c = Call.Finish c
call_in Phase.LeaseDone c = Call.Heard c

-- what came of a turn, by its answer; a discarded mail was handed over
abbrev pub went_by : Answer → Went
went_by Answer.Done = Went.Played
went_by Answer.Taken = Went.Played
went_by (Answer.Discarded why) = Went.Played
went_by (Answer.Refused why) = Went.Refused why

-- a turn on words by form: there was none, it was done, or it was refused
abbrev pub Took : Went → Option Call → List ℕ → List ℕ → List ℕ → List ℕ → Type 0
Took Went.Nothing next xs ls xs' ls' = (next ≡ None) × ((xs' ≡ xs) × (ls' ≡ ls))
Took Went.Played next xs ls xs' ls' =
    (d : Call) × (a : Answer) × (next ≡ Some d) × (is_refusal a ≡ false)
    × FormedStep d xs ls xs' ls' a
Took (Went.Refused why) next xs ls xs' ls' =
    (d : Call) × (next ≡ Some d) × FormedStep d xs ls xs' ls' (Answer.Refused why)

-- ---- several turns

-- a run on xs and ls with so many steps left and used has gone on to xs' and ls'
pub record Gone (left used : ℕ) (xs ls : List ℕ) (left' used' : ℕ) (xs' ls' : List ℕ) : Type 0 where
  pub same : run_from left used (site_of xs ls) ≡ run_from left' used' (site_of xs' ls')
  pub sum : left' + used' ≡ left + used
  pub fewer : left' ≤ left
  pub kept : used' ≡ used → (xs' ≡ xs) × (ls' ≡ ls)
  pub n : (site_of xs' ls').n ≡ (site_of xs ls).n
  pub J : (site_of xs' ls').J ≡ (site_of xs ls).J
  pub L : (site_of xs' ls').L ≡ (site_of xs ls).L
  pub past-site :
      past_site (site_of xs ls).n (site_of xs ls).J xs'
      ≡ past_site (site_of xs ls).n (site_of xs ls).J xs
  pub past-links :
      past_links (site_of xs ls).n (site_of xs ls).J (site_of xs ls).L ls'
      ≡ past_links (site_of xs ls).n (site_of xs ls).J (site_of xs ls).L ls
  pub site-words : length xs' ≡ length xs
  pub links-words : length ls' ≡ length ls
  pub form : memory_form xs' ls' ≡ true

-- the steps that an answer counts
abbrev pub UsedIs : Run → ℕ → Type 0
UsedIs (Run.Ran u) used = u ≡ used
UsedIs (Run.Stopped why u) used = u ≡ used
UsedIs (Run.Refused why) used = ⊥

-- .. and has ended there with r
pub record RanOn (left used : ℕ) (xs ls xs' ls' : List ℕ) (r : Run) : Type 0 where
  pub left' : ℕ
  pub used' : ℕ
  pub gone : Gone left used xs ls left' used' xs' ls'
  pub ends : run_from left' used' (site_of xs' ls') ≡ ended (site_of xs' ls') r
  pub counts : UsedIs r used'

-- heads were handed over: one was refused, or none is left, or no step is
abbrev pub HandedIs : Result Handed Stop → ℕ → ℕ → List ℕ → List ℕ → List ℕ → List ℕ → Type 0
HandedIs (Err s) left used xs ls xs' ls' =
    RanOn left used xs ls xs' ls' (Run.Stopped s.why s.used)
HandedIs (Ok h) left used xs ls xs' ls' =
    Gone left used xs ls h.left h.used xs' ls' × (0 < h.left → sender_of (site_of xs' ls') ≡ 0)
