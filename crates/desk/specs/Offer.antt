-- "the pair is offered to the leader and leaves the desk only if the offer is accepted" (Q-13).
use Rattle.std.specs.Prelude.{◌≡◌, ℕ, Bool, true, false, cond, not, List, [], ◌∷◌, ◌==◌}
use Rattle.rules.specs.Site.{Site, Outcome}
use Rattle.rules.specs.Form.{form}
use Rattle.rules.specs.Needs.{need, ruled}
use Rattle.rules.specs.Step.{refused, step}
use Rattle.rules.specs.declared.model.Answer.{Answer}
use Rattle.rules.specs.declared.model.Call.{Call}
use Rattle.rules.specs.declared.model.Refusal.{Refusal}
use Rattle.wait.specs.Run.{leader_of}
use Rattle.memory.specs.Memory.{site_of, readable}
use Rattle.site.specs.Entries.{After}
use Rattle.desk.specs.Desk.{chosen_of, leaves}
use Rattle.std.specs.Prelude.{⊤, Result, Ok, Err}
use Rattle.desk.specs.declared.answers.Why.{Why}

-- "offered to the leader": "then the engine's (3 with no leader)"
unfoldable pub offered : Site → ℕ → ℕ → Outcome
offered s f g =
    ruled (refused s)
    (need Refusal.Form (form s)
    ∷ need Refusal.Condition (not (leader_of s == 0))
    ∷ [])
    (step s (Call.Offer (leader_of s) f g))

-- .. of the site that lent words hold: words that cannot be read as one are not by form
unfoldable pub offered_on : List ℕ → List ℕ → ℕ → ℕ → Outcome
offered_on xs ls f g =
    cond (readable xs ls) (offered (site_of xs ls) f g) (refused (site_of xs ls) Refusal.Form)

-- an offer is accepted or refused, never taken or discarded as mail is
abbrev pub is_settled : Answer → Bool
is_settled Answer.Done = true
is_settled Answer.Taken = false
is_settled (Answer.Discarded why) = false
is_settled (Answer.Refused why) = true

abbrev pub answer_by : Result ⊤ Refusal → Answer
answer_by (Ok tt) = Answer.Done
answer_by (Err why) = Answer.Refused why

-- pairing the left frame f: the desk ws and the words xs and ls have become ws', xs' and ls'
pub data PairIs (f : ℕ) (ws xs ls : List ℕ) : List ℕ → List ℕ → List ℕ → Result ℕ Why → Type 0 where
  -- the desk refuses, before the site is looked at
  no-pair : {why : Why} → chosen_of f ws ≡ Err why
      → PairIs f ws xs ls ws xs ls (Err why)
  -- the engine refuses: the pair waits on
  kept : {g : ℕ} {xs' ls' : List ℕ} {why : Refusal} → chosen_of f ws ≡ Ok g
      → After (offered_on xs ls f g) xs ls xs' ls' (Answer.Refused why)
      → PairIs f ws xs ls ws xs' ls' (Err (Why.Engine why))
  -- the offer is accepted: the pair leaves
  accepted : {g : ℕ} {xs' ls' : List ℕ} → chosen_of f ws ≡ Ok g
      → After (offered_on xs ls f g) xs ls xs' ls' Answer.Done
      → PairIs f ws xs ls (leaves f g ws) xs' ls' (Ok g)
