-- "Add a run": mail turns and leader turns, while there are steps left (Q-9).
use Rattle.std.specs.Prelude.{ℕ, zero, suc, Bool, true, not, ◌&&◌, List, [], ◌∷◌, eqb, ltb, length}
use Rattle.rules.specs.Pick.{pick}
use Rattle.rules.specs.Sizes.{even}
use Rattle.rules.specs.Numbers.{refusal_number}
use Rattle.rules.specs.Site.{Site}
use Rattle.rules.specs.Form.{form}
use Rattle.rules.specs.Needs.{need, ruled}
use Rattle.rules.specs.Step.{step}
use Rattle.rules.specs.declared.model.Answer.{Answer}
use Rattle.rules.specs.declared.model.Call.{Call}
use Rattle.rules.specs.declared.model.Refusal.{Refusal}
use Rattle.std.specs.Prelude.{Option, Some, None}
use Rattle.wait.specs.declared.model.Run.{Run}

-- the first of 1 to n that passes, 0 where none does
unfoldable pub first_of : ℕ → (ℕ → Bool) → ℕ
first_of zero p = 0
first_of (suc n) p = pick (eqb (first_of n p) 0) (pick (p (suc n)) (suc n) 0) (first_of n p)

-- ---- mail turns

unfoldable pub holds_mail : Site → ℕ → ℕ → Bool
holds_mail s a b = not (eqb a b) && ltb 0 (length (s.link a b))

-- "the first such link by sender then receiver": to whom box a's first mail goes, 0 where it has
-- none under way ..
unfoldable pub receiver_of : Site → ℕ → ℕ
receiver_of s a = first_of s.n (holds_mail s a)

-- .. and the first box that has, 0 where no link holds mail
unfoldable pub sender_of : Site → ℕ
sender_of s = first_of s.n (λ a. ltb 0 (receiver_of s a))

-- ---- leader turns

-- the box that leads, 0 where none does
unfoldable pub leader_of : Site → ℕ
leader_of s = first_of s.n (λ c. (s.box c).head.leads)

-- "the leader's own Recover, Collect, Ready, Agree or Finish"; "also .. heard" (Q-12)
abbrev pub leader_calls : ℕ → List Call
leader_calls c =
    Call.Recover c
    ∷ Call.Collect c
    ∷ Call.Ready c
    ∷ Call.Agree c
    ∷ Call.Finish c
    ∷ Call.Heard c
    ∷ []

-- "possible": not refused 3
abbrev pub is_possible : Answer → Bool
is_possible Answer.Done = true
is_possible Answer.Taken = true
is_possible (Answer.Discarded why) = true
is_possible (Answer.Refused why) = not (eqb (refusal_number why) 3)

abbrev pub possible : Site → Call → Bool
possible s d = is_possible (step s d).answer

unfoldable pub first_possible : Site → List Call → Option Call
first_possible s [] = None
first_possible s (d ∷ ds) = pick (possible s d) (Some d) (first_possible s ds)

unfoldable pub leader_turn : Site → Option Call
leader_turn s =
    pick (eqb (leader_of s) 0) None (first_possible s (leader_calls (leader_of s)))

-- ---- the run

-- "while any link holds mail, hand over the head of the first such link ..; otherwise take the
-- leader's own [step]"
unfoldable pub next_turn : Site → Option Call
next_turn s =
    pick (eqb (sender_of s) 0) (leader_turn s)
    (Some (Call.Deliver (sender_of s) (receiver_of s (sender_of s))))

-- what a run answers, and the site that it leaves
pub record Outcome : Type 0 where
  pub answer : Run
  pub next : Site

abbrev pub ended : Site → Run → Outcome
ended s r = record { answer = r; next = s }

-- a refused step "leaves the site and links as that step found them", and is not counted
unfoldable pub go_on : (Site → Outcome) → ℕ → Site → Answer → Site → Outcome
go_on more used s Answer.Done s' = more s'
go_on more used s Answer.Taken s' = more s'
go_on more used s (Answer.Discarded why) s' = more s'
go_on more used s (Answer.Refused why) s' = ended s (Run.Stopped why used)

unfoldable pub take : (Site → Outcome) → ℕ → Site → Option Call → Outcome
take more used s None = ended s (Run.Ran used)
take more used s (Some d) = go_on more used s (step s d).answer (step s d).next

-- "stop when neither is possible, after a refusal, or at a given number of steps": so many are
-- left, so many used
unfoldable pub run_from : ℕ → ℕ → Site → Outcome
run_from zero used s = ended s (Run.Ran used)
run_from (suc left) used s = take (run_from left (suc used)) used s (next_turn s)

-- 1, then "3 if the epoch is odd"
unfoldable pub run_of : Site → ℕ → Outcome
run_of s steps =
    ruled (λ why. ended s (Run.Refused why))
    (need Refusal.Form (form s)
    ∷ need Refusal.Condition (even s.epoch)
    ∷ [])
    (run_from steps 0 s)
