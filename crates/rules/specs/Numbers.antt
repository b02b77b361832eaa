-- The paper's number for every case of every enum, and the tests that compare two cases by it.
use Rattle.std.specs.Prelude.{ℕ, ◌+◌, Bool, true, false, eqb}
use Rattle.rules.specs.Types.{State, Phase, Kind, Cause, Refusal, Answer}

-- "leader flag": on 1, off 0
abbrev pub flag_number : Bool → ℕ
flag_number true = 1
flag_number false = 0

-- "state (Recovering 0, Active 1, Updating 2, UpdatingPrevious 3, Refresh 4)"
abbrev pub state_number : State → ℕ
state_number State.Recovering = 0
state_number State.Active = 1
state_number State.Updating = 2
state_number State.UpdatingPrevious = 3
state_number State.Refresh = 4

-- "phase (Election 0, SendCollect 1, Collect 2, Lease 3, Begin 4, Commit 5)"; "LeaseDone is phase
-- 6" (Q-12)
abbrev pub phase_number : Phase → ℕ
phase_number Phase.Election = 0
phase_number Phase.SendCollect = 1
phase_number Phase.Collect = 2
phase_number Phase.Lease = 3
phase_number Phase.Begin = 4
phase_number Phase.Commit = 5
phase_number Phase.LeaseDone = 6

-- "kind (Collect 1, Last 2, Begin 3, Accept 4, Commit 5, Lease 6)"; LeaseAck "kind 7" (Q-12)
abbrev pub kind_number : Kind → ℕ
kind_number Kind.Collect = 1
kind_number Kind.Last = 2
kind_number Kind.Begin = 3
kind_number Kind.Accept = 4
kind_number Kind.Commit = 5
kind_number Kind.Lease = 6
kind_number Kind.LeaseAck = 7

-- "discarded for one of four causes": by their order
abbrev pub cause_number : Cause → ℕ
cause_number Cause.Role = 1
cause_number Cause.Phase = 2
cause_number Cause.Number = 3
cause_number Cause.Place = 4

-- the table "Refusals and their order"; 9 went with Q-10 and is not given anew
abbrev pub refusal_number : Refusal → ℕ
refusal_number Refusal.Sizes = 13
refusal_number Refusal.Form = 1
refusal_number Refusal.Box = 2
refusal_number Refusal.Frame = 10
refusal_number Refusal.Condition = 3
refusal_number Refusal.Majority = 4
refusal_number Refusal.Epoch = 5
refusal_number Refusal.NewPn = 6
refusal_number Refusal.Book = 7
refusal_number Refusal.Link = 8
refusal_number Refusal.Buffer = 12
refusal_number Refusal.Untrue = 14
refusal_number Refusal.Line = 11

-- an answer as one number: 0 done, 1 to 99 a refusal's, 100 taken, 101 to 104 discarded for a cause
abbrev pub answer_number : Answer → ℕ
answer_number Answer.Done = 0
answer_number Answer.Taken = 100
answer_number (Answer.Discarded why) = 100 + cause_number why
answer_number (Answer.Refused why) = refusal_number why

unfoldable pub in_state : State → State → Bool
in_state s t = eqb (state_number s) (state_number t)

unfoldable pub in_phase : Phase → Phase → Bool
in_phase p q = eqb (phase_number p) (phase_number q)
