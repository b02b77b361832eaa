-- A run under way: what holds of the whole site at each of its steps, what it does next, and what
-- is left to do.
use Prim.Native.Nat.{ℕ, zero, suc, ◌+◌, ◌≤◌, ◌<◌}
use mathlib.Core.Path.{◌≡◌}
use mathlib.Core.Bool.{Bool, true, false, ◌&&◌, cond}
use mathlib.Core.List.{List, [], ◌∷◌}
use lib.Dec.{ltb}
use Rattle.rules.specs.Answers.{is_refusal}
use Rattle.rules.specs.Sets.{has, without}
use Rattle.rules.specs.Every.{tally}
use Rattle.rules.specs.Box.{Letter}
use Rattle.rules.specs.Site.{Site}
use Rattle.rules.specs.Step.{step}
use Rattle.laws.proofs.Types.{Act, Answer, Call, Phase, State}
use Rattle.laws.proofs.Logic.{In, Or}
use Rattle.laws.proofs.FormLaws.{Formed}
use Rattle.wait.specs.Run.{leader_turn, next_turn, run_from}
use Rattle.std.specs.Prelude.{Some, None}
use Rattle.wait.specs.declared.model.Run.{Run}
use Rattle.wait.proofs.Stages.{Time, Other, Between, Leading, StepOf, pn, phase, state}
use Rattle.wait.proofs.Stages.{others#, load, ahead_of}

-- ---- the site at each step

pub record Going (c : ℕ) (s : Site) : Type 0 where
  pub formed : Formed s
  pub time : Time s c
  pub leads : (s.box c).head.leads ≡ true
  pub leading : Leading s c (s.box c)
  pub top : pn (s.box c) ≤ 999999900
  pub promises : (b : ℕ) → Other s c b
      → Or (pn (s.box b) ≤ pn (s.box c)) (pn (s.box b) ≤ 999999800)
  pub between : (b : ℕ) → Other s c b
      → Between s (s.box c) b (s.box b) (s.link c b) (s.link b c)
  -- no mail is on any other link
  pub elsewhere : (a b : ℕ) → In a s.n → In b s.n → (a ≡ b → ⊥)
      → (a ≡ c → Other s c b → ⊥) → (b ≡ c → Other s c a → ⊥) → s.link a b ≡ []

-- ---- what is left to do

-- the sum of f over 1 to n
unfoldable pub sum : ℕ → (ℕ → ℕ) → ℕ
sum zero f = 0
sum (suc n) f = f (suc n) + sum n f

abbrev pub is_other : Site → ℕ → ℕ → Bool
is_other s c b = has (without s.present c) b

-- others that have promised more than the leader
abbrev pub above# : Site → ℕ → ℕ
above# s c = tally s.n (λ b. is_other s c b && ltb (pn (s.box c)) (pn (s.box b)))

-- what is under way between the leader and box b
abbrev pub under-way : Site → ℕ → ℕ → ℕ
under-way s c b =
    cond (is_other s c b) (load (others# s) (s.link c b) + load (others# s) (s.link b c)) 0

unfoldable pub left_to_do : ℕ → Site → ℕ
left_to_do c s =
    ahead_of (others# s) (above# s c) (phase (s.box c)) + sum s.n (under-way s c)

-- ---- what comes next

pub data Ahead (s : Site) : Type 0 where
  mail : (a b : ℕ) (y : Letter) (ys : List Letter) → In a s.n → In b s.n → (a ≡ b → ⊥)
      → s.link a b ≡ y ∷ ys → next_turn s ≡ Some (Call.Deliver a b) → Ahead s
  quiet : ((a b : ℕ) → In a s.n → In b s.n → (a ≡ b → ⊥) → s.link a b ≡ [])
      → next_turn s ≡ leader_turn s → Ahead s

pub record Firsts : Type 0 where
  pub look : (s : Site) → Ahead s
  -- the leader's step of its phase, where it is done
  pub leader : (s : Site) (c : ℕ) (a : Act) (d : Call) → Formed s → In c s.n
      → (s.box c).head.leads ≡ true → StepOf c (phase (s.box c)) a d
      → (step s d).answer ≡ Answer.Done → leader_turn s ≡ Some d
  -- no step where the lease is done, or the leader is alone
  pub none : (s : Site) (c : ℕ) → Formed s → In c s.n → (s.box c).head.leads ≡ true
      → Or (phase (s.box c) ≡ Phase.LeaseDone)
      ((phase (s.box c) ≡ Phase.Election) × (state (s.box c) ≡ State.Active))
      → leader_turn s ≡ None

-- what a step of a run comes to, where P holds at each and f is what is left
pub data Goes_on (P : Site → Type 0) (f : Site → ℕ) (Q : Site → Type 0) (s : Site) : Type 0 where
  over : next_turn s ≡ None → Q s → Goes_on P f Q s
  on : (d : Call) → next_turn s ≡ Some d → is_refusal (step s d).answer ≡ false
      → P (step s d).next → f (step s d).next < f s → Goes_on P f Q s

-- how a run ends that has so many steps left and has used some
pub record Ends (Q : Site → Type 0) (left used most : ℕ) (s : Site) : Type 0 where
  pub steps : ℕ
  pub few : steps ≤ used + most
  pub ran : (run_from left used s).answer ≡ Run.Ran steps
  pub over : next_turn (run_from left used s).next ≡ None
  pub reached : Q (run_from left used s).next
