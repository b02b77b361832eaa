-- How soon the scale is usable after an election, in statements alone (Q-9).
use Rattle.std.specs.Prelude.{ℕ, zero, suc, ◌+◌, ◌-◌, ◌*◌, ◌≤◌, ◌<◌, ◌≡◌, true, [], length, get_or}
use Rattle.std.specs.Int.Count.{ones}
use Rattle.rules.specs.Sets.{has}
use Rattle.rules.specs.Site.{Site, is_box, is_link}
use Rattle.rules.specs.Form.{form}
use Rattle.rules.specs.Step.{step}
use Rattle.rules.specs.declared.model.Answer.{Answer}
use Rattle.rules.specs.declared.model.Call.{Call}
use Rattle.rules.specs.declared.model.State.{State}
use Rattle.wait.specs.Run.{leader_calls, possible, next_turn, run_of}
use Rattle.std.specs.Prelude.{None}
use Rattle.wait.specs.declared.model.Run.{Run}

-- "with the leader Active, all links empty, and every present box Active at the leader's last"
pub record Usable (c : ℕ) (s : Site) : Type 0 where
  pub leads : (s.box c).head.leads ≡ true
  pub leader : (s.box c).head.state ≡ State.Active
  pub active : (b : ℕ) → is_box s.n b ≡ true → has s.present b ≡ true
      → (s.box b).head.state ≡ State.Active
  pub last : (b : ℕ) → is_box s.n b ≡ true → has s.present b ≡ true
      → (s.box b).head.kept.last ≡ (s.box c).head.kept.last
  pub empty : (a b : ℕ) → is_link s.n a b ≡ true → s.link a b ≡ []

-- the most steps where k others are present: 0, 18, 42, 84, 150
unfoldable pub most_steps : ℕ → ℕ
most_steps zero = 0
most_steps (suc k) = 1 + (k + 2) * (1 + (k + 1) * (k + 3)) + (4 + 5 * (k + 1))

-- a run with so many steps allowed, "started just after Elect" of box c on the site s
pub record Waits (s : Site) (c steps : ℕ) : Type 0 where
  pub used : ℕ
  -- "it ends within them": nothing stops it, and nothing is left to do
  pub few : used ≤ most_steps (ones s.present - 1)
  pub ran : (run_of (step s (Call.Elect c)).next steps).answer ≡ Run.Ran used
  pub over : next_turn (run_of (step s (Call.Elect c)).next steps).next ≡ None
  pub usable : Usable c (run_of (step s (Call.Elect c)).next steps).next

-- the leader's own step at place i of the list is possible
abbrev pub PossibleAt : Site → ℕ → ℕ → Type 0
PossibleAt s c i =
    (i < length (leader_calls c)) × (possible s (get_or (leader_calls c) i (Call.Recover c)) ≡ true)

-- of every site on which an Elect is done: such a site is by form, and one that is reached is one
pub record SoonUsable : Type 0 where
  pub soon : (s : Site) (c steps : ℕ) → (step s (Call.Elect c)).answer ≡ Answer.Done
      → 8 ≤ s.L
      → ((b : ℕ) → is_box s.n b ≡ true → (s.box b).head.kept.pn ≤ 999999800)
      → most_steps (ones s.present - 1) ≤ steps → Waits s c steps
  -- "and 200 steps allowed": five boxes need fewer
  pub enough : (s : Site) (c : ℕ) → (step s (Call.Elect c)).answer ≡ Answer.Done
      → most_steps (ones s.present - 1) ≤ 150
  -- at most one of a box's steps as a leader is possible
  pub one-step : (s : Site) (c i j : ℕ) → form s ≡ true → is_box s.n c ≡ true
      → PossibleAt s c i → PossibleAt s c j → i ≡ j
