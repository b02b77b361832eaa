-- How soon the scale is usable, of the public calls: an Elect, and then a run (Q-9).
use Rattle.std.specs.Prelude.{ℕ, ◌-◌, ◌≤◌, ◌≡◌, true, List}
use Rattle.std.specs.Int.Count.{ones}
use Rattle.rules.specs.Site.{is_box}
use Rattle.rules.specs.declared.model.Answer.{Answer}
use Rattle.rules.specs.declared.model.Call.{Call}
use Rattle.wait.specs.Wait.{Usable, most_steps}
use Rattle.std.specs.Prelude.{None}
use Rattle.wait.specs.declared.model.Run.{Run}
use Rattle.memory.specs.Memory.{site_of}
use Rattle.site.specs.Entries.{After, step_on}
use Rattle.until.specs.Until.{RunAfter, run_on, next_on}

-- "started just after Elect .., with L at least 8, promised numbers at most 999,999,800": on the
-- words xs and ls the call Elect of box c was answered Done, and has left ys and ms
pub record Started (xs ls ys ms : List ℕ) (c : ℕ) : Type 0 where
  pub elected : After (step_on xs ls (Call.Elect c)) xs ls ys ms Answer.Done
  pub room : 8 ≤ (site_of xs ls).L
  pub numbers : (b : ℕ) → is_box (site_of xs ls).n b ≡ true
      → ((site_of xs ls).box b).head.kept.pn ≤ 999999800

-- the most steps of a run from there
abbrev pub most : List ℕ → List ℕ → ℕ
most xs ls = most_steps (ones (site_of xs ls).present - 1)

-- "it ends within them": r was answered, and the words zs and ns hold a site that is usable
pub record EndsUsable (xs ls zs ns : List ℕ) (c : ℕ) (r : Run) : Type 0 where
  pub used : ℕ
  pub few : used ≤ most xs ls
  pub ran : r ≡ Run.Ran used
  pub over : next_on zs ns ≡ None
  pub usable : Usable c (site_of zs ns)

-- of all words on which an Elect is done
pub record SoonUsableOn : Type 0 where
  pub soon : (xs ls ys ms zs ns : List ℕ) (c steps : ℕ) (r : Run) → Started xs ls ys ms c
      → most xs ls ≤ steps → RunAfter (run_on ys ms steps) ys ms zs ns r
      → EndsUsable xs ls zs ns c r
  -- "and 200 steps allowed"
  pub two_hundred : (xs ls ys ms zs ns : List ℕ) (c : ℕ) (r : Run) → Started xs ls ys ms c
      → RunAfter (run_on ys ms 200) ys ms zs ns r → EndsUsable xs ls zs ns c r
