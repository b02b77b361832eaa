-- How soon the scale is usable: a run that goes on step by step ends as promised.
use Prim.Native.Nat.{ℕ, ◌≤◌, ◌<◌}
use mathlib.Core.Path.{◌≡◌, sym, ap, ◌∙◌, subst}
use mathlib.Core.Bool.{true}
use native.Mathlib.Omega.{arith}
use lib.Count.{ones}
use Rattle.rules.specs.Site.{Site, is_box}
use Rattle.rules.specs.Step.{step}
use Rattle.laws.proofs.Types.{Answer, Call}
use Rattle.laws.proofs.Logic.{Or, left, right}
use Rattle.laws.proofs.FormLaws.{form-made}
use Rattle.wait.specs.Run.{Outcome, ended, next_turn, run_from, run_of}
use Rattle.wait.specs.Wait.{Usable, most_steps, Waits, SoonUsable}
use Rattle.wait.specs.declared.model.Run.{Run}
use Rattle.wait.proofs.Stages.{pn, others#}
use Rattle.wait.proofs.Going.{Going, Goes_on, left_to_do, Ends}
use Rattle.wait.proofs.OneStep.{one-step}
use Rattle.wait.proofs.RunLaws.{run-of, run-over, run_ends}
use Rattle.wait.proofs.Start.{started, elected-formed, elected-even, alone?, going, left-of}
use Rattle.wait.proofs.Start.{over, usable, few-steps}

-- what is left falls at each step of a run that is under way
module _ (progress : (c : ℕ) (s : Site) → Going c s
    → Goes_on (Going c) (left_to_do c) (Usable c) s) where
  waits : (s : Site) (c steps : ℕ) → (step s (Call.Elect c)).answer ≡ Answer.Done → 8 ≤ s.L
      → ((b : ℕ) → is_box s.n b ≡ true → pn (s.box b) ≤ 999999800)
      → most_steps (others# s) ≤ steps → Waits s c steps
  waits s c steps done room low enough = go (alone? s c done)
    where
      t : Site
      t = (step s (Call.Elect c)).next

      is-run : run_of t steps ≡ run_from steps 0 t
      is-run =
          run-of t steps (form-made (elected-formed s c done)) (elected-even s c done)

      go : Or (ones s.present ≡ 1) (1 < ones s.present) → Waits s c steps
      go (left h) =
          let r : run_of t steps ≡ ended t (Run.Ran 0) =
          is-run ∙ run-over steps 0 t (over s c done h) in
          record {
            used = 0;
            few = omega arith;
            ran = ap (λ (o : Outcome). o.answer) r;
            over = ap (λ (o : Outcome). next_turn o.next) r ∙ over s c done h;
            usable =
                subst (λ (o : Outcome). Usable c o.next) (sym r) (usable s c done h);
          }
      go (right h) =
          let l : left_to_do c t ≡ most_steps (others# s) = left-of s c done h in
          let r : Ends (Usable c) steps 0 (left_to_do c t) t =
          run_ends (Going c) (left_to_do c) (Usable c) (progress c) steps 0 t
          (going s c done room h low) (omega (arith, l, enough)) in
          record {
            used = r.steps;
            few = omega (arith, r.few, l);
            ran = ap (λ (o : Outcome). o.answer) is-run ∙ r.ran;
            over = ap (λ (o : Outcome). next_turn o.next) is-run ∙ r.over;
            usable = subst (λ (o : Outcome). Usable c o.next) (sym is-run) r.reached;
          }

  pub soon : SoonUsable
  soon = record {
    soon = waits;
    enough = λ s c done. few-steps s (started s c done).before;
    one-step = one-step;
  }
