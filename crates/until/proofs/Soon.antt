-- The public entry from the model's theorem: what a run on the words comes to is the run of the
-- site that they hold.
use Prim.Native.Nat.{ℕ, ◌≤◌}
use mathlib.Core.Path.{◌≡◌, refl, sym, ap, ◌∙◌, subst}
use mathlib.Core.Bool.{true, false}
use mathlib.Core.List.{List}
use native.Mathlib.Omega.{arith}
use Rattle.rules.specs.Answers.{is_refusal}
use Rattle.rules.specs.Site.{Site, Outcome}
use Rattle.rules.specs.Step.{step}
use Rattle.rules.specs.declared.model.Answer.{Answer}
use Rattle.rules.specs.declared.model.Call.{Call}
use Rattle.laws.proofs.Logic.{Or, left, right, decide, both-no, cond_elim}
use Rattle.laws.proofs.StepLaws.{by_needs}
use Rattle.wait.specs.Run.{Outcome as Ending, next_turn, run_of}
use Rattle.wait.specs.Wait.{Usable, SoonUsable}
use Rattle.std.specs.Prelude.{Option, None}
use Rattle.wait.specs.declared.model.Run.{Run}
use Rattle.wait.proofs.Waited.{soon-usable}
use Rattle.memory.specs.Memory.{site_of, readable}
use Rattle.site.specs.Entries.{step_on}
use Rattle.until.specs.Until.{RunAfter, run_on, next_of, next_on}
use Rattle.until.specs.Soon.{Started, most, EndsUsable, SoonUsableOn}

-- words on which a call is done can be read
done-read : (xs ls : List ℕ) (d : Call) → (step_on xs ls d).answer ≡ Answer.Done
    → readable xs ls ≡ true
unfolding step_on
done-read xs ls d e = go (decide (readable xs ls))
  where
    go : Or (readable xs ls ≡ true) (readable xs ls ≡ false) → readable xs ls ≡ true
    go (left r) = r
    go (right r) = absurd (both-no {b = is_refusal (step_on xs ls d).answer} (rw r refl)
        (ap is_refusal e))

step-read : (xs ls : List ℕ) (d : Call) → readable xs ls ≡ true
    → step_on xs ls d ≡ step (site_of xs ls) d
unfolding step_on
step-read xs ls d r = rw r refl

run-read : (xs ls : List ℕ) (steps : ℕ) → readable xs ls ≡ true
    → run_on xs ls steps ≡ run_of (site_of xs ls) steps
unfolding run_on
run-read xs ls steps r = rw r refl

-- where the site has no turn, nor have its words
no-turn : (xs ls : List ℕ) → next_turn (site_of xs ls) ≡ None → next_on xs ls ≡ None
unfolding next_on next_of
no-turn xs ls e =
    cond_elim (λ (n : Option Call). n ≡ None) (readable xs ls)
    (λ r. by_needs (λ (n : Option Call). n ≡ None) (λ why. None) _ _ (λ why. refl)
    (λ p. e))
    (λ r. refl)

module _ (model : SoonUsable) {xs ls ys ms : List ℕ} {c : ℕ} (start : Started xs ls ys ms c) where
  abbrev s : Site
  s = site_of xs ls

  read : readable xs ls ≡ true
  read = done-read xs ls (Call.Elect c) (sym start.elected.answer)

  is-step : step_on xs ls (Call.Elect c) ≡ step s (Call.Elect c)
  is-step = step-read xs ls (Call.Elect c) read

  done : (step s (Call.Elect c)).answer ≡ Answer.Done
  done = sym (start.elected.answer ∙ ap (λ (o : Outcome). o.answer) is-step)

  elected : site_of ys ms ≡ (step s (Call.Elect c)).next
  elected = start.elected.site ∙ ap (λ (o : Outcome). o.next) is-step

  ends : (steps : ℕ) (zs ns : List ℕ) {r : Run} → most xs ls ≤ steps
      → RunAfter (run_on ys ms steps) ys ms zs ns r → EndsUsable xs ls zs ns c r
  ends steps zs ns {r} enough after =
      let w = model.soon s c steps done start.room start.numbers enough in
      let is : run_on ys ms steps ≡ run_of (step s (Call.Elect c)).next steps =
      run-read ys ms steps (start.elected.readable read)
      ∙ ap (λ (t : Site). run_of t steps) elected in
      let then : site_of zs ns ≡ (run_of (step s (Call.Elect c)).next steps).next =
      after.site ∙ ap (λ (o : Ending). o.next) is in
      record {
        used = w.used;
        few = w.few;
        ran = after.answer ∙ ap (λ (o : Ending). o.answer) is ∙ w.ran;
        over = no-turn zs ns (ap next_turn then ∙ w.over);
        usable = subst (Usable c) (sym then) w.usable;
      }

  enough-two : most xs ls ≤ 200
  enough-two = omega (arith, model.enough s c done)

-- from the model's theorem ..
soon-on : SoonUsable → SoonUsableOn
soon-on model = record {
  soon = λ xs ls ys ms zs ns c steps r start enough after.
      ends model start steps zs ns enough after;
  two_hundred = λ xs ls ys ms zs ns c r start after.
      ends model start 200 zs ns (enough-two model start) after;
}

-- .. which is proved
pub soon-usable-on : SoonUsableOn
soon-usable-on = soon-on soon-usable
