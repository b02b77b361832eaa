-- A run is the calls that it makes: what was said of a site is said of it after a run, with these.
use Prim.Native.Nat.{ℕ, zero, suc}
use mathlib.Core.Path.{◌≡◌, refl, sym, ap, ◌∙◌, subst}
use mathlib.Core.Bool.{true, false}
use mathlib.Core.List.{List, ◌∷◌}
use Rattle.rules.specs.Sizes.{even}
use Rattle.rules.specs.Site.{Site}
use Rattle.rules.specs.Form.{form}
use Rattle.rules.specs.Needs.{ruled}
use Rattle.rules.specs.Step.{step}
use Rattle.rules.specs.declared.model.Answer.{Answer}
use Rattle.rules.specs.declared.model.Call.{Call}
use Rattle.rules.specs.declared.model.Refusal.{Refusal}
use Rattle.laws.specs.Frames.{CallFits}
use Rattle.laws.proofs.Logic.{Or, left, right, decide}
use Rattle.wait.specs.Run.{Outcome, ended, next_turn, go_on, take, run_from, run_of}
use Rattle.std.specs.Prelude.{Option, Some, None}
use Rattle.wait.specs.declared.model.Run.{Run}
use Rattle.wait.proofs.RunForm.{next_fits}
use Rattle.wait.proofs.RunLaws.{run-of}
use Rattle.memory.specs.Memory.{site_of}
use Rattle.memory.proofs.LentLaws.{form-readable, form-site}
use Rattle.until.specs.Until.{RunAfter, run_on}
use Rattle.until.proofs.Once as until
use Rattle.said.specs.Said.{Talk, called, retold}
use Rattle.said.specs.Spoken.{Spoken}
use Rattle.said.specs.Spoken as spoken
use Rattle.engine_safety.proofs.Filed.{Holds}
use Rattle.journal_safety.specs.Ran.{said_of, said_next, said_from, said_run}

-- with the engine's own answers
abbrev own : Answer → Answer
own a = a

-- a run in an odd epoch leaves the site
odd : (s : Site) (steps : ℕ) → form s ≡ true → even s.epoch ≡ false
    → run_of s steps ≡ ended s (Run.Refused Refusal.Condition)
unfolding run_of ruled
odd s steps f e = rw (f, e) refl

module _ {n J L : ℕ} where
  went : (steps used : ℕ) (s : Site) (h : Talk) (d : Call) (a : Answer) → CallFits d
      → (step s d).answer ≡ a → Spoken n J L h s
      → ((t : Site) (g : Talk) → Spoken n J L g t
      → Spoken n J L (said_from own steps t g) (run_from steps (suc used) t).next)
      → Spoken n J L (said_of own (said_from own steps) s h d a)
      (go_on (run_from steps (suc used)) used s a (step s d).next).next
  unfolding said_of go_on
  went steps used s h d Answer.Done fits e p more =
      more _ _ (subst (λ a. Spoken n J L (called d a ∷ h) (step s d).next) e
      (spoken.stepped d fits p))
  went steps used s h d Answer.Taken fits e p more =
      more _ _ (subst (λ a. Spoken n J L (called d a ∷ h) (step s d).next) e
      (spoken.stepped d fits p))
  went steps used s h d (Answer.Discarded why) fits e p more =
      more _ _ (subst (λ a. Spoken n J L (called d a ∷ h) (step s d).next) e
      (spoken.stepped d fits p))
  went steps used s h d (Answer.Refused why) fits e p more = p

  next : (steps used : ℕ) (s : Site) (h : Talk) (d : Option Call) → next_turn s ≡ d
      → Spoken n J L h s
      → ((t : Site) (g : Talk) → Spoken n J L g t
      → Spoken n J L (said_from own steps t g) (run_from steps (suc used) t).next)
      → Spoken n J L (said_next own (said_from own steps) s h d)
      (take (run_from steps (suc used)) used s d).next
  unfolding said_next take
  next steps used s h None e p more = p
  next steps used s h (Some d) e p more =
      went steps used s h d (step s d).answer (rw e at (next_fits s)) refl p more

  from : (steps used : ℕ) (s : Site) (h : Talk) → Spoken n J L h s
      → Spoken n J L (said_from own steps s h) (run_from steps used s).next
  unfolding said_from run_from
  from zero used s h p = p
  from (suc steps) used s h p =
      next steps used s h (next_turn s) refl p (λ t g q. from steps (suc used) t g q)

  spoken-run : (steps : ℕ) (s : Site) (h : Talk) → form s ≡ true → Spoken n J L h s
      → Spoken n J L (said_run own steps s h) (run_of s steps).next
  unfolding said_run
  spoken-run steps s h f p = go (decide (even s.epoch))
    where
      go : Or (even s.epoch ≡ true) (even s.epoch ≡ false)
          → Spoken n J L (said_run own steps s h) (run_of s steps).next
      go (left e) = rw (run-of s steps f e, e) (from steps 0 s h p)
      go (right e) = rw (odd s steps f e, e) p

  -- of lent words
  pub holds-ran : {h : Talk} {xs ls xs' ls' : List ℕ} {r : Run} (steps : ℕ)
      → Holds n J L h xs ls → RunAfter (run_on xs ls steps) xs ls xs' ls' r
      → Holds n J L (said_run own steps (site_of xs ls) h) xs' ls'
  unfolding run_on
  holds-ran {h} {xs} {ls} steps was after =
      let here : run_on xs ls steps ≡ run_of (site_of xs ls) steps =
      rw (form-readable xs ls was.form) refl in
      record {
        form = until.form-kept steps was.form after;
        said = subst (Spoken n J L (said_run own steps (site_of xs ls) h))
            (sym (after.site ∙ ap (λ (o : Outcome). o.next) here))
            (spoken-run steps (site_of xs ls) h (form-site xs ls was.form) was.said);
      }

-- ---- with each answer as f has it

module _ {A : Type 0} (f : Answer → A) where
  went-told : (steps : ℕ) (s : Site) (h : Talk) (d : Call) (a : Answer)
      → ((t : Site) (g : Talk)
      → retold f (said_from own steps t g) ≡ said_from f steps t (retold f g))
      → retold f (said_of own (said_from own steps) s h d a)
      ≡ said_of f (said_from f steps) s (retold f h) d a
  unfolding said_of
  went-told steps s h d Answer.Done more = more _ _
  went-told steps s h d Answer.Taken more = more _ _
  went-told steps s h d (Answer.Discarded why) more = more _ _
  went-told steps s h d (Answer.Refused why) more = refl

  next-told : (steps : ℕ) (s : Site) (h : Talk) (d : Option Call)
      → ((t : Site) (g : Talk)
      → retold f (said_from own steps t g) ≡ said_from f steps t (retold f g))
      → retold f (said_next own (said_from own steps) s h d)
      ≡ said_next f (said_from f steps) s (retold f h) d
  unfolding said_next
  next-told steps s h None more = refl
  next-told steps s h (Some d) more = went-told steps s h d (step s d).answer more

  from_told : (steps : ℕ) (s : Site) (h : Talk)
      → retold f (said_from own steps s h) ≡ said_from f steps s (retold f h)
  unfolding said_from
  from_told zero s h = refl
  from_told (suc steps) s h = next-told steps s h (next_turn s) (λ t g. from_told steps t g)

  pub run-told : (steps : ℕ) (s : Site) (h : Talk)
      → retold f (said_run own steps s h) ≡ said_run f steps s (retold f h)
  unfolding said_run
  run-told steps s h = go (decide (even s.epoch))
    where
      go : Or (even s.epoch ≡ true) (even s.epoch ≡ false)
          → retold f (said_run own steps s h) ≡ said_run f steps s (retold f h)
      go (left e) = rw e (from_told steps s h)
      go (right e) = rw e refl
