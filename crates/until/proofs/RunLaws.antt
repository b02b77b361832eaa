-- The run on words by form, by what the code has asked: the epoch's parity, and then its turns.
use Prim.Native.Nat.{ℕ}
use mathlib.Core.Path.{◌≡◌, refl, sym, ap, ◌∙◌, subst}
use mathlib.Core.Bool.{Bool, true, false, not, cond}
use mathlib.Core.List.{List}
use Rattle.words.proofs.TestLaws.{fails, passes}
use Rattle.rules.specs.Sizes.{even}
use Rattle.rules.specs.Form.{form}
use Rattle.rules.specs.declared.model.Refusal.{Refusal}
use Rattle.rules.specs.declared.model.Setting.{Setting}
use Rattle.laws.proofs.Logic.{Or, left, right, decide, both-no, eqb_yes}
use Rattle.rules.specs.declared.model.Call.{Call}
use Rattle.wait.specs.Run.{Outcome, ended, next_turn, run_of}
use Rattle.std.specs.Prelude.{Option, None}
use Rattle.wait.specs.declared.model.Run.{Run}
use Rattle.wait.proofs.RunLaws.{run-of}
use Rattle.memory.specs.Memory.{site_of, readable, memory_form}
use Rattle.memory.specs.After.{setting_at}
use Rattle.memory.proofs.LentLaws.{form-readable, form-site, form_both}
use Rattle.site.proofs.AfterLaws.{need-met, need-not, no_needs}
use Rattle.until.specs.Until.{none_used, RunAfter, FormedRun, run_on, next_of, next_on}
use Rattle.until.specs.Turns.{UsedIs, RanOn}

-- ---- an outcome of the run in the words

pub refused-run : (xs ls : List ℕ) (why : Refusal) (o : Outcome)
    → o ≡ ended (site_of xs ls) (Run.Refused why) → RunAfter o xs ls xs ls (Run.Refused why)
refused-run xs ls why o e = record {
  answer = ap (λ (r : Outcome). r.answer) (sym e);
  site = ap (λ (r : Outcome). r.next) (sym e);
  kept = λ t. (refl, refl);
  past-site = refl;
  past-links = refl;
  site-words = refl;
  links-words = refl;
  readable = λ r. r;
}

none-used : (r : Run) {used : ℕ} → UsedIs r used → none_used r ≡ true → used ≡ 0
none-used (Run.Ran u) e h = sym e ∙ eqb_yes u 0 h
none-used (Run.Stopped why u) e h = sym e ∙ eqb_yes u 0 h
none-used (Run.Refused why) e h = absurd e

module _ {steps : ℕ} {xs ls ys ms : List ℕ} {r : Run} (ran : RanOn steps 0 xs ls ys ms r) where
  ran-after : RunAfter (ended (site_of ys ms) r) xs ls ys ms r
  ran-after = let g = ran.gone in record {
    answer = refl;
    site = refl;
    kept = λ h. g.kept (none-used r ran.counts h);
    past-site = rw (g.n, g.J) g.past-site;
    past-links = rw (g.n, g.J, g.L) g.past-links;
    site-words = g.site-words;
    links-words = g.links-words;
    readable = λ h. form-readable ys ms g.form;
  }

  pub formed-run : memory_form xs ls ≡ true → even (site_of xs ls).epoch ≡ true
      → FormedRun steps xs ls ys ms r
  formed-run f e = record {
    after = subst (λ (o : Outcome). RunAfter o xs ls ys ms r)
        (sym (run-of (site_of xs ls) steps (form-site xs ls f) e ∙ ran.gone.same ∙ ran.ends))
        ran-after;
    form = ran.gone.form;
  }

-- ---- the parity, t being what the code has asked

module _ (xs ls : List ℕ) {s : Setting} (known : s ≡ setting_at xs 0) {t : Bool}
    (asked : t ≡ even s.epoch) where
  parity : t ≡ even (site_of xs ls).epoch
  unfolding site_of
  parity = asked ∙ ap (λ (k : Setting). even k.epoch) known

  pub is-even : not t ≡ false → even (site_of xs ls).epoch ≡ true
  is-even h = passes parity h

  module _ (f : memory_form xs ls ≡ true) where
    pub odd-run : not t ≡ true → (steps : ℕ)
        → FormedRun steps xs ls xs ls (Run.Refused Refusal.Condition)
    unfolding run_of
    odd-run h steps = record {
      after = refused-run xs ls Refusal.Condition _
          (need-met _ _ _ _ _ (form-site xs ls f) ∙ need-not _ _ _ _ _ (fails parity h));
      form = f;
    }

    pub odd-next : not t ≡ true → None ≡ next_of (site_of xs ls)
    unfolding next_of
    odd-next h =
        sym (need-met _ _ _ _ _ (form-site xs ls f) ∙ need-not _ _ _ _ _ (fails parity h))

    pub even-next : not t ≡ false → {n : Option Call} → n ≡ next_turn (site_of xs ls)
        → n ≡ next_of (site_of xs ls)
    unfolding next_of
    even-next h e =
        e ∙ sym (need-met _ _ _ _ _ (form-site xs ls f) ∙ need-met _ _ _ _ _ (is-even h)
        ∙ no_needs _ _)

-- ---- any words

module _ (xs ls : List ℕ) where
  pub run-formed : memory_form xs ls ≡ true → {steps : ℕ} {ys ms : List ℕ} {r : Run}
      → FormedRun steps xs ls ys ms r → RunAfter (run_on xs ls steps) xs ls ys ms r
  unfolding run_on
  run-formed f ran = rw (form-readable xs ls f) ran.after

  pub next-formed : memory_form xs ls ≡ true → next_of (site_of xs ls) ≡ next_on xs ls
  unfolding next_on
  next-formed f = rw (form-readable xs ls f) refl

  module _ (f : memory_form xs ls ≡ false) where
    -- what is asked of a site that is not by form has the same answer
    unformed {ℓ} : {A : Type ℓ} (asked other : A) → (form (site_of xs ls) ≡ false → asked ≡ other)
        → cond (readable xs ls) asked other ≡ other
    unformed {A = A} asked other refuses =
        go (decide (readable xs ls)) (decide (form (site_of xs ls)))
      where
        go : Or (readable xs ls ≡ true) (readable xs ls ≡ false)
            → Or (form (site_of xs ls) ≡ true) (form (site_of xs ls) ≡ false)
            → cond (readable xs ls) asked other ≡ other
        go (left r) (left s) = absurd (both-no (form_both xs ls r s) f)
        go (left r) (right s) = rw r (refuses s)
        go (right r) s = rw r refl

    pub unformed-run : (steps : ℕ)
        → RunAfter (run_on xs ls steps) xs ls xs ls (Run.Refused Refusal.Form)
    unfolding run_on run_of
    unformed-run steps =
        refused-run xs ls Refusal.Form _ (unformed _ _ (λ g. need-not _ _ _ _ _ g))

    pub unformed-next : None ≡ next_on xs ls
    unfolding next_on next_of
    unformed-next = sym (unformed _ _ (λ g. need-not _ _ _ _ _ g))
