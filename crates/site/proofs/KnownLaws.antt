-- What the code knows at a call: the words are by form, s is what box c knows of them, and c is a
-- box of theirs.
use Prim.Native.Nat.{ℕ, ◌≤◌}
use mathlib.Core.Path.{◌≡◌, refl, sym, ap, ◌∙◌}
use mathlib.Core.Bool.{Bool, true, false, not}
use mathlib.Core.List.{List}
use native.Mathlib.Omega.{arith}
use lib.ListN.{length, get_or}
use Rattle.words.proofs.TestLaws.{fails, passes}
use Rattle.rules.specs.Sizes.{most_boxes, most_epoch}
use Rattle.rules.specs.Sets.{has}
use Rattle.rules.specs.Site.{is_box}
use Rattle.rules.specs.Step.{step}
use Rattle.rules.specs.declared.model.Answer.{Answer}
use Rattle.rules.specs.declared.model.Setting.{Setting}
use Rattle.rules.specs.declared.model.Verdict.{Verdict}
use Rattle.laws.proofs.Logic.{In}
use Rattle.laws.proofs.SetLaws.{set-small, set-up}
use Rattle.laws.proofs.FormLaws.{Formed, form-says, is-box}
use Rattle.memory.specs.Memory.{site_of, memory_form, general_words}
use Rattle.memory.specs.After.{setting_at, GeneralLent, RowsLent, LinksLent}
use Rattle.memory.proofs.LentLaws.{form-site, form-readable, readable-rows, readable-links}
use Rattle.site.specs.Calls.{presence_call, presence_needs, present_then}
use Rattle.site.specs.Carry.{Knows}
use Rattle.site.specs.Entries.{After}
use Rattle.site.specs.General.{Presented}
use Rattle.site.specs.Verdicts.{verdict_of}
use Rattle.site.specs.declared.presence.Presence.{Presence}
use Rattle.site.proofs.CallLaws.{verdict-go, verdict_discard, presence-needs}
use Rattle.site.proofs.CallAfter.{needs_refused, presented-after}

module _ (xs ls : List ℕ) (f : memory_form xs ls ≡ true) where
  pub formed : Formed (site_of xs ls)
  formed = form-says (form-site xs ls f)

  pub five-words : general_words ≤ length xs
  five-words = omega (arith, (readable-rows xs ls 0 (form-readable xs ls f)).words)

  -- the general words fit 32 bits
  pub general-lent : GeneralLent xs
  unfolding site_of
  general-lent =
      let k = formed in
      let w : get_or xs 4 0 ≤ 31 = set-small (get_or xs 4 0)
      (set-up (get_or xs 0 0) most_boxes (get_or xs 4 0) k.sizes.few-boxes k.present) in
      record {
        words = five-words;
        n = omega (arith, k.sizes.few-boxes);
        j = omega (arith, k.sizes.few-loads);
        l = omega (arith, k.sizes.few-mails);
        epoch = omega (arith, k.few_epochs);
        present = omega arith;
      }

pub knows-of : {s : Setting} {xs ls : List ℕ} → memory_form xs ls ≡ true → (c : ℕ)
    → s ≡ setting_at xs c → Knows s xs ls
knows-of f c e = rw e (record { form = f; setting = refl })

module _ {s : Setting} {xs ls : List ℕ} (k : Knows s xs ls) where
  pub rows-lent : RowsLent s xs
  rows-lent = rw k.setting (readable-rows xs ls s.me (form-readable xs ls k.form))

  pub links-lent : LinksLent s ls
  links-lent = rw k.setting (readable-links xs ls s.me (form-readable xs ls k.form))

  pub epoch-most : s.epoch ≤ most_epoch
  unfolding site_of
  epoch-most = rw k.setting (formed xs ls k.form).few_epochs

  pub boxes-most : s.n ≤ most_boxes
  unfolding site_of
  boxes-most = rw k.setting (formed xs ls k.form).sizes.few-boxes

-- ---- a test of the box number

pub not-box : {s : Setting} (xs : List ℕ) {c : ℕ} {r : Bool} → s ≡ setting_at xs c
    → r ≡ is_box s.n c → not r ≡ true → is_box (get_or xs 0 0) c ≡ false
not-box xs {c} e p q = ap (λ (k : Setting). is_box k.n c) (sym e) ∙ fails p q

pub record AtBox (xs ls : List ℕ) (c : ℕ) (s : Setting) : Type 0 where
  pub form : memory_form xs ls ≡ true
  pub setting : s ≡ setting_at xs c
  pub box : is_box (get_or xs 0 0) c ≡ true

pub at-box : {xs ls : List ℕ} {c : ℕ} {s : Setting} {r : Bool} → memory_form xs ls ≡ true
    → s ≡ setting_at xs c → r ≡ is_box s.n c → not r ≡ false → AtBox xs ls c s
at-box {c = c} f e p q = record {
  form = f;
  setting = e;
  box = ap (λ (k : Setting). is_box k.n c) (sym e) ∙ passes p q;
}

module _ {xs ls : List ℕ} {c : ℕ} {s : Setting} (k : AtBox xs ls c s) where
  pub knows : Knows s xs ls
  knows = knows-of k.form c k.setting

  pub box-few : c ≤ most_boxes
  unfolding site_of
  box-few =
      let h : In c (get_or xs 0 0) = is-box k.box in
      omega (arith, (formed xs ls k.form).sizes.few-boxes, h.1)

  -- whether it is present
  pub here : {r : Bool} → r ≡ has s.present c → r ≡ has s.present s.me
  here h = h ∙ (λ t. has s.present (sym (ap (λ (j : Setting). j.me) k.setting) t))

  -- a verdict on presence carried out
  pub presence_known : (what : Presence) {v : Verdict} {w : ℕ} {xs' : List ℕ} {a : Answer}
      → v ≡ verdict_of (presence_needs what s) → w ≡ present_then what s
      → Presented v s.epoch w xs xs' a
      → After (step (site_of xs ls) (presence_call what c)) xs ls xs' ls a
  unfolding site_of
  presence_known what {v} {w} {xs'} {a} q e done =
      go v (rw k.setting at q) (rw (e, k.setting) at done)
    where
      go : (v : Verdict) → v ≡ verdict_of (presence_needs what (setting_at xs c))
          → Presented v (get_or xs 3 0) (present_then what (setting_at xs c)) xs xs' a
          → After (step (site_of xs ls) (presence_call what c)) xs ls xs' ls a
      go Verdict.Go h d =
          rw (d.0, d.1)
          (presented-after xs ls k.form _ (present_then what (setting_at xs c))
          (presence-needs xs ls k.form c what k.box ∙ verdict-go _ _ _ (sym h)))
      go (Verdict.Discard why) h d = absurd (verdict_discard _ why (sym h))
      go (Verdict.Refuse why) h d =
          rw (d.0, d.1)
          (needs_refused xs ls k.form _ _ _ _ why
          (presence-needs xs ls k.form c what k.box) refl (sym h))
