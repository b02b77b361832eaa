-- An election carried out in the words.
use Prim.Native.Nat.{ℕ, ◌+◌}
use mathlib.Core.Path.{◌≡◌, refl, sym, ap, ◌∙◌}
use mathlib.Core.List.{List, []}
use Rattle.rules.specs.Step.{elect, elect_needs, step}
use Rattle.rules.specs.declared.model.Answer.{Answer}
use Rattle.rules.specs.declared.model.Call.{Call}
use Rattle.rules.specs.declared.model.Setting.{Setting}
use Rattle.rules.specs.declared.model.Verdict.{Verdict}
use Rattle.laws.proofs.FormLaws.{box-made, is-box}
use Rattle.memory.specs.Memory.{site_of}
use Rattle.memory.specs.After.{setting_at, boxes_of, BoxesLent, RowsPut, LinksPut, elected_boxes}
use Rattle.site.specs.Entries.{After}
use Rattle.site.specs.Verdicts.{verdict_of}
use Rattle.site.specs.General.{general_put}
use Rattle.site.specs.Carry.{Knows, ElectIs}
use Rattle.site.proofs.CallLaws.{verdict-go, verdict_discard, elect-needs}
use Rattle.site.proofs.CallAfter.{needs_refused, elected-after}
use Rattle.site.proofs.KnownLaws.{formed, rows-lent, AtBox}

pub boxes-lent : {s : Setting} {xs ls : List ℕ} → Knows s xs ls → BoxesLent s xs
unfolding site_of
boxes-lent {s} {xs} {ls} know = record {
  rows = rows-lent know;
  form = rw know.setting (λ b h. box-made ((formed xs ls know.form).boxes b (is-box h)));
}

-- the election by its verdict
pub elect-known : {xs ls : List ℕ} {c : ℕ} {s : Setting} → AtBox xs ls c s
    → {v : Verdict} {xs' ls' : List ℕ} {a : Answer}
    → v ≡ verdict_of (elect_needs s) → ElectIs v s xs ls xs' ls' a
    → After (step (site_of xs ls) (Call.Elect c)) xs ls xs' ls' a
unfolding site_of elect
elect-known {xs} {ls} {c} {s} k {v} {xs'} {ls'} {a} q done =
    go v (rw k.setting at q) (rw k.setting at done)
  where
    go : (v : Verdict) → v ≡ verdict_of (elect_needs (setting_at xs c))
        → ElectIs v (setting_at xs c) xs ls xs' ls' a
        → After (step (site_of xs ls) (Call.Elect c)) xs ls xs' ls' a
    go Verdict.Go h d =
        rw (d.0, d.1.3)
        (elected-after xs ls k.form c _
        (elect-needs xs ls k.form c k.box ∙ verdict-go _ _ _ (sym h)) d.1.1 d.1.2)
    go (Verdict.Discard why) h d = absurd (verdict_discard _ why (sym h))
    go (Verdict.Refuse why) h d =
        rw (d.0, d.1.0, d.1.1)
        (needs_refused xs ls k.form _ _ _ _ why (elect-needs xs ls k.form c k.box) refl
        (sym h))

-- ---- a verdict on an election, by its case

pub elect-go : (v : Verdict) (s : Setting) (xs ls zs xs' ls' : List ℕ) (e : ℕ) → v ≡ Verdict.Go
    → e ≡ s.epoch + 1
    → RowsPut s (elected_boxes s s.me (boxes_of s xs)) xs zs → LinksPut s (λ x y. []) ls ls'
    → xs' ≡ general_put e s.present zs → ElectIs v s xs ls xs' ls' Answer.Done
elect-go v s xs ls zs xs' ls' e p q rows links put =
    rw p (refl, (zs, rows, links, put ∙ ap (λ (k : ℕ). general_put k s.present zs) q))
