-- The site's own calls: elections, stops, returns, timeouts, mail that is lost or repeated.
use Prim.Native.Nat.{ℕ, ◌+◌, ◌*◌, ◌≤◌}
use mathlib.Core.Path.{◌≡◌, refl, sym, ap, ◌∙◌, subst}
use mathlib.Core.Bool.{true}
use mathlib.Core.List.{List, []}
use native.Mathlib.Omega.{arith}
use lib.ListN.{length, set}
use Rattle.rules.specs.Box.{Box, Letter}
use Rattle.rules.specs.Site.{Site, Outcome, relinked}
use Rattle.rules.specs.Needs.{Need, ruled}
use Rattle.rules.specs.Step.{refused, did, elect, presented, risen}
use Rattle.rules.specs.declared.model.Answer.{Answer}
use Rattle.rules.specs.declared.model.Refusal.{Refusal}
use Rattle.rules.specs.declared.model.Setting.{Setting}
use Rattle.rules.specs.declared.model.Verdict.{Verdict}
use Rattle.laws.proofs.Logic.{true≠false}
use Rattle.laws.proofs.StepLaws.{changed}
use Rattle.memory.specs.Memory.{past_site, past_links, site_of, readable, general_words}
use Rattle.row.specs.Row.{row_width}
use Rattle.memory.specs.Memory.{memory_form}
use Rattle.memory.specs.After.{setting_at, links_by, RowsPut, LinksPut}
use Rattle.memory.proofs.LentLaws.{form-readable, setting_same, readable-rows, readable-made}
use Rattle.site.specs.General.{general_put, with_general}
use Rattle.site.proofs.GeneralLaws.{general-length, general-past, general-put}
use Rattle.site.proofs.GeneralLaws.{general-readable}
use Rattle.site.specs.Entries.{After}
use Rattle.site.specs.Verdicts.{verdict_of}
use Rattle.site.proofs.AfterLaws.{refused-after, changed-after, rows_same, links-same}
use Rattle.site.proofs.AfterLaws.{site-changed}
use Rattle.site.proofs.CallLaws.{verdict_refuse}

module _ (xs ls : List ℕ) (f : memory_form xs ls ≡ true) where
  abbrev s : Site
  s = site_of xs ls

  abbrev at : ℕ → Setting
  at c = setting_at xs c

  -- a need fails
  pub needs_refused : (o r : Outcome) (ks : List Need) (v : Verdict) (why : Refusal)
      → o ≡ ruled (refused s) ks r
      → v ≡ verdict_of ks → v ≡ Verdict.Refuse why → After o xs ls xs ls (Answer.Refused why)
  needs_refused o r ks v why e p q =
      refused-after xs ls why o (e ∙ verdict_refuse (refused s) r ks why (sym p ∙ q))

  five : general_words ≤ length xs
  five = omega (arith, (readable-rows xs ls 0 (form-readable xs ls f)).words)

  -- ---- the epoch and the present set

  -- where the rows and the links hold what a site of other boxes and links has
  general-after : (epoch present c : ℕ) {f : ℕ → Box} {g : ℕ → ℕ → List Letter} (o : Outcome)
      {xs' ls' : List ℕ} → o ≡ did (with_general epoch present (changed s f g))
      → RowsPut (at c) f xs xs' → LinksPut (at c) g ls ls'
      → After o xs ls (general_put epoch present xs') ls' Answer.Done
  unfolding site_of
  general-after epoch present c o {xs'} {ls'} e rows links = record {
    answer = ap (λ (r : Outcome). r.answer) (sym e);
    site =
        general-put xs' epoch present ls' (omega (arith, five, rows.words))
        ∙ ap (with_general epoch present)
        (site-changed xs ls xs' ls' c _ _ rows.general rows.boxes links.links)
        ∙ ap (λ (r : Outcome). r.next) (sym e);
    kept = λ t. absurd (true≠false (sym t));
    past-site = general-past xs' _ _ (o.next.n * row_width o.next.J)
        ∙ subst (λ (p : Outcome).
        past_site p.next.n p.next.J xs' ≡ past_site p.next.n p.next.J xs) (sym e)
        rows.past;
    past-links = subst (λ (p : Outcome).
        past_links p.next.n p.next.J p.next.L ls'
        ≡ past_links p.next.n p.next.J p.next.L ls) (sym e) links.past;
    site-words = general-length xs' _ _ ∙ rows.words;
    links-words = links.words;
    readable = λ h.
        general-readable xs' epoch present ls'
        (readable-made xs' ls' c
        (rw (setting_same xs xs' c rows.general) rows.lent)
        (rw (setting_same xs xs' c rows.general) links.lent));
  }

  -- presence is w, and the epoch has risen
  pub presented-after : (o : Outcome) (w : ℕ) → o ≡ did (presented s w)
      → After o xs ls (general_put (risen s.epoch) w xs) ls Answer.Done
  unfolding presented site_of
  presented-after o w e =
      let ok = form-readable xs ls f in
      general-after (risen s.epoch) w 0 o e (rows_same xs ls 0 ok) (links-same xs ls 0 ok)

  -- an election
  pub elected-after : (c : ℕ) (o : Outcome) {xs' ls' : List ℕ} → o ≡ did (elect s c)
      → RowsPut (at c) (elect s c).box xs xs' → LinksPut (at c) (λ a b. []) ls ls'
      → After o xs ls (general_put (s.epoch + 1) s.present xs') ls' Answer.Done
  unfolding elect site_of
  elected-after c o e rows links = general-after (s.epoch + 1) s.present c o e rows links

  -- ---- one link changed

  pub relinked-after : (g : List Letter → List Letter) (a b : ℕ) (o : Outcome) (ls' : List ℕ)
      → o ≡ did (relinked g s a b) → LinksPut (at b) (links_by g (at b) a b ls) ls ls'
      → After o xs ls xs ls' Answer.Done
  unfolding site_of
  relinked-after g a b o ls' e links =
      changed-after xs ls xs ls' b _ _ _ Answer.Done e refl
      (rows_same xs ls b (form-readable xs ls f)) links
