-- Who has not answered a lease, by the words of a row.
use Rattle.std.specs.Prelude.{Result, Err}
use Prim.Native.Nat.{ℕ}
use mathlib.Core.Path.{◌≡◌, refl, sym, ap, ◌∙◌}
use mathlib.Core.Bool.{true, false}
use mathlib.Core.List.{List}
use Rattle.rules.specs.Site.{is_box}
use Rattle.rules.specs.Box.{Box}
use Rattle.rules.specs.Unheard.{unheard_by, unheard}
use Rattle.rules.specs.declared.model.BoxState.{BoxState}
use Rattle.rules.specs.declared.model.Refusal.{Refusal}
use Rattle.rules.specs.declared.model.Setting.{Setting}
use Rattle.row.specs.Row.{head_of, box_of}
use Rattle.row.specs.Lent.{RowReadable}
use Rattle.row.proofs.TurnLaws.{row-formed}
use Rattle.memory.specs.Memory.{row_at, site_of, memory_form}
use Rattle.memory.specs.After.{setting_at}
use Rattle.memory.proofs.LentLaws.{form-site}
use Rattle.memory.proofs.RowLaws.{row-by-form}
use Rattle.site.proofs.AfterLaws.{need-met, need-not, no_needs}
use Rattle.site.proofs.KnownLaws.{AtBox}
use Rattle.site.proofs.TurnKnown.{box-lent}

pub unheard-no-box : (xs ls : List ℕ) → memory_form xs ls ≡ true → (c : ℕ)
    → is_box (site_of xs ls).n c ≡ false → unheard (site_of xs ls) c ≡ Err Refusal.Box
unfolding unheard
unheard-no-box xs ls f c h = need-met _ _ _ _ _ (form-site xs ls f) ∙ need-not _ _ _ _ _ h

-- the row r of box c, of words by form
module _ {xs ls : List ℕ} {c : ℕ} {s : Setting} (k : AtBox xs ls c s) {r : List ℕ}
    (cut : r ≡ row_at s.j xs c) where
  pub row_reads : RowReadable s.n r
  row_reads =
      let mine : r ≡ row_at s.j xs s.me =
      cut ∙ ap (λ (b : ℕ). row_at s.j xs b) (sym (ap (λ (t : Setting). t.me) k.setting)) in
      rw mine (row-formed s (row_at s.j xs s.me) (row-by-form s xs (box-lent k))).readable

  here : (site_of xs ls).box c ≡ box_of (setting_at xs c).n (row_at (setting_at xs c).j xs c)
  unfolding site_of
  here = rw k.box refl

  at-box : unheard (site_of xs ls) c
      ≡ unheard_by (head_of (setting_at xs c).n (row_at (setting_at xs c).j xs c)) (setting_at xs c)
  unfolding site_of unheard
  at-box =
      need-met _ _ _ _ _ (form-site xs ls k.form) ∙ need-met _ _ _ _ _ k.box ∙ no_needs _ _
      ∙ ap (λ (x : Box). unheard_by x.head (setting_at xs c)) here

  pub unheard-here : {b : BoxState} {u : Result ℕ Refusal} → b ≡ head_of s.n r → u ≡ unheard_by b s
      → u ≡ unheard (site_of xs ls) c
  unheard-here p q =
      q ∙ ap (λ (b : BoxState). unheard_by b s) (p ∙ ap (head_of s.n) cut)
      ∙ (λ i. unheard_by (head_of (k.setting i).n (row_at (k.setting i).j xs c)) (k.setting i))
      ∙ sym at-box
