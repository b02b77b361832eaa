-- A holds line, by the words of a row.
use Prim.Native.Nat.{ℕ}
use mathlib.Core.Path.{◌≡◌, refl, sym, ap, ◌∙◌}
use mathlib.Core.Bool.{Bool, true, false}
use mathlib.Core.List.{List}
use Rattle.rules.specs.Box.{Box}
use Rattle.rules.specs.Step.{agreed_as, holds}
use Rattle.rules.specs.declared.model.Answer.{Answer}
use Rattle.rules.specs.declared.model.Refusal.{Refusal}
use Rattle.rules.specs.declared.model.Setting.{Setting}
use Rattle.row.specs.Row.{box_of}
use Rattle.row.specs.Lent.{RowByForm}
use Rattle.memory.specs.Memory.{row_at, site_of}
use Rattle.memory.proofs.RowLaws.{row-by-form}
use Rattle.site.proofs.CallLaws.{holds-true, holds_untrue}
use Rattle.site.proofs.KnownLaws.{AtBox}
use Rattle.site.proofs.TurnKnown.{box-lent}

-- the row r of box c, of words by form
module _ {xs ls : List ℕ} {c : ℕ} {s : Setting} (k : AtBox xs ls c s) {r : List ℕ}
    (cut : r ≡ row_at s.j xs c) where
  pub row_here : RowByForm s r
  row_here =
      let me : r ≡ row_at s.j xs s.me =
      cut ∙ ap (λ (b : ℕ). row_at s.j xs b) (sym (ap (λ (t : Setting). t.me) k.setting)) in
      rw me (row-by-form s xs (box-lent k))

  module _ (number left right : ℕ) {t : Bool} (p : t ≡ agreed_as (box_of s.n r) number left right)
    where
      agreed-is : agreed_as ((site_of xs ls).box c) number left right ≡ t
      unfolding site_of
      agreed-is =
          ap (λ (x : Box). agreed_as x number left right) (rw k.box refl)
          ∙ sym (p ∙ ap (λ (q : List ℕ). agreed_as (box_of s.n q) number left right) cut
          ∙ (λ i. agreed_as (box_of (k.setting i).n (row_at (k.setting i).j xs c)) number left
          right))

      pub holds-yes : t ≡ true → Answer.Done ≡ holds (site_of xs ls) c number left right
      unfolding site_of
      holds-yes q =
          sym (holds-true xs ls k.form c number left right k.box (agreed-is ∙ q))

      pub holds-no : t ≡ false
          → Answer.Refused Refusal.Untrue ≡ holds (site_of xs ls) c number left right
      unfolding site_of
      holds-no q =
          sym (holds_untrue xs ls k.form c number left right k.box (agreed-is ∙ q))
