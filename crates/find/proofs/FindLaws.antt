-- Which load has a frame, by the words of a row.
use Prim.Native.Nat.{ℕ}
use mathlib.Core.Path.{◌≡◌, refl, sym, ap, ◌∙◌}
use mathlib.Core.Bool.{true, false, not}
use mathlib.Core.List.{List}
use lib.ListN.{get_or}
use borrow.Author.Tests.{eq-eqb, ne_eqb}
use Rattle.index.specs.Index.{first_with}
use Rattle.rules.specs.Box.{Box}
use Rattle.rules.specs.Pick.{pick_true, pick-false}
use Rattle.rules.specs.Site.{Site, is_box}
use Rattle.rules.specs.Form.{form}
use Rattle.rules.specs.declared.model.Refusal.{Refusal}
use Rattle.rules.specs.declared.model.Setting.{Setting}
use Rattle.row.specs.Row.{box_of, first_at, agreed_of}
use Rattle.memory.specs.Memory.{row_at, site_of, memory_form}
use Rattle.memory.proofs.LentLaws.{form-site}
use Rattle.site.proofs.AfterLaws.{need-met, need-not, no_needs}
use Rattle.site.proofs.KnownLaws.{AtBox}
use Rattle.find.specs.Find.{found_as, found_in, find, find_on}
use Rattle.std.specs.Prelude.{Option, Some, None, Ok, Err}

-- ---- the number

pub none_found : (k : ℕ) → k ≡ 0 → None ≡ found_as k
unfolding found_as
none_found k e = sym (pick_true _ _ _ (eq-eqb k 0 e))

pub number-found : (k : ℕ) → (k ≡ 0 → ⊥) → Some k ≡ found_as k
unfolding found_as
number-found k e = sym (pick-false _ _ _ (ne_eqb k 0 e))

-- ---- a site

module _ (s : Site) (f : form s ≡ true) (c left : ℕ) where
  pub no-box : is_box s.n c ≡ false → find s c left ≡ Err Refusal.Box
  unfolding find
  no-box h = need-met _ _ _ _ _ f ∙ need-not _ _ _ _ _ h

  module _ (b : is_box s.n c ≡ true) where
    pub no-frame : left ≡ 0 → find s c left ≡ Err Refusal.Frame
    unfolding find
    no-frame h =
        need-met _ _ _ _ _ f ∙ need-met _ _ _ _ _ b
        ∙ need-not _ _ _ _ _ (ap not (eq-eqb left 0 h))

    pub at-frame : (left ≡ 0 → ⊥) → find s c left ≡ found_in (s.box c) left
    unfolding find
    at-frame h =
        need-met _ _ _ _ _ f ∙ need-met _ _ _ _ _ b
        ∙ need-met _ _ _ _ _ (ap not (ne_eqb left 0 h)) ∙ no_needs _ _

-- ---- its words

pub words-no-box : (xs ls : List ℕ) → memory_form xs ls ≡ true → (c left : ℕ)
    → is_box (site_of xs ls).n c ≡ false
    → Err Refusal.Box ≡ find (site_of xs ls) c left
words-no-box xs ls f c left h = sym (no-box (site_of xs ls) (form-site xs ls f) c left h)

-- the row r of box c, of words by form
module _ {xs ls : List ℕ} {c : ℕ} {s : Setting} (k : AtBox xs ls c s) (left : ℕ) where
  is-box : is_box (site_of xs ls).n c ≡ true
  unfolding site_of
  is-box = k.box

  pub words-no-frame : left ≡ 0
      → Err Refusal.Frame ≡ find (site_of xs ls) c left
  words-no-frame h =
      sym (no-frame (site_of xs ls) (form-site xs ls k.form) c left is-box h)

  module _ {r : List ℕ} (cut : r ≡ row_at s.j xs c) where
    here : (site_of xs ls).box c ≡ box_of s.n r
    unfolding site_of
    here = rw (cut, k.setting, k.box) refl

    pub found_here : {x : ℕ} {w : Option ℕ} → (left ≡ 0 → ⊥)
        → x ≡ first_with left (get_or r first_at 0) (agreed_of r) → w ≡ found_as x
        → Ok w ≡ find (site_of xs ls) c left
    found_here h p q =
        ap Ok (q ∙ ap found_as p) ∙ ap (λ (x : Box). found_in x left) (sym here)
        ∙ sym (at-frame (site_of xs ls) (form-site xs ls k.form) c left is-box h)

-- ---- the look at form

module _ (xs ls : List ℕ) (c left : ℕ) where
  pub formed-on : memory_form xs ls ≡ true → find (site_of xs ls) c left ≡ find_on xs ls c left
  unfolding find_on
  formed-on f = sym (pick_true _ _ _ f)

  pub unformed-on : memory_form xs ls ≡ false → Err Refusal.Form ≡ find_on xs ls c left
  unfolding find_on
  unformed-on f = sym (pick-false _ _ _ f)
