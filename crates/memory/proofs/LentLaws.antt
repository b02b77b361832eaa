-- Words that can be read as a site: its rows and its links, each by itself.
use Prim.Native.Nat.{ℕ, ◌<◌}
use mathlib.Core.Path.{◌≡◌, refl, sym, ap, ◌∙◌}
use mathlib.Core.Bool.{Bool, true, ◌||◌}
use mathlib.Core.List.{List}
use native.Mathlib.Omega.{arith}
use lib.Dec.{eqb}
use lib.ListN.{take, get_or}
use lib.Seq.{get_or-take}
use borrow.Author.Tests.{leb-true, le-leb, ne_eqb, eq-eqb}
use Rattle.rules.specs.Form.{form}
use Rattle.laws.proofs.Logic.{Or, left, right, In, same?, or_left, or_right, passed, ◌&◌, none}
use Rattle.laws.proofs.Logic.{made, every-at, every_made}
use Rattle.laws.proofs.FormLaws.{is-box, box-is, is-link}
use Rattle.link.specs.Link.{link_fits}
use Rattle.memory.specs.Memory.{link_at, site_of, roomy, readable, memory_form, general_words}
use Rattle.memory.specs.After.{setting_at, RowsLent, LinksLent}
use Rattle.memory.proofs.SizeLaws.{link-is}

-- ---- the general words

pub general-same : (xs xs' : List ℕ) → take general_words xs' ≡ take general_words xs → (i : ℕ)
    → i < 5
    → get_or xs' i 0 ≡ get_or xs i 0
general-same xs xs' e i h =
    sym (get_or-take general_words xs' i 0 h) ∙ ap (λ (l : List ℕ). get_or l i 0) e
    ∙ get_or-take general_words xs i 0 h

pub setting_same : (xs xs' : List ℕ) (c : ℕ) → take general_words xs' ≡ take general_words xs
    → setting_at xs' c ≡ setting_at xs c
setting_same xs xs' c e =
    rw (
      general-same xs xs' e 0 (omega arith),
      general-same xs xs' e 1 (omega arith),
      general-same xs xs' e 2 (omega arith),
      general-same xs xs' e 3 (omega arith),
      general-same xs xs' e 4 (omega arith),
    ) refl

-- ---- readable words

module _ (xs ls : List ℕ) (c : ℕ) where
  pub readable-rows : readable xs ls ≡ true → RowsLent (setting_at xs c) xs
  unfolding roomy
  readable-rows e = let p = passed _ e in record {
    sizes = p.0;
    words = leb-true _ _ p.1.0;
    fits = λ b h. every-at _ _ p.1.1.1.0 b (is-box h);
  }

  pub readable-links : readable xs ls ≡ true → LinksLent (setting_at xs c) ls
  unfolding roomy
  readable-links e = let p = passed _ e in record {
    sizes = p.0;
    words = leb-true _ _ p.1.1.0;
    fits = λ a b h. let l = is-link h in
        other (every-at _ _ (every-at _ _ p.1.1.1.1.0 a l.0) b l.1) l.2;
  }
    where
      other : {a b : ℕ} {t : Bool} → (eqb a b || t) ≡ true → (a ≡ b → ⊥) → t ≡ true
      other {a} {b} {t} e ne = rw (ne_eqb a b ne) at e

  pub readable-made : RowsLent (setting_at xs c) xs → LinksLent (setting_at xs c) ls
      → readable xs ls ≡ true
  unfolding roomy
  readable-made r l =
      made
      (r.sizes
      & le-leb _ _ r.words
      & le-leb _ _ l.words
      & every_made _ _ (λ b h. r.fits b (box-is h))
      & every_made _ _ (λ a ha. every_made _ _ (λ b hb. link a b ha hb (same? a b)))
      & none)
    where
      link : (a b : ℕ) → In a (get_or xs 0 0) → In b (get_or xs 0 0) → Or (a ≡ b) (a ≡ b → ⊥)
          → (eqb a b || link_fits (get_or xs 1 0) (get_or xs 2 0)
          (link_at (get_or xs 0 0) (get_or xs 1 0) (get_or xs 2 0) ls a b)) ≡ true
      link a b ha hb (left e) = or_left _ (eq-eqb a b e)
      link a b ha hb (right e) =
          or_right (eqb a b) (l.fits a b (link-is (get_or xs 0 0) a b ha hb e))

-- ---- by form

pub form-readable : (xs ls : List ℕ) → memory_form xs ls ≡ true → readable xs ls ≡ true
unfolding memory_form
form-readable xs ls e = (passed _ e).0

pub form-site : (xs ls : List ℕ) → memory_form xs ls ≡ true → form (site_of xs ls) ≡ true
unfolding memory_form
form-site xs ls e = (passed _ e).1.0

pub form_both : (xs ls : List ℕ) → readable xs ls ≡ true → form (site_of xs ls) ≡ true
    → memory_form xs ls ≡ true
unfolding memory_form
form_both xs ls r f = made (r & f & none)
