-- Every box when c is elected, one row after the other.
use Prim.Native.Nat.{ℕ, ◌+◌, ◌≤◌, ◌<◌}
use mathlib.Core.Path.{◌≡◌, sym, ap, ◌∙◌, subst}
use mathlib.Core.Bool.{Bool, true, cond}
use mathlib.Core.List.{List}
use native.Mathlib.Omega.{arith}
use Rattle.rules.specs.Steps.{elected}
use Rattle.rules.specs.Box.{Box}
use Rattle.rules.specs.Site.{fresh_box}
use Rattle.rules.specs.Own.{elected_box}
use Rattle.rules.specs.declared.model.Setting.{Setting}
use Rattle.row.specs.Row.{box_of, row_form}
use Rattle.memory.specs.Memory.{row_at}
use Rattle.memory.specs.After.{boxes_of, RowSet, RowsPut, BoxesLent, setting_for}
use Rattle.memory.specs.After.{elected_boxes}
use Rattle.memory.proofs.RowLaws.{box-at, row-form}
use Rattle.memory.proofs.EveryLaws.{next-box}
use Rattle.memory.proofs.EachLaws.{BoxesUpTo, boxes-more, boxes-all}

module _ {s : Setting} (c : ℕ) {xs₀ : List ℕ} (lent : BoxesLent s xs₀) where
  abbrev all : ℕ → Box
  all = elected_boxes s c (boxes_of s xs₀)

  module _ {b : ℕ} {xs : List ℕ} (was : BoxesUpTo s all xs₀ b xs) (h : b < s.n) where
    next_row : row_at s.j xs (b + 1) ≡ row_at s.j xs₀ (b + 1)
    next_row = was.rows.later (b + 1) (omega arith, omega arith) (omega arith)

    pub next-form : row_form s.n s.j (b + 1) (row_at s.j xs (b + 1)) ≡ true
    next-form =
        let next = next-box s.n b h in
        ap (row_form s.n s.j (b + 1)) next_row
        ∙ row-form s (b + 1) xs₀ next lent.rows (lent.form (b + 1) next)

    pub elect-more : {xs' : List ℕ}
        → RowSet s (b + 1)
        (elected_box (setting_for s (b + 1)) c (box_of s.n (row_at s.j xs (b + 1)))) xs xs'
        → BoxesUpTo s all xs₀ (b + 1) xs'
    elect-more {xs'} e =
        boxes-more was h (subst (λ (x : Box). RowSet s (b + 1) x xs xs') next e)
      where
        next : elected_box (setting_for s (b + 1)) c (box_of s.n (row_at s.j xs (b + 1)))
            ≡ all (b + 1)
        next =
            ap (elected_box (setting_for s (b + 1)) c)
            (box-at s (b + 1) xs₀ (next-box s.n b h) next_row)
            ∙ ap (λ (t : Bool). record {
              head = cond t
                  (elected (boxes_of s xs₀ (b + 1)).head (setting_for s (b + 1)) c)
                  (boxes_of s xs₀ (b + 1)).head;
              records = (boxes_of s xs₀ (b + 1)).records;
            }) (sym (next-box s.n b h))

  pub elect-all : {b : ℕ} {xs : List ℕ} → BoxesUpTo s all xs₀ b xs → s.n ≤ b
      → RowsPut s all xs₀ xs
  elect-all was h =
      boxes-all was h lent.rows.sizes lent.rows.words
      (λ k g. ap (λ (t : Bool). record {
        head = cond t
            (elected (cond t (box_of s.n (row_at s.j xs₀ k)) fresh_box).head (setting_for s k) c)
            (cond t (box_of s.n (row_at s.j xs₀ k)) fresh_box).head;
        records = (cond t (box_of s.n (row_at s.j xs₀ k)) fresh_box).records;
      }) g)
