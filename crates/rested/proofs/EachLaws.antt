-- The boxes put at rest, one after the other.
use Prim.Native.Nat.{ℕ, ◌+◌, ◌≤◌, ◌<◌}
use mathlib.Core.Path.{◌≡◌, refl, sym, ap, ◌∙◌}
use mathlib.Core.Bool.{Bool, true, false, cond}
use mathlib.Core.List.{List}
use native.Mathlib.Omega.{arith}
use lib.Dec.{leb}
use borrow.Author.Tests.{leb-true, leb-false, le-leb, lt-leb, ne_eqb}
use Rattle.rules.specs.Box.{Box}
use Rattle.rules.specs.Form.{form_box}
use Rattle.rules.specs.Site.{fresh_head, is_box, upd}
use Rattle.rules.specs.declared.model.Setting.{Setting}
use Rattle.laws.proofs.Logic.{Or, left, right, decide, In, same?, eqb_same, cond_elim}
use Rattle.laws.proofs.FormLaws.{is-box}
use Rattle.rest.specs.Rest.{rested_box}
use Rattle.memory.specs.After.{boxes_of, BoxLent, BoxesLent, RowsLent, RowsPut, setting_for}
use Rattle.memory.proofs.EveryLaws.{next-box}

-- those up to b are at rest
abbrev pub rested_to : ℕ → (ℕ → Box) → ℕ → Box
rested_to b f c = cond (leb c b) (rested_box (f c)) (f c)

-- the sizes are all that is asked of s
same-sizes : (s : Setting) (b : ℕ) {xs : List ℕ} → RowsLent s xs → RowsLent (setting_for s b) xs
same-sizes s b r = record { sizes = r.sizes; words = r.words; fits = r.fits }

sizes-same : (s : Setting) (b : ℕ) {xs : List ℕ} → RowsLent (setting_for s b) xs → RowsLent s xs
sizes-same s b r = record { sizes = r.sizes; words = r.words; fits = r.fits }

pub record RestedUpTo (s : Setting) (xs₀ : List ℕ) (b : ℕ) (xs : List ℕ) : Type 0 where
  pub few : b ≤ s.n
  pub rows : RowsPut s (rested_to b (boxes_of s xs₀)) xs₀ xs

-- a number that is no box's has a fresh box, which is at rest
outside : (s : Setting) (xs : List ℕ) (c : ℕ) → is_box s.n c ≡ false
    → rested_box (boxes_of s xs c) ≡ boxes_of s xs c
unfolding fresh_head
outside s xs c e = rw e refl

no-box : (n c : ℕ) → (In c n → ⊥) → is_box n c ≡ false
no-box n c f = go (decide (is_box n c))
  where
    go : Or (is_box n c ≡ true) (is_box n c ≡ false) → is_box n c ≡ false
    go (left e) = absurd (f (is-box e))
    go (right e) = e

-- ---- none, one more, all

none_here : (s : Setting) (xs : List ℕ) (c : ℕ) → boxes_of s xs c ≡ rested_to 0 (boxes_of s xs) c
none_here s xs c =
    cond_elim (λ (x : Box). boxes_of s xs c ≡ x) (leb c 0)
    (λ e. sym (outside s xs c
    (no-box s.n c (λ h. let z : c ≤ 0 = leb-true c 0 e in omega (arith, h.0)))))
    (λ e. refl)

leb-more : (c b : ℕ) → (c ≡ b + 1 → ⊥) → leb c (b + 1) ≡ leb c b
leb-more c b ne = go (decide (leb c b))
  where
    go : Or (leb c b ≡ true) (leb c b ≡ false) → leb c (b + 1) ≡ leb c b
    go (left e) = let z : c ≤ b = leb-true c b e in le-leb c (b + 1) (omega arith) ∙ sym e
    go (right e) = let z : b < c = leb-false c b e in lt-leb c (b + 1) (omega (arith, ne)) ∙ sym e

more-here : (f : ℕ → Box) (b c : ℕ)
    → upd (rested_to b f) (b + 1) (rested_box (rested_to b f (b + 1))) c ≡ rested_to (b + 1) f c
more-here f b c = go (same? c (b + 1))
  where
    go : Or (c ≡ b + 1) (c ≡ b + 1 → ⊥)
        → upd (rested_to b f) (b + 1) (rested_box (rested_to b f (b + 1))) c ≡ rested_to (b + 1) f c
    go (left e) =
        let here = le-leb (b + 1) (b + 1) (omega arith) in
        rw (e, eqb_same (b + 1), lt-leb (b + 1) b (omega arith), here)
        refl
    go (right e) = rw (ne_eqb c (b + 1) e, leb-more c b e) refl

all_here : (s : Setting) (xs : List ℕ) (b : ℕ) → s.n ≤ b → (c : ℕ)
    → rested_to b (boxes_of s xs) c ≡ rested_box (boxes_of s xs c)
all_here s xs b h c =
    cond_elim (λ (x : Box). x ≡ rested_box (boxes_of s xs c)) (leb c b) (λ e. refl)
    (λ e. sym (outside s xs c
    (no-box s.n c (λ i. let z : b < c = leb-false c b e in omega (arith, i.1)))))

module _ {s : Setting} {xs₀ : List ℕ} (lent : BoxesLent s xs₀) where
  pub rested-none : RestedUpTo s xs₀ 0 xs₀
  rested-none = record {
    few = omega arith;
    rows = record {
      boxes = λ t c. none_here s xs₀ c t;
      general = refl;
      past = refl;
      words = refl;
      lent = lent.rows;
    };
  }

  module _ {b : ℕ} {xs : List ℕ} (was : RestedUpTo s xs₀ b xs) where
    module _ (h : b < s.n) where
      next-same : boxes_of s xs (b + 1) ≡ boxes_of s xs₀ (b + 1)
      next-same =
          (λ t. was.rows.boxes t (b + 1))
          ∙ ap (λ (t : Bool). cond t (rested_box (boxes_of s xs₀ (b + 1))) (boxes_of s xs₀ (b + 1)))
          (lt-leb (b + 1) b (omega arith))

      pub next-lent : BoxLent (setting_for s (b + 1)) xs
      next-lent = let next = next-box s.n b h in record {
        rows = same-sizes s (b + 1) was.rows.lent;
        me = next;
        form = ap (form_box s.n s.j (b + 1)) next-same ∙ lent.form (b + 1) next;
      }

      pub rested-more : {xs' : List ℕ}
          → RowsPut (setting_for s (b + 1))
          (upd (boxes_of s xs) (b + 1) (rested_box (boxes_of s xs (b + 1)))) xs xs'
          → RestedUpTo s xs₀ (b + 1) xs'
      rested-more e = record {
        few = omega arith;
        rows = record {
          boxes =
              e.boxes
              ∙ (λ t. upd (was.rows.boxes t) (b + 1) (rested_box (was.rows.boxes t (b + 1))))
              ∙ (λ t c. more-here (boxes_of s xs₀) b c t);
          general = e.general ∙ was.rows.general;
          past = e.past ∙ was.rows.past;
          words = e.words ∙ was.rows.words;
          lent = sizes-same s (b + 1) e.lent;
        };
      }

    pub rested-all : s.n ≤ b → RowsPut s (λ c. rested_box (boxes_of s xs₀ c)) xs₀ xs
    rested-all h = record {
      boxes = was.rows.boxes ∙ (λ t c. all_here s xs₀ b h c t);
      general = was.rows.general;
      past = was.rows.past;
      words = was.rows.words;
      lent = was.rows.lent;
    }
