-- What the two tests of Bounds say: inside them the ranges hold and the rule is the paper's,
-- outside it is refused.
use Prim.Native.Nat.{ℕ, ◌+◌, ◌≤◌}
use mathlib.Core.Bool.{Bool, true, false, ◌&&◌}
use mathlib.Core.Path.{◌≡◌, refl}
use lib.Dec.{leb}
use borrow.Author.Tests.{leb-true}
use Rattle.rules.specs.Pick.{pick}
use Rattle.rules.specs.Sizes.{most_boxes, most_loads, most_number, most_pn}
use Rattle.rules.specs.Turns.{unless, settled, still}
use Rattle.rules.specs.Bounds.{BoundedKept, BoundedSetting, BoundedMail, bounded, bounded_box}
use Rattle.rules.specs.Bounds.{bounded_mail}
use Rattle.rules.specs.Types.{Answer, BoxState, Mail, Refusal, Setting, Turn, Verdict}

pub first-of : (a b : Bool) → (a && b) ≡ true → a ≡ true
first-of true b e = refl
first-of false b e = e

pub second-of : (a b : Bool) → (a && b) ≡ true → b ≡ true
second-of true b e = e
second-of false true e = refl
second-of false false e = e

pub both_of : {a b c d : Bool} → a ≡ b → c ≡ d → (a && c) ≡ (b && d)
both_of p q = rw (p, q) refl

pub bounded_parts : (pn last first : ℕ) → bounded pn last first ≡ true
    → (pn ≤ most_pn) × ((last ≤ most_number) × (first ≤ last + 1))
bounded_parts pn last first e =
    let e2 = first-of (leb pn most_pn && leb last most_number) (leb first (last + 1)) e in (
      leb-true pn most_pn (first-of (leb pn most_pn) (leb last most_number) e2),
      (
        leb-true last most_number (second-of (leb pn most_pn) (leb last most_number) e2),
        leb-true first (last + 1)
            (second-of (leb pn most_pn && leb last most_number) (leb first (last + 1)) e),
      ),
    )

pub bounded-box : (b : BoxState) (s : Setting) → bounded_box b s ≡ true
    → BoundedKept b.kept × BoundedSetting s
unfolding bounded_box
bounded-box b s e =
    let e2 = first-of (k && leb s.me most_boxes) (leb s.j most_loads) e in (
      bounded_parts b.kept.pn b.kept.last b.kept.first (first-of k (leb s.me most_boxes) e2),
      (
        leb-true s.me most_boxes (second-of k (leb s.me most_boxes) e2),
        leb-true s.j most_loads (second-of (k && leb s.me most_boxes) (leb s.j most_loads) e),
      ),
    )
  where
    k : Bool
    k = bounded b.kept.pn b.kept.last b.kept.first

pub bounded-mail : (m : Mail) → bounded_mail m ≡ true → BoundedMail m
unfolding bounded_mail
bounded-mail m e = bounded_parts m.pn m.last m.first e

-- a rule t behind a test f, by the answer r of the code's own test
module _ (b : BoxState) (f r : Bool) (t : Turn) (e : r ≡ f) where
  pub guard_go : r ≡ true → t ≡ settled b (unless f Refusal.Form Verdict.Go) t
  unfolding settled unless pick
  guard_go h = rw (← e, h) refl

  pub guard_stop : r ≡ false
      → still b (Answer.Refused Refusal.Form) ≡ settled b (unless f Refusal.Form Verdict.Go) t
  unfolding settled unless pick
  guard_stop h = rw (← e, h) refl
