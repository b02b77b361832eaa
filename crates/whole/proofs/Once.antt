-- The contract of `check_image` leaves one answer: two that meet it are the same.
use mathlib.Core.Path.{◌≡◌, refl, sym, ap, ◌∙◌}
use Prim.Native.Nat.{ℕ}
use mathlib.Core.List.{List}
use Rattle.std.specs.Prelude.{Option, Some, None}
use Rattle.image.specs.Longest.{table_long}
use Rattle.image.proofs.OneImage.{one-image}
use Rattle.whole.specs.Whole.{ImageFound, ImageIs}

-- The place of the general body is told by the bytes.
one_place : (src : List ℕ) (p q : ℕ) → ImageFound src p → ImageFound src q → p ≡ q
one_place src p q f g =
    let image = f.image ∙ sym g.image in
    let same = one-image f.site g.site f.by_form g.by_form image in
    f.place ∙ ap table_long same.n ∙ sym g.place

pub check_once : (src : List ℕ) (a b : Option ℕ) → ImageIs src a → ImageIs src b → a ≡ b
check_once src (Some p) (Some q) f g = ap Some (one_place src p q f g)
check_once src (Some p) None f none = absurd (none f.site f.by_form f.image)
check_once src None (Some q) none g = absurd (none g.site g.by_form g.image)
check_once src None None f g = refl
