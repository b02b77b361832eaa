-- Sizes by the test of them.
use Prim.Native.Nat.{ℕ}
use mathlib.Core.Path.{◌≡◌, sym, ap, ◌∙◌}
use mathlib.Core.Bool.{Bool, true, false, not, cond}
use borrow.Author.Tests.{not-true, not-false}
use Rattle.rules.specs.Sizes.{sizes_form}
use Rattle.laws.proofs.FormLaws.{FormedSizes, sizes-says}

-- the test t of the sizes says no, so there are no words; it says yes, so there are w
pub none : (w : ℕ) {t u : Bool} → t ≡ u → not t ≡ true → 0 ≡ cond u w 0
none w {t} e f = sym (ap (λ b. cond b w 0) (sym e ∙ not-true t f))

pub some : {w r : ℕ} {t u : Bool} → t ≡ u → not t ≡ false → r ≡ w → r ≡ cond u w 0
some {w} {r} {t} e f h = h ∙ sym (ap (λ b. cond b w 0) (sym e ∙ not-false t f))

pub formed : {n J L : ℕ} {t : Bool} → t ≡ sizes_form n J L → not t ≡ false → FormedSizes n J L
formed {n} {J} {L} {t} e f = sizes-says (sym e ∙ not-false t f)
