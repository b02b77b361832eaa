-- A set of boxes 1 to n as a word: digit by digit, and how large it is.
use mathlib.Core.Path.{◌≡◌, refl, sym, ap, ◌∙◌}
use mathlib.Core.Bool.{true}
use Prim.Native.Nat.{ℕ, zero, suc, ◌/◌, ◌^◌, ◌≤◌, ◌<◌}
use native.Mathlib.Nat.{div-lt_iff_lt-mul, lt_of_lt_of_le, pow-suc, pow-succ', div-one}
use native.Mathlib.Nat.{div-div-eq-div-mul, div-eq_of_lt}
use Rattle.std.specs.Option.{SomeIff, unwrap_or}
use Rattle.std.proofs.Common.{Option, Some, None}
use native.Mathlib.Omega.{arith}
use lib.Dec.{eqb}
use lib.Pow.{pow_mono}
use borrow.Author.Tests.{eqb-true}
use Rattle.rules.specs.Sizes.{most_boxes}
use Rattle.rules.specs.Sets.{set_form}

-- No digit is left where 2 to the power of n goes in no time ..
set-shift : (n w : ℕ) → eqb (w / 2 ^ n) 0 ≡ set_form n w
unfolding set_form
set-shift zero w = ap (λ (v : ℕ). eqb v 0) (div-one w)
set-shift (suc n) w =
    let halves : w / 2 ^ suc n ≡ w / 2 / 2 ^ n = rw (pow-succ', div-div-eq-div-mul) refl in
    ap (λ (v : ℕ). eqb v 0) halves ∙ set-shift n (w / 2)

-- .. and of a word none is left after 64.
pub set-shifted : (n w : ℕ) (r : Option ℕ) → w < 2 ^ 64 → SomeIff r (n < 64) (w / 2 ^ n)
    → eqb (unwrap_or r 0) 0 ≡ set_form n w
set-shifted n w (Some x) h s = ap (λ (v : ℕ). eqb v 0) s.1 ∙ set-shift n w
set-shifted n w None h s =
    let most : 2 ^ 64 ≤ 2 ^ n = pow_mono {i = 64} {j = n} (omega (arith, s)) in
    let none : w / 2 ^ n ≡ 0 = div-eq_of_lt (lt_of_lt_of_le h most) in
    ap (λ (v : ℕ). eqb v 0) (sym none) ∙ set-shift n w

-- It is less than 2 to the power of n ..
set_lt : (n w : ℕ) → set_form n w ≡ true → w < 2 ^ n
unfolding set_form
set_lt zero w e = omega (arith, eqb-true w 0 e)
set_lt (suc n) w e =
    let h : w / 2 < 2 ^ n = set_lt n (w / 2) e in
    rw pow-suc ((div-lt_iff_lt-mul {k = 2} {x = w} {y = 2 ^ n} (omega arith)).0 h)

-- .. and so a number of 32 bits.
pub set-fits : (n w : ℕ) → n ≤ most_boxes → set_form n w ≡ true → w < 2 ^ 32
set-fits n w h e = lt_of_lt_of_le (set_lt n w e) (pow_mono {i = n} {j = 32} (omega (arith, h)))
