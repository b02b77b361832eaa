-- Laws of decimals: one digit more, how many digits, the kit's digits, and numbers after spaces.
use Prim.Native.Nat.{ℕ, zero, suc, ◌+◌, ◌-◌, ◌*◌, ◌/◌, ◌%◌, ◌^◌, ◌<◌, ◌≤◌}
use mathlib.Core.Path.{◌≡◌, refl, ap, sym, ◌∙◌}
use mathlib.Core.Bool.{Bool, true, false}
use mathlib.Core.List.{List, [], ◌∷◌, ◌++◌, append-nil, append_assoc}
use mathlib.Core.Logic.{◌⊎◌, inl, inr, ⊎_elim}
use native.Mathlib.Omega.{arith}
use native.Mathlib.Nat.{pow-suc, pow-le-pow_right, mod-lt, mod-eq_of_lt, div-eq_of_lt}
use native.Mathlib.Nat.{div-lt_iff_lt-mul, le-div_iff_mul-le}
use native.Mathlib.Nat.{mul-add-div_right, mul-add-mod_self_right}
use lib.Dec.{ltb}
use lib.ListN.{length, length-append}
use borrow.Author.Tests.{lt-ltb, le-ltb, ltb-true, ltb-false}
use Rattle.io.specs.Digits.{last_digits, hex_digit_ascii, IsDigitCount}
use Rattle.print.specs.Decimal.{decimal_of, decimal, spaced}

-- a number has one digit, or several
pub one_or_more : (n : ℕ) → (n < 10) ⊎ (10 ≤ n)
one_or_more n = go (ltb n 10) refl
  where
    go : (t : Bool) → ltb n 10 ≡ t → (n < 10) ⊎ (10 ≤ n)
    go true e = inl (ltb-true n 10 e)
    go false e = inr (ltb-false n 10 e)

pub one-digit : (f n : ℕ) → n < 10 → decimal_of f n ≡ (48 + n) ∷ []
unfolding decimal_of
one-digit zero n h = refl
one-digit (suc f) n h = rw (lt-ltb n 10 h)

pub more-digits : (f n : ℕ) → 10 ≤ n
    → decimal_of (suc f) n ≡ decimal_of f (n / 10) ++ ((48 + n % 10) ∷ [])
unfolding decimal_of
more-digits f n h = rw (le-ltb n 10 h)

pub tenth_below : (k n : ℕ) → n < 10 ^ suc k → n / 10 < 10 ^ k
tenth_below k n h =
    let p : 0 < 10 = omega arith in
    (div-lt_iff_lt-mul {k = 10} {x = n} {y = 10 ^ k} p).1 (rw pow-suc at h)

tenth_above : (k n : ℕ) → 10 ^ suc k ≤ n → 10 ^ k ≤ n / 10
tenth_above k n h =
    let p : 0 < 10 = omega arith in
    (le-div_iff_mul-le {k = 10} {x = 10 ^ k} {y = n} p).1 (rw pow-suc at h)

-- a number below 10^(f+1) has the same decimal where there is room for more digits
pub more_room : (f n : ℕ) → n < 10 ^ suc f → decimal_of f n ≡ decimal_of (suc f) n
more_room zero n h = one-digit 0 n h ∙ sym (one-digit 1 n h)
more_room (suc f) n h =
    ⊎_elim
    (λ l. one-digit (suc f) n l ∙ sym (one-digit (suc (suc f)) n l))
    (λ l.
    more-digits f n l
    ∙ (ap (λ (t : List ℕ). t ++ ((48 + n % 10) ∷ [])) (more_room f (n / 10) (tenth_below (suc f) n
    h))
    ∙ sym (more-digits (suc f) n l)))
    (one_or_more n)

-- one digit more after a number that is not 0
pub grows : (v d : ℕ) → 0 < v → v < 10 ^ 19 → d < 10
    → decimal (v * 10 + d) ≡ decimal v ++ ((48 + d) ∷ [])
grows v d p h l =
    let z : 0 < 10 = omega arith in
    let q : (v * 10 + d) / 10 ≡ v =
    mul-add-div_right z v d ∙ (ap (λ (x : ℕ). v + x) (div-eq_of_lt l) ∙ omega arith) in
    let r : (v * 10 + d) % 10 ≡ d = mul-add-mod_self_right v 10 d ∙ mod-eq_of_lt l in
    more-digits 18 (v * 10 + d) (omega arith)
    ∙ (ap (λ (x : ℕ). decimal_of 18 x ++ ((48 + (v * 10 + d) % 10) ∷ [])) q
    ∙ (ap (λ (x : ℕ). decimal_of 18 v ++ ((48 + x) ∷ [])) r
    ∙ ap (λ (t : List ℕ). t ++ ((48 + d) ∷ [])) (more_room 18 v h)))

-- a number below 10^k has at most k digits
pub few-digits : (f k n : ℕ) → n < 10 ^ suc k → length (decimal_of f n) ≤ suc k
unfolding decimal_of
few-digits zero k n h = omega arith
few-digits (suc f) zero n h = omega (arith, ap length (one-digit (suc f) n h))
few-digits (suc f) (suc k) n h =
    ⊎_elim
    (λ l. omega (arith, ap length (one-digit (suc f) n l)))
    (λ l.
    omega (
      arith,
      ap length (more-digits f n l),
      few-digits f k (n / 10) (tenth_below (suc k) n h),
      length-append (decimal_of f (n / 10)) ((48 + n % 10) ∷ []),
    ))
    (one_or_more n)

-- the kit's digits, as few as hold the number, are its decimal
pub digits_are : (f k n : ℕ) → k ≤ f → n < 10 ^ suc k → (0 < k → 10 ^ k ≤ n)
    → last_digits 10 (suc k) n ≡ decimal_of f n
digits_are f zero n r h l =
    ap (λ (x : ℕ). hex_digit_ascii x ∷ []) (mod-eq_of_lt h)
    ∙ (rw (lt-ltb n 10 h) refl ∙ sym (one-digit f n h))
digits_are zero (suc k) n r h l = absurd (omega arith)
digits_are (suc f) (suc k) n r h l =
    let z : 0 < 10 = omega arith in
    let ten : 10 ^ suc k ≤ n = l (omega arith) in
    let one : 10 ≤ 10 ^ suc k = pow-le-pow_right z {i = 1} {j = suc k} (omega arith) in
    ap (λ (t : List ℕ). t ++ (hex_digit_ascii (n % 10) ∷ []))
    (digits_are f k (n / 10) (omega arith) (tenth_below (suc k) n h) (λ p. tenth_above k n ten))
    ∙ (rw (lt-ltb (n % 10) 10 (mod-lt n z)) refl ∙ sym (more-digits f n (omega arith)))

pub decimal-is : (n k : ℕ) → k ≤ 20 → IsDigitCount 10 1 n k → last_digits 10 k n ≡ decimal n
decimal-is n zero h w = absurd (omega (arith, w.0))
decimal-is n (suc k) h w =
    let e : suc k - 1 ≡ k = omega arith in
    digits_are 19 k n (omega arith) w.1 (λ p. rw e at (w.2 (omega arith)))

-- numbers after spaces, one after another
pub spaced_append : (xs ys : List ℕ) → spaced (xs ++ ys) ≡ spaced xs ++ spaced ys
unfolding spaced
spaced_append [] ys = refl
spaced_append (x ∷ xs) ys =
    ap (λ (l : List ℕ). (32 ∷ decimal x) ++ l) (spaced_append xs ys)
    ∙ sym (append_assoc (32 ∷ decimal x) (spaced xs) (spaced ys))

pub spaced-one : (x : ℕ) → spaced (x ∷ []) ≡ 32 ∷ decimal x
unfolding spaced
spaced-one x = append-nil (32 ∷ decimal x)
