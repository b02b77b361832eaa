-- Laws of hex: a digit and its value, capitals, the digits of bytes one after another and back.
use Prim.Native.Nat.{ℕ, zero, suc, ◌+◌, ◌-◌, ◌*◌, ◌/◌, ◌%◌, ◌≤◌, ◌<◌}
use mathlib.Core.Path.{◌≡◌, refl, ap, sym, ◌∙◌}
use mathlib.Core.Bool.{Bool, true, false}
use mathlib.Core.List.{List, [], ◌∷◌, ◌++◌}
use native.Mathlib.Omega.{arith}
use lib.Dec.{ltb}
use lib.ListN.{length, get_or, length-map, get_or-map}
use borrow.Author.Tests.{lt-ltb, le-ltb, ltb-true, ltb-false}
use Rattle.hexed.specs.Hex.{digit, digits_of, small, smalls, Bytes, value_of, Digits}

-- ---- a digit and its value

pub low_digit : (d : ℕ) → d < 10 → digit d ≡ 48 + d
unfolding digit
low_digit d h = rw (lt-ltb d 10 h)

pub high_digit : (d : ℕ) → 10 ≤ d → digit d ≡ 87 + d
unfolding digit
high_digit d h = rw (le-ltb d 10 h)

pub value_low : (b : ℕ) → 48 ≤ b → b < 58 → value_of b ≡ b - 48
unfolding value_of
value_low b h k = rw (le-ltb b 48 h, lt-ltb b 58 k)

pub value-high : (b : ℕ) → 97 ≤ b → b < 103 → value_of b ≡ b - 87
unfolding value_of
value-high b h k =
    rw (le-ltb b 48 (omega arith), le-ltb b 58 (omega arith), le-ltb b 97 h, lt-ltb b 103 k)

pub value-below : (b : ℕ) → b < 48 → value_of b ≡ 16
unfolding value_of
value-below b h = rw (lt-ltb b 48 h)

pub value-between : (b : ℕ) → 58 ≤ b → b < 97 → value_of b ≡ 16
unfolding value_of
value-between b h k = rw (le-ltb b 48 (omega arith), le-ltb b 58 h, lt-ltb b 97 k)

pub value-above : (b : ℕ) → 103 ≤ b → value_of b ≡ 16
unfolding value_of
value-above b h =
    rw (
      le-ltb b 48 (omega arith),
      le-ltb b 58 (omega arith),
      le-ltb b 97 (omega arith),
      le-ltb b 103 h,
    )

pub value-digit : (d : ℕ) → d < 16 → value_of (digit d) ≡ d
value-digit d h = go (ltb d 10) refl
  where
    go : (t : Bool) → ltb d 10 ≡ t → value_of (digit d) ≡ d
    go true e =
        let l = ltb-true d 10 e in
        ap value_of (low_digit d l) ∙ value_low (48 + d) (omega arith) (omega arith) ∙ omega arith
    go false e =
        let l = ltb-false d 10 e in
        ap value_of (high_digit d l) ∙ value-high (87 + d) (omega arith) (omega arith) ∙ omega arith

-- no number from 16 on has a digit
pub small-digit : (d : ℕ) → value_of (digit d) < 16 → d < 16
small-digit d h = go (ltb d 16) refl
  where
    go : (t : Bool) → ltb d 16 ≡ t → d < 16
    go true e = ltb-true d 16 e
    go false e =
        let l = ltb-false d 16 e in
        let v : value_of (digit d) ≡ 16 =
        ap value_of (high_digit d (omega arith)) ∙ value-above (87 + d) (omega arith) in
        absurd (omega arith)

pub digit_value : (b : ℕ) → value_of b < 16 → digit (value_of b) ≡ b
unfolding value_of
digit_value b h = one (ltb b 48) (ltb b 58) (ltb b 97) (ltb b 103) refl refl refl refl
  where
    one : (p q r s : Bool) → ltb b 48 ≡ p → ltb b 58 ≡ q → ltb b 97 ≡ r → ltb b 103 ≡ s
        → digit (value_of b) ≡ b
    one true q r s p= q= r= s= = absurd (omega (arith, rw p= at h))
    one false true r s p= q= r= s= =
        let l = ltb-false b 48 p= in
        let u = ltb-true b 58 q= in
        ap digit (value_low b l u) ∙ low_digit (b - 48) (omega arith) ∙ omega arith
    one false false true s p= q= r= s= = absurd (omega (arith, rw (p=, q=, r=) at h))
    one false false false true p= q= r= s= =
        let l = ltb-false b 97 r= in
        let u = ltb-true b 103 s= in
        ap digit (value-high b l u) ∙ high_digit (b - 87) (omega arith) ∙ omega arith
    one false false false false p= q= r= s= = absurd (omega (arith, rw (p=, q=, r=, s=) at h))

-- ---- capitals

pub small-below : (b : ℕ) → b < 65 → small b ≡ b
unfolding small
small-below b h = rw (lt-ltb b 65 h)

pub small_capital : (b : ℕ) → 65 ≤ b → b < 71 → small b ≡ b + 32
unfolding small
small_capital b h k = rw (le-ltb b 65 h, lt-ltb b 71 k)

pub small-above : (b : ℕ) → 71 ≤ b → small b ≡ b
unfolding small
small-above b h = rw (le-ltb b 65 (omega arith), le-ltb b 71 h)

pub small_at : (text : List ℕ) (k : ℕ) → get_or (smalls text) k 0 ≡ small (get_or text k 0)
unfolding small
small_at text k = get_or-map small text k 0

pub smalls-length : (text : List ℕ) → length (smalls text) ≡ length text
smalls-length text = length-map text small

-- no capital becomes a byte below the letters
pub small-keeps : (b x : ℕ) → x < 65 → small b ≡ x → b ≡ x
small-keeps b x h e = go (ltb b 65) refl
  where
    above : (t : Bool) → 65 ≤ b → ltb b 71 ≡ t → b ≡ x
    above true l f =
        absurd (omega (arith, small_capital b l (ltb-true b 71 f)))
    above false l f = sym (small-above b (ltb-false b 71 f)) ∙ e

    go : (t : Bool) → ltb b 65 ≡ t → b ≡ x
    go true f = sym (small-below b (ltb-true b 65 f)) ∙ e
    go false f = above (ltb b 71) (ltb-false b 65 f) refl

-- ---- bytes one after another

pub digits_append : (a b : List ℕ) → digits_of (a ++ b) ≡ digits_of a ++ digits_of b
unfolding digits_of
digits_append [] b = refl
digits_append (x ∷ a) b =
    ap (λ (l : List ℕ). digit (x / 16) ∷ digit (x % 16) ∷ l) (digits_append a b)

pub digits-length : (bs : List ℕ) → length (digits_of bs) ≡ 2 * length bs
unfolding digits_of
digits-length [] = refl
digits-length (b ∷ bs) = omega (arith, digits-length bs)

pub bytes-head : {b : ℕ} {bs : List ℕ} → Bytes (b ∷ bs) → b < 256
bytes-head h = h.below 0

pub bytes-tail : {b : ℕ} {bs : List ℕ} → Bytes (b ∷ bs) → Bytes bs
bytes-tail h = record { below = λ k. h.below (suc k) }

pub bytes-cons : {b : ℕ} {bs : List ℕ} → b < 256 → Bytes bs → Bytes (b ∷ bs)
bytes-cons {b} {bs} l h = record { below = go }
  where
    go : (k : ℕ) → get_or (b ∷ bs) k 0 < 256
    go zero = l
    go (suc k) = h.below k

pub no_bytes : Bytes []
no_bytes = record { below = λ k. omega arith }

digits-tail : {x y : ℕ} {l : List ℕ} → Digits (x ∷ y ∷ l) → Digits l
digits-tail h = record { each = λ k p. h.each (suc (suc k)) (omega arith) }

digits-cons : (b : ℕ) (l : List ℕ) → b < 256 → Digits l
    → Digits (digit (b / 16) ∷ digit (b % 16) ∷ l)
digits-cons b l h d = record { each = go }
  where
    go : (k : ℕ) → k < suc (suc (length l))
        → value_of (get_or (digit (b / 16) ∷ digit (b % 16) ∷ l) k 0) < 16
    go zero p = omega (arith, value-digit (b / 16) (omega arith))
    go (suc zero) p = omega (arith, value-digit (b % 16) (omega arith))
    go (suc (suc k)) p = d.each k (omega arith)

pub bytes-digits : (bs : List ℕ) → Bytes bs → Digits (digits_of bs)
unfolding digits_of
bytes-digits [] h = record { each = λ k p. absurd (omega arith) }
bytes-digits (b ∷ bs) h =
    digits-cons b (digits_of bs) (bytes-head h) (bytes-digits bs (bytes-tail h))

pub digits-bytes : (bs : List ℕ) → Digits (digits_of bs) → Bytes bs
unfolding digits_of
digits-bytes [] h = no_bytes
digits-bytes (b ∷ bs) h =
    let l = small-digit (b / 16) (h.each 0 (omega arith)) in
    bytes-cons (omega arith) (digits-bytes bs (digits-tail h))

-- ---- and back

pub bytes_of : List ℕ → List ℕ
bytes_of [] = []
bytes_of (x ∷ []) = []
bytes_of (x ∷ y ∷ l) = (value_of x * 16 + value_of y) ∷ bytes_of l

-- pairs of digits are the digits of bytes
pub digits-back : (text : List ℕ) → Digits text → length text % 2 ≡ 0
    → digits_of (bytes_of text) ≡ text
unfolding digits_of bytes_of
digits-back [] d e = refl
digits-back (x ∷ []) d e = absurd (omega arith)
digits-back (x ∷ y ∷ l) d e =
    let p = d.each 0 (omega arith) in
    let q = d.each 1 (omega arith) in
    let high : (value_of x * 16 + value_of y) / 16 ≡ value_of x = omega arith in
    let low : (value_of x * 16 + value_of y) % 16 ≡ value_of y = omega arith in
    let u = ap digit high ∙ digit_value x p in
    let v = ap digit low ∙ digit_value y q in
    let rest = digits-back l (digits-tail d) (omega arith) in
    λ i. u i ∷ v i ∷ rest i
