-- The laws of numbers as bytes, once over the width.
use mathlib.Core.Path.{◌≡◌, refl, ap, sym, ◌∙◌}
use Prim.Native.Nat.{ℕ, zero, suc, ◌+◌, ◌-◌, ◌*◌, ◌/◌, ◌%◌, ◌^◌, ◌≤◌, ◌<◌}
use native.Mathlib.Nat.{mul_assoc, pow-suc, add-sub_cancel_left}
use native.Mathlib.Omega.{arith}
use mathlib.Core.List.{List, [], ◌∷◌, ◌++◌}
use lib.ListN.{length, take, drop, get_or, set}
use lib.ListN.{replicate, length-replicate, length-append}
use Rattle.std.proofs.Padding.{drop-replicate}
use native.Mathlib.Nat.{zero-mul, zero-add, div-one}
use native.Mathlib.Nat.{div-div-eq-div-mul}
use Rattle.std.specs.Int.{bytes_low_first, byte_at, byte_worth, sum_through, from_le_bytes, w32}
use Rattle.std.specs.Int.{w64}
use lib.Seq.{take-suc}
use lib.Seq.{length-take-le, take_all}
use Rattle.words.specs.Rows.{part, splice}
use Rattle.words.proofs.PartLaws.{part-splice, length_cut}
use Rattle.words.proofs.WriteLaws.{write_more}
use Rattle.le.specs.Le.{le, of_le, Number}

-- The elements of l are bytes.
abbrev pub Bytes : List ℕ → Type 0
Bytes l = (i : ℕ) → get_or l i 0 < 256

-- ---- the two round trips

-- The k lowest bytes of a number are k bytes.
pub length-le : (k x : ℕ) → length (le k x) ≡ k
unfolding le
length-le zero x = refl
length-le (suc k) x = ap suc (length-le k (x / 256))

-- A number below 256 ^ k is the number that its k bytes are.
pub of-le : (k x : ℕ) → x < 256 ^ k → of_le (le k x) ≡ x
unfolding le of_le
of-le zero x h = omega arith
of-le (suc k) x h =
    let m : x < 256 ^ k * 256 = rw pow-suc at h in
    rw (of-le k (x / 256) (omega arith)) (omega arith)

-- Bytes are the bytes of the number that they are.
pub le_of : (l : List ℕ) → Bytes l → le (length l) (of_le l) ≡ l
unfolding le of_le
le_of [] b = refl
le_of (x ∷ l) b =
    let d : (of_le l * 256 + x) / 256 ≡ of_le l = omega (arith, b 0) in
    let m : (of_le l * 256 + x) % 256 ≡ x = omega (arith, b 0) in
    rw (d, m, le_of l (λ i. b (suc i)))

-- The number that k bytes are is below 256 ^ k.
pub of_lt : (l : List ℕ) → Bytes l → of_le l < 256 ^ length l
unfolding of_le
of_lt [] b = omega arith
of_lt (x ∷ l) b = rw pow-suc (omega (arith, b 0, of_lt l (λ i. b (suc i))))

-- A number that was written at a place is read there.
pub put_get : (k at x : ℕ) (out : List ℕ) → at + k ≤ length out → x < 256 ^ k
    → of_le (part (splice out at k (le k x)) at k) ≡ x
put_get k at x out h b = rw (part-splice at k out (le k x) h (length-le k x), of-le k x b)

-- ---- the loops

-- A turn of `put`: one more of the n bytes of x, of which v is what is left.
pub put-more : (n x : ℕ) (now : List ℕ) (i v : ℕ) → i < n → i < length now
    → le n x ≡ take i now ++ le (n - i) v
    → le n x ≡ take (i + 1) (set now i (v % 256)) ++ le (n - (i + 1)) (v / 256)
unfolding le
put-more n x now i v h k e =
    let left : n - i ≡ suc (n - (i + 1)) = omega arith in
    write_more (le n x) now i (v % 256) (le (n - (i + 1)) (v / 256)) k (rw left at e)

-- What `get` has read of l is the number that l is.
pub number : (l : List ℕ) → Bytes l → (x : ℕ) → x ≡ of_le l → Number (length l) l x
number l b x e = record { read = e; written = rw e (le_of l b); below = rw e (of_lt l b) }

-- ---- at a place, as the code computes it

-- The part that `put` has written, when it is back.
pub put_in : (k at x : ℕ) (out ys : List ℕ) → at + k ≤ length out
    → ys ≡ le (length (take (at + k - at) (drop at out))) x
    → splice out at (at + k - at) ys ≡ splice out at k (le k x)
put_in k at x out ys h e = rw (add-sub_cancel_left, e, length_cut at k out h)

-- What `get` has read of a part is the number that the part is.
pub get_in : (k at : ℕ) (src : List ℕ) (x : ℕ) → at + k ≤ length src
    → Number (length (take (at + k - at) (drop at src))) (take (at + k - at) (drop at src)) x
    → Number k (part src at k) x
get_in k at src x h e = rw (length_cut at k src h, add-sub_cancel_left) at e

-- The number of two parts, one behind the other.
pub of_append : (xs ys : List ℕ) → of_le (xs ++ ys) ≡ of_le ys * 256 ^ length xs + of_le xs
unfolding of_le
of_append [] ys = omega arith
of_append (x ∷ xs) ys =
    let m : of_le ys * (256 ^ length xs * 256) ≡ of_le ys * 256 ^ length xs * 256 =
    sym (mul_assoc (of_le ys) (256 ^ length xs) 256)
    in
    rw (pow-suc, of_append xs ys) (omega (arith, m))

-- Zeros are the number 0 ..
pub of-none : (k : ℕ) → of_le (replicate k 0) ≡ 0
unfolding of_le
of-none zero = refl
of-none (suc k) = omega (arith, of-none k)

-- .. and behind bytes they change nothing.
pub of-zeros : (xs : List ℕ) (k : ℕ) → of_le (xs ++ replicate k 0) ≡ of_le xs
of-zeros xs k = rw (of_append xs (replicate k 0), of-none k, zero-mul, zero-add) refl

-- ---- the library's words for a number's bytes

-- The k bytes from byte i on are those of what is left of the number there.
pub low_first : (i k x : ℕ) → bytes_low_first i k x ≡ le k (x / 256 ^ i)
unfolding le
low_first i zero x = refl
low_first i (suc k) x =
    let d : x / 256 ^ suc i ≡ x / 256 ^ i / 256 = rw (pow-suc, div-div-eq-div-mul) refl in
    rw (at i, low_first (suc i) k x, d) refl
  where
    at : (i : ℕ) → byte_at i x ≡ x / 256 ^ i % 256
    at zero = omega arith
    at (suc i) = refl

-- The k lowest bytes, as the library writes them.
pub low_le : (k x : ℕ) → bytes_low_first 0 k x ≡ le k x
low_le k x = low_first 0 k x ∙ ap (le k) (div-one x)

-- What the first k + 1 bytes are worth together is the number that they are.
pub worth_of : (l : List ℕ) (k : ℕ) → k < length l
    → sum_through (λ i. byte_worth i (get_or l i 0)) k ≡ of_le (take (suc k) l)
unfolding of_le
worth_of l zero h = rw (take-suc l 0 0 h) (omega arith)
worth_of l (suc k) h =
    let n : length (take (suc k) l) ≡ suc k = length-take-le (suc k) l (omega (arith, h)) in
    let a = of_append (take (suc k) l) (get_or l (suc k) 0 ∷ []) in
    rw (take-suc l (suc k) 0 h, a, n, worth_of l k (omega (arith, h))) (omega arith)

-- Four and eight bytes, as the library reads them.
pub from_four : (l : List ℕ) → length l ≡ 4 → from_le_bytes w32 l ≡ of_le l
from_four l h =
    worth_of l 3 (omega (arith, h)) ∙ ap of_le (take_all 4 l (omega (arith, h)))

pub from_eight : (l : List ℕ) → length l ≡ 8 → from_le_bytes w64 l ≡ of_le l
from_eight l h =
    worth_of l 7 (omega (arith, h)) ∙ ap of_le (take_all 8 l (omega (arith, h)))

-- Those of at most eight bytes, behind which zeros stand.
pub from_each : (l : List ℕ) → length l ≤ 8
    → from_le_bytes w64 (l ++ drop (length l) (replicate 8 0)) ≡ of_le l
from_each l h =
    let n : length (l ++ replicate (8 - length l) 0) ≡ 8 =
    rw (length-append, length-replicate) (omega (arith, h)) in
    rw (drop-replicate, from_eight (l ++ replicate (8 - length l) 0) n, of-zeros) refl
