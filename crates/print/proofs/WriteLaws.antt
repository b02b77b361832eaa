-- Laws of writing text at a place.
use Prim.Native.Nat.{ℕ, suc, ◌+◌, ◌-◌, ◌/◌, ◌%◌, ◌<◌, ◌≤◌}
use mathlib.Core.Path.{◌≡◌, refl, ap, sym, ◌∙◌, subst}
use mathlib.Core.List.{List, [], ◌∷◌, ◌++◌}
use native.Mathlib.Omega.{arith}
use native.Mathlib.Nat.{add-zero, add-suc, suc-add}
use borrow.Rule.Slice.PartMut.{put_mid}
use lib.ListN.{length, take, drop, set, length-append}
use lib.Seq.{sets, sets-eq, length-sets, take_all}
use Rattle.std.proofs.lemmas.Slice.{put_mid-paste}
use Rattle.io.specs.Digits.{last_digits, IsDigitCount}
use Rattle.print.specs.Decimal.{decimal}
use Rattle.print.specs.Text.{Wrote}
use Rattle.print.proofs.DecimalLaws.{decimal-is, one-digit, more-digits}

sets_append : (a b l : List ℕ) (i : ℕ) → sets (sets l i a) (i + length a) b ≡ sets l i (a ++ b)
sets_append [] b l i = rw add-zero
sets_append (x ∷ a) b l i = rw (add-suc, ← suc-add) (sets_append a b (set l i x) (suc i))

-- no text, at any place
pub nothing : {m i : ℕ} {a : List ℕ} → Wrote m a a i i []
nothing = record { bytes = refl; end = omega arith; few = omega arith; room = refl }

-- one text after another
pub then : {m n i j k : ℕ} {a b c s t : List ℕ} → Wrote m a b i j s → Wrote n b c j k t
    → Wrote (m + n) a c i k (s ++ t)
then {i = i} {j = j} {a = a} {s = s} {t = t} u v =
    record {
      bytes =
          v.bytes
          ∙ (ap (λ l. sets l j t) u.bytes
          ∙ (ap (λ p. sets (sets a i s) p t) u.end ∙ sets_append s t a i));
      end = omega (arith, length-append s t, u.end, v.end);
      few = omega (arith, u.few, v.few);
      room = v.room ∙ u.room;
    }

-- the same text, spelled in another way
pub spelled : {m i j : ℕ} {a b s t : List ℕ} → s ≡ t → Wrote m a b i j s → Wrote m a b i j t
spelled {m} {i} {j} {a} {b} e w = subst (λ s. Wrote m a b i j s) e w

pub at_most : {m n i j : ℕ} {a b s : List ℕ} → m ≤ n → Wrote m a b i j s → Wrote n a b i j s
at_most h w = record { bytes = w.bytes; end = w.end; few = omega arith; room = w.room }

-- a text copied to its place at once
pub copied : (src part : List ℕ) (at : ℕ) {before : List ℕ} → part ≡ src
    → at + length src ≤ length before
    → Wrote (length src) before (put_mid at (at + length src - at) before part) at (at + length src)
    src
copied src part at {before} e room =
    let n = length src in
    let width : n ≡ at + n - at = omega arith in
    let pasted = put_mid-paste at (at + n - at) before part src n e width refl in
    let whole = ap (λ l. take at before ++ l ++ drop (at + n) before) (take_all n src (omega arith))
    in
    let same = pasted ∙ (whole ∙ sym (sets-eq src before at room)) in
    record {
      bytes = same;
      end = refl;
      few = omega arith;
      room = ap length same ∙ length-sets before at src;
    }

-- what the kit's `decimal` left in t is the decimal of x
pub decimal-done : (t : List ℕ) (x n : ℕ) {i j : ℕ} {a b : List ℕ} → n ≡ length (take n t)
    → IsDigitCount 10 1 x n → take n t ≡ last_digits 10 n x → Wrote 20 a b i j (take n t)
    → Wrote 20 a b i j (decimal x)
decimal-done t x n e f d w =
    spelled (d ∙ decimal-is x n (omega (arith, w.end, w.few, e)) f) w

-- one digit, written at once
pub one-done : (x : ℕ) {i j : ℕ} {a b : List ℕ} → x < 10 → Wrote 1 a b i j ((48 + x) ∷ [])
    → Wrote 20 a b i j (decimal x)
one-done x h w = at_most (omega arith) (spelled (sym (one-digit 19 x h)) w)

-- two digits, one after the other
pub two-done : (x : ℕ) {i j k : ℕ} {a b c : List ℕ} → 10 ≤ x → x < 100
    → Wrote 1 a b i j ((48 + x / 10) ∷ []) → Wrote 1 b c j k ((48 + x % 10) ∷ [])
    → Wrote 20 a c i k (decimal x)
two-done x h m u v =
    let first = one-digit 18 (x / 10) (omega arith) in
    let both = more-digits 18 x h ∙ ap (λ l. l ++ ((48 + x % 10) ∷ [])) first in
    at_most (omega arith) (spelled (sym both) (then u v))
