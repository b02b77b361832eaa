-- A text is the hex of at most one list of bytes and has no space; what is written is read again;
-- `read_hex` has one answer.
use Prim.Native.Nat.{ℕ, zero, suc, ◌+◌, ◌*◌, ◌/◌, ◌%◌, ◌≤◌, ◌<◌}
use mathlib.Core.Path.{◌≡◌, refl, ap, sym, ◌∙◌}
use mathlib.Core.Bool.{Bool, true, false}
use mathlib.Core.List.{List, [], ◌∷◌, ◌++◌}
use native.Mathlib.Omega.{arith}
use lib.Dec.{ltb}
use lib.ListN.{length, get_or, drop}
use borrow.Author.Tests.{ltb-true, ltb-false}
use Rattle.std.proofs.Common.{Result, Ok}
use Rattle.hexed.specs.declared.HexError.{HexError}
use Rattle.hexed.specs.Hex.{digit, digits_of, hex_of, small, smalls, Bytes, HexIs, value_of}
use Rattle.hexed.specs.Hex.{read, long, bad}
use Rattle.hexed.proofs.HexLaws.{low_digit, high_digit, value-digit, value-below, small-below}
use Rattle.hexed.proofs.HexLaws.{small-above, small_at, smalls-length, digits-length}
use Rattle.hexed.proofs.HexLaws.{bytes-head, bytes-tail, bytes-digits}

digit-same : (d e : ℕ) → d < 16 → e < 16 → digit d ≡ digit e → d ≡ e
digit-same d e h k p = sym (value-digit d h) ∙ ap value_of p ∙ value-digit e k

head-of : {x y : ℕ} {k l : List ℕ} → x ∷ k ≡ y ∷ l → x ≡ y
head-of e = ap (λ (l : List ℕ). get_or l 0 0) e

tail-of : {x y : ℕ} {k l : List ℕ} → x ∷ k ≡ y ∷ l → k ≡ l
tail-of e = ap (drop 1) e

digits_same : (a b : List ℕ) → Bytes a → Bytes b → digits_of a ≡ digits_of b → a ≡ b
unfolding digits_of
digits_same [] [] h k e = refl
digits_same [] (y ∷ b) h k e = absurd (omega (arith, ap length e))
digits_same (x ∷ a) [] h k e = absurd (omega (arith, ap length e))
digits_same (x ∷ a) (y ∷ b) h k e =
    let u : x / 16 ≡ y / 16 =
    digit-same (x / 16) (y / 16) (omega (arith, bytes-head h)) (omega (arith, bytes-head k))
    (head-of e) in
    let v : x % 16 ≡ y % 16 =
    digit-same (x % 16) (y % 16) (omega arith) (omega arith) (head-of (tail-of e)) in
    let w : x ≡ y = omega arith in
    let r = digits_same a b (bytes-tail h) (bytes-tail k) (tail-of (tail-of e)) in
    λ i. w i ∷ r i

pub hex-same : (a b : List ℕ) → Bytes a → Bytes b → hex_of a ≡ hex_of b → a ≡ b
unfolding digits_of
hex-same [] [] h k e = refl
hex-same [] (y ∷ b) h k e = absurd (omega (arith, ap length e))
hex-same (x ∷ a) [] h k e = absurd (omega (arith, ap length e))
hex-same (x ∷ a) (y ∷ b) h k e = digits_same (x ∷ a) (y ∷ b) h k e

pub hex-length : (bs : List ℕ) → length (hex_of bs) ≤ 2 * length bs + 1
hex-length [] = omega arith
hex-length (b ∷ bs) = omega (arith, digits-length (b ∷ bs))

spaceless : (bs : List ℕ) → Bytes bs → (k : ℕ) → k < length (hex_of bs)
    → get_or (hex_of bs) k 0 ≡ 32 → ⊥
spaceless [] h zero l e = omega arith
spaceless [] h (suc k) l e = omega arith
spaceless (b ∷ bs) h k l e =
    let v = (bytes-digits (b ∷ bs) h).each k l in
    let w : value_of (get_or (digits_of (b ∷ bs)) k 0) ≡ 16 =
    ap value_of e ∙ value-below 32 (omega arith) in
    omega arith

pub no_space : (bs text : List ℕ) → Bytes bs → hex_of bs ≡ smalls text → (k : ℕ)
    → k < length text → get_or text k 0 ≡ 32 → ⊥
no_space bs text h w k l e =
    spaceless bs h k (omega (arith, ap length w, smalls-length text))
    (ap (λ (t : List ℕ). get_or t k 0) w ∙ small_at text k ∙ ap small e
    ∙ small-below 32 (omega arith))

-- a digit that is written is small
digit-small : (d : ℕ) → d < 16 → small (digit d) ≡ digit d
digit-small d h = go (ltb d 10) refl
  where
    go : (t : Bool) → ltb d 10 ≡ t → small (digit d) ≡ digit d
    go true e =
        small-below (digit d) (omega (arith, low_digit d (ltb-true d 10 e)))
    go false e =
        small-above (digit d) (omega (arith, high_digit d (ltb-false d 10 e)))

digits-small : (bs : List ℕ) → Bytes bs → smalls (digits_of bs) ≡ digits_of bs
unfolding digits_of
digits-small [] h = refl
digits-small (b ∷ bs) h =
    let u = digit-small (b / 16) (omega (arith, bytes-head h)) in
    let v = digit-small (b % 16) (omega arith) in
    let rest = digits-small bs (bytes-tail h) in
    λ i. u i ∷ v i ∷ rest i

-- the hex of bytes, as it is written, is the hex of these bytes, as it is read
pub hex-small : (bs : List ℕ) → Bytes bs → hex_of bs ≡ smalls (hex_of bs)
hex-small [] h = ap (λ (x : ℕ). x ∷ []) (sym (small-below 45 (omega arith)))
hex-small (b ∷ bs) h = sym (digits-small (b ∷ bs) h)

pub hex-once : {text o p q : List ℕ} {a b : Result ℕ HexError} → HexIs text o a p → HexIs text o b q
    → (a ≡ b) × (p ≡ q)
hex-once {o = o} (read x h l e) (read y k m f) =
    let s = hex-same x y h k (e ∙ sym f) in
    (ap (λ (z : List ℕ). Ok (length z)) s, ap (λ (z : List ℕ). z ++ drop (length z) o) s)
hex-once (read x h l e) (long y k m f) =
    absurd (omega (arith, ap length (hex-same x y h k (e ∙ sym f))))
hex-once (read x h l e) (bad n) = absurd (n x h e)
hex-once (long x h l e) (read y k m f) =
    absurd (omega (arith, ap length (hex-same x y h k (e ∙ sym f))))
hex-once (long x h l e) (long y k m f) = (refl, refl)
hex-once (long x h l e) (bad n) = absurd (n x h e)
hex-once (bad n) (read y k m f) = absurd (n y k f)
hex-once (bad n) (long y k m f) = absurd (n y k f)
hex-once (bad n) (bad m) = (refl, refl)
