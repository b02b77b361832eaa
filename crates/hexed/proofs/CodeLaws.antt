-- What each function of `hex` shows, of variables: one turn of each loop, and the answers.
use Prim.Native.Nat.{ℕ, suc, ◌+◌, ◌*◌, ◌/◌, ◌%◌, ◌≤◌, ◌<◌}
use mathlib.Core.Path.{◌≡◌, refl, ap, sym, ◌∙◌, subst}
use mathlib.Core.Bool.{Bool, true, false, ◌&&◌}
use mathlib.Core.List.{List, [], ◌∷◌, ◌++◌, append_assoc}
use native.Mathlib.Omega.{arith}
use native.Mathlib.Numerals.{add-one}
use lib.Dec.{eqb}
use lib.ListN.{length, get_or, take, drop, set}
use lib.Pointwise.{pointwise}
use lib.Seq.{take-suc, take-suc-set, take_all, length-take-le}
use borrow.Author.Tests.{eqb-true, eqb-false}
use Rattle.std.proofs.Common.{Ok, Err}
use Rattle.print.specs.Text.{Wrote}
use Rattle.print.proofs.WriteLaws.{then, nothing, spelled, at_most}
use Rattle.hexed.specs.declared.HexError.{HexError}
use Rattle.hexed.specs.Hex.{digit, digits_of, hex_of, small, smalls, Bytes, HexIs, read, long}
use Rattle.hexed.specs.Hex.{bad, value_of, Tells, Digits, Paired, NoBytes}
use Rattle.hexed.proofs.HexLaws.{digit_value, small-below, small_at, small-keeps}
use Rattle.hexed.proofs.HexLaws.{smalls-length, digits_append, digits-length, digits-back}
use Rattle.hexed.proofs.HexLaws.{bytes-digits, digits-bytes, no_bytes}

two : {a b c d : ℕ} → a ≡ b → c ≡ d → a ∷ c ∷ [] ≡ b ∷ d ∷ []
two e f = λ i. e i ∷ f i ∷ []

-- ---- writing

pub pair-wrote : (b x y : ℕ) {i j k : ℕ} {o p q : List ℕ} → x ≡ digit (b / 16) → y ≡ digit (b % 16)
    → Wrote 1 o p i j (x ∷ []) → Wrote 1 p q j k (y ∷ []) → Wrote 2 o q i k (digits_of (b ∷ []))
unfolding digits_of
pair-wrote b x y e f u v = spelled (two e f) (then u v)

pub digits-none : (src : List ℕ) {o : List ℕ} {i : ℕ}
    → Wrote (2 * 0) o o i i (digits_of (take 0 src))
unfolding digits_of
digits-none src = nothing

pub digits_more : (src : List ℕ) (i : ℕ) {o p q : List ℕ} {at j k : ℕ} → i < length src
    → Wrote (2 * i) o p at j (digits_of (take i src))
    → Wrote 2 p q j k (digits_of (get_or src i 0 ∷ []))
    → Wrote (2 * (i + 1)) o q at k (digits_of (take (i + 1) src))
digits_more src i h u v =
    at_most (omega arith) (spelled (sym (digits_append (take i src) (get_or src i 0 ∷ []))
    ∙ ap digits_of (sym (rw add-one (take-suc src i 0 h)))) (then u v))

pub digits-all : (src : List ℕ) (i : ℕ) {o p : List ℕ} {at j : ℕ} → length src ≤ i
    → i ≤ length src → Wrote (2 * i) o p at j (digits_of (take i src))
    → Wrote (2 * length src) o p at j (digits_of src)
digits-all src i h k w = at_most (omega arith) (spelled (ap digits_of (take_all i src h)) w)

pub hex-none : (src : List ℕ) {o p : List ℕ} {at j : ℕ} → length src ≡ 0
    → Wrote 1 o p at j (45 ∷ []) → Wrote (2 * length src + 1) o p at j (hex_of src)
hex-none [] e w = w
hex-none (b ∷ src) e w = absurd (omega arith)

pub hex-some : (src : List ℕ) {o p : List ℕ} {at j : ℕ} → (length src ≡ 0 → ⊥)
    → Wrote (2 * length src) o p at j (digits_of src)
    → Wrote (2 * length src + 1) o p at j (hex_of src)
hex-some [] e w = absurd (e refl)
hex-some (b ∷ src) e w = at_most (omega arith) w

-- ---- reading

-- what is read of a byte is the value of the digit at its place
pub digit-read : (text : List ℕ) (k x : ℕ) → x ≡ value_of (small (get_or text k 0))
    → x ≡ value_of (get_or (smalls text) k 0)
digit-read text k x e = e ∙ ap value_of (sym (small_at text k))

pub got_none : (text out : List ℕ) → digits_of (take 0 out) ≡ take (2 * 0) text
unfolding digits_of
got_none text out = refl

take-two : (text : List ℕ) (k : ℕ) → k + 1 < length text
    → take (k + 2) text ≡ take k text ++ (get_or text k 0 ∷ get_or text (k + 1) 0 ∷ [])
take-two text k h =
    let e : k + 2 ≡ suc (k + 1) = omega arith in
    let f : k + 1 ≡ suc k = omega arith in
    ap (λ (n : ℕ). take n text) e ∙ take-suc text (k + 1) 0 h
    ∙ ap (λ (n : ℕ). take n text ++ (get_or text (k + 1) 0 ∷ [])) f
    ∙ ap (λ (l : List ℕ). l ++ (get_or text (k + 1) 0 ∷ [])) (take-suc text k 0 (omega arith))
    ∙ append_assoc (take k text) (get_or text k 0 ∷ []) (get_or text (k + 1) 0 ∷ [])

pub got_more : (text out : List ℕ) (i x y : ℕ) → length text ≡ 2 * length out → Digits text
    → i < length out → x ≡ value_of (get_or text (2 * i) 0)
    → y ≡ value_of (get_or text (2 * i + 1) 0) → digits_of (take i out) ≡ take (2 * i) text
    → digits_of (take (i + 1) (set out i (x * 16 + y))) ≡ take (2 * (i + 1)) text
unfolding digits_of
got_more text out i x y w d h e f g =
    let high = d.each (2 * i) (omega arith) in
    let low = d.each (2 * i + 1) (omega arith) in
    let q : (x * 16 + y) / 16 ≡ x = omega arith in
    let r : (x * 16 + y) % 16 ≡ y = omega arith in
    let u : digit ((x * 16 + y) / 16) ≡ get_or text (2 * i) 0 =
    ap digit (q ∙ e) ∙ digit_value (get_or text (2 * i) 0) high in
    let v : digit ((x * 16 + y) % 16) ≡ get_or text (2 * i + 1) 0 =
    ap digit (r ∙ f) ∙ digit_value (get_or text (2 * i + 1) 0) low in
    let n : 2 * (i + 1) ≡ 2 * i + 2 = omega arith in
    let s : take (i + 1) (set out i (x * 16 + y)) ≡ take i out ++ ((x * 16 + y) ∷ []) =
    rw add-one (take-suc-set out i (x * 16 + y) h) in
    ap digits_of s ∙ digits_append (take i out) ((x * 16 + y) ∷ [])
    ∙ ap (λ (l : List ℕ). l ++ digits_of ((x * 16 + y) ∷ [])) g
    ∙ ap (λ (l : List ℕ). take (2 * i) text ++ l) (two u v)
    ∙ sym (take-two text (2 * i) (omega arith)) ∙ ap (λ (k : ℕ). take k text) (sym n)

pub got_all : (text out : List ℕ) (i : ℕ) → length text ≡ 2 * length out → length out ≤ i
    → digits_of (take i out) ≡ take (2 * i) text → digits_of out ≡ text
got_all text out i w h g =
    ap digits_of (sym (take_all i out h)) ∙ g ∙ take_all (2 * i) text (omega arith)

pub tells-yes : {P : Type 0} (t : Bool) → t ≡ true → Tells t P → P
tells-yes {P} t e h = subst (λ (u : Bool). Tells u P) e h

pub tells-no : {P : Type 0} (t : Bool) → t ≡ false → Tells t P → P → ⊥
tells-no {P} t e h = subst (λ (u : Bool). Tells u P) e h

dash : (text : List ℕ) → Tells (pointwise eqb text (45 ∷ [])) (NoBytes (smalls text))
dash [] = λ n. absurd (omega (arith, ap length n.dash))
dash (a ∷ b ∷ l) = longer (eqb a 45)
  where
    longer : (t : Bool) → Tells (t && false) (NoBytes (smalls (a ∷ b ∷ l)))
    longer true = λ n. absurd (omega (arith, ap length n.dash))
    longer false = λ n. absurd (omega (arith, ap length n.dash))
dash (a ∷ []) = go (eqb a 45) refl
  where
    go : (t : Bool) → eqb a 45 ≡ t → Tells (t && true) (NoBytes (small a ∷ []))
    go true f =
        let k = eqb-true a 45 f in
        record { dash = ap (λ (x : ℕ). x ∷ []) (small-below a (omega arith) ∙ k) }
    go false f =
        λ n. eqb-false a 45 f
        (small-keeps a 45 (omega arith) (ap (λ (l : List ℕ). get_or l 0 0) n.dash))

-- the text compared with the dash
pub is-dash : (text : List ℕ) {t : Bool} {s : List ℕ} → t ≡ pointwise eqb text s → s ≡ 45 ∷ []
    → Tells t (NoBytes (smalls text))
is-dash text e f =
    subst (λ (u : Bool). Tells u (NoBytes (smalls text)))
    (sym (e ∙ ap (pointwise eqb text) f)) (dash text)

pub pairs-some : (text : List ℕ) → Paired (smalls text) → length text ≡ 0 → ⊥
pairs-some text p e = omega (arith, p.some, smalls-length text)

pub pairs-even : (text : List ℕ) → Paired (smalls text) → length text % 2 ≡ 0
pairs-even text p = omega (arith, p.even, smalls-length text)

pub paired_when : (text : List ℕ) (t : Bool) → (length text ≡ 0 → ⊥) → length text % 2 ≡ 0
    → Tells t (Digits (smalls text)) → Tells t (Paired (smalls text))
paired_when text true h e d =
    let n = smalls-length text in record { some = omega arith; even = omega arith; digits = d }
paired_when text false h e d = λ p. d p.digits

pub read_none : (text o : List ℕ) → NoBytes (smalls text) → HexIs text o (Ok 0) o
read_none text o h = read [] no_bytes (omega arith) (sym h.dash)

pub pairs_fill : (text o : List ℕ) (k : ℕ) → Paired (smalls text) → k ≡ length text / 2
    → k ≤ length o → length text ≡ 2 * length (take k o)
pairs_fill text o k p m h = omega (arith, p.even, smalls-length text, length-take-le k o h)

-- a text that is neither `-` nor pairs of digits
some-paired : (b : ℕ) (bs : List ℕ) → Bytes (b ∷ bs) → Paired (digits_of (b ∷ bs))
some-paired b bs h =
    let n = digits-length (b ∷ bs) in
    record { some = omega arith; even = omega arith; digits = bytes-digits (b ∷ bs) h }

pub read-bad : (text o : List ℕ) → (NoBytes (smalls text) → ⊥) → (Paired (smalls text) → ⊥)
    → HexIs text o (Err HexError.Bad) o
read-bad text o h k = bad go
  where
    go : (bs : List ℕ) → Bytes bs → hex_of bs ≡ smalls text → ⊥
    go [] w e = h (record { dash = sym e })
    go (b ∷ bs) w e = k (subst Paired e (some-paired b bs w))

-- pairs of digits for more bytes than there is room for
long-bytes : (text o bs : List ℕ) → Paired (smalls text) → length o < length text / 2
    → digits_of bs ≡ smalls text → HexIs text o (Err HexError.Long) o
long-bytes text o [] p l e = absurd (omega (arith, p.some, ap length e, digits-length []))
long-bytes text o (b ∷ bs) p l e =
    long (b ∷ bs) (digits-bytes (b ∷ bs) (subst Digits (sym e) p.digits))
    (omega (arith, ap length e, digits-length (b ∷ bs), smalls-length text)) e

pub read-long : (text o : List ℕ) (n : ℕ) → Paired (smalls text) → n ≡ length text / 2
    → length o < n → HexIs text o (Err HexError.Long) o
read-long text o n p m l =
    long-bytes text o _ p (omega arith) (digits-back (smalls text) p.digits p.even)

pub read_all : (text o bs : List ℕ) (n k : ℕ) → Paired (smalls text) → n ≡ length text / 2
    → k ≡ n → n ≤ length o → digits_of bs ≡ smalls text
    → HexIs text o (Ok n) (bs ++ drop k o)
read_all text o [] n k p m f l e = absurd (omega (arith, p.some, ap length e, digits-length []))
read_all text o (b ∷ bs) n k p m f l e =
    let g : n ≡ length (b ∷ bs) =
    omega (arith, ap length e, digits-length (b ∷ bs), smalls-length text, p.even) in
    subst (λ (x : ℕ). HexIs text o (Ok n) ((b ∷ bs) ++ drop x o)) (sym f)
    (subst (λ (x : ℕ). HexIs text o (Ok x) ((b ∷ bs) ++ drop x o)) (sym g)
    (read (b ∷ bs) (digits-bytes (b ∷ bs) (subst Digits (sym e) p.digits)) (omega arith) e))
