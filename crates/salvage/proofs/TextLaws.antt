-- How long a load's line is at most, and names that are told by a case.
use mathlib.Core.Path.{◌≡◌, sym, ap, ◌∙◌, subst}
use mathlib.Core.Bool.{true, false}
use mathlib.Core.Logic.{⊎_elim}
use Prim.Native.Nat.{ℕ, zero, suc, ◌+◌, ◌/◌, ◌%◌, ◌^◌, ◌≤◌, ◌<◌}
use native.Mathlib.Omega.{arith}
use mathlib.Core.List.{List, [], ◌∷◌, ◌++◌}
use lib.Dec.{leb, eqb}
use lib.ListN.{length, length-append}
use borrow.Author.Tests.{leb-true, eq-eqb, ne_eqb}
use Rattle.rules.specs.Pick.{pick_true, pick-false}
use Rattle.rules.specs.Sizes.{most_boxes, most_number, left_of, right_of}
use Rattle.values.specs.declared.Field.{Field}
use Rattle.print.specs.Bytes.{bytes}
use Rattle.print.specs.Decimal.{decimal_of, decimal}
use Rattle.print.specs.Text.{Wrote}
use Rattle.print.proofs.DecimalLaws.{one_or_more, one-digit, more-digits, tenth_below}
use Rattle.print.proofs.WriteLaws.{nothing, spelled, at_most}
use Rattle.found.specs.declared.Spot.{Spot}
use Rattle.found.specs.Found.{Found}
use Rattle.salvage.specs.declared.loads.Tally.{Tally}
use Rattle.salvage.specs.Loads.{record_text, differs_text}
use Rattle.salvage.specs.Tally.{tally_text}
use Rattle.salvage.specs.Block.{field_text, spot_text, found_text}

-- a text is no longer than its bytes
pub shorter : {m n i j : ℕ} {a b : List ℕ} (s : List ℕ) → length s ≤ n → Wrote m a b i j s
    → Wrote n a b i j s
shorter s h w =
    let e = w.end in
    record { bytes = w.bytes; end = w.end; few = omega arith; room = w.room }

digits-few : (f g n : ℕ) → n < 10 ^ suc g → length (decimal_of f n) ≤ suc g
unfolding decimal_of
digits-few zero g n h = omega arith
digits-few (suc f) zero n h =
    let e = one-digit (suc f) n h in
    let l = ap length e in
    omega arith
digits-few (suc f) (suc g) n h =
    ⊎_elim
    (λ (l : n < 10).
    let e = ap length (one-digit (suc f) n l) in
    let r : length (decimal_of (suc f) n) ≤ suc (suc g) = omega arith in
    r)
    (λ (l : 10 ≤ n).
    let e = ap length (more-digits f n l) in
    let a = length-append (decimal_of f (n / 10)) ((48 + n % 10) ∷ []) in
    let ih = digits-few f g (n / 10) (tenth_below (suc g) n h) in
    let r : length (decimal_of (suc f) n) ≤ suc (suc g) = omega arith in
    r)
    (one_or_more n)

ten-digits : (n : ℕ) → n < 10000000000 → length (decimal n) ≤ 10
ten-digits n h = digits-few 19 9 n h

one_place : (n : ℕ) → n < 10 → length (decimal n) ≤ 1
one_place n h = digits-few 19 0 n h

module _ (k : ℕ) (h : k ≤ most_number) where
  pub record_short : (r many : ℕ) → r < 2 ^ 64 → many ≤ most_boxes
      → length (record_text k r many) ≤ 40
  record_short r many b m =
      let a = ten-digits k (omega arith) in
      let c = ten-digits (left_of r) (omega arith) in
      let d = ten-digits (right_of r) (omega arith) in
      let e = one_place many (omega arith) in
      let e1 = length-append (32 ∷ decimal many) (10 ∷ []) in
      let e2 = length-append (32 ∷ decimal (right_of r)) ((32 ∷ decimal many) ++ (10 ∷ [])) in
      let e3 = length-append (32 ∷ decimal (left_of r))
      ((32 ∷ decimal (right_of r)) ++ ((32 ∷ decimal many) ++ (10 ∷ []))) in
      let e4 = length-append (decimal k) ((32 ∷ decimal (left_of r))
      ++ ((32 ∷ decimal (right_of r)) ++ ((32 ∷ decimal many) ++ (10 ∷ [])))) in
      omega arith

  pub differs-short : length (differs_text k) ≤ 40
  differs-short =
      let a = ten-digits k (omega arith) in
      let e = length-append (decimal k) (bytes " differs\n") in
      omega arith

-- ---- by cases

pub field_put : {f g : Field} {m i j : ℕ} {a b : List ℕ} → f ≡ g → leb m 24 ≡ true
    → Wrote m a b i j (field_text g) → Wrote 24 a b i j (field_text f)
field_put {f} {g} {m} {i} {j} {a} {b} e h w =
    subst (λ (x : Field). Wrote 24 a b i j (field_text x)) (sym e)
    (at_most (leb-true m 24 h) w)

pub spot_put : {s t : Spot} {m i j : ℕ} {a b : List ℕ} → s ≡ t → leb m 93 ≡ true
    → Wrote m a b i j (spot_text t) → Wrote 93 a b i j (spot_text s)
spot_put {s} {t} {m} {i} {j} {a} {b} e h w =
    subst (λ (x : Spot). Wrote 93 a b i j (spot_text x)) (sym e) (at_most (leb-true m 93 h) w)

pub found-put : {f g : Found} {m i j : ℕ} {a b : List ℕ} → f ≡ g → leb m 105 ≡ true
    → Wrote m a b i j (found_text g) → Wrote 105 a b i j (found_text f)
found-put {f} {g} {m} {i} {j} {a} {b} e h w =
    subst (λ (x : Found). Wrote 105 a b i j (found_text x)) (sym e) (at_most (leb-true m 105 h) w)

-- what is written of a number
module _ (k : ℕ) (t : Tally) where
  pub load-none : {i : ℕ} {a : List ℕ} → t.many ≡ 0 → Wrote 40 a a i i (tally_text k t)
  unfolding tally_text
  load-none e =
      at_most {m = 0} (omega arith)
      (spelled (sym (pick_true (eqb t.many 0) _ _ (eq-eqb t.many 0 e))) nothing)

  module _ {i j : ℕ} {a b : List ℕ} (some : t.many ≡ 0 → ⊥) where
    pub load-differs : t.differs ≡ true → Wrote 40 a b i j (differs_text k)
        → Wrote 40 a b i j (tally_text k t)
    unfolding tally_text
    load-differs d w =
        spelled
        (sym (pick-false (eqb t.many 0) _ _ (ne_eqb t.many 0 some)
        ∙ pick_true t.differs _ _ d)) w

    pub load_same : t.differs ≡ false → Wrote 40 a b i j (record_text k t.value t.many)
        → Wrote 40 a b i j (tally_text k t)
    unfolding tally_text
    load_same d w =
        spelled
        (sym (pick-false (eqb t.many 0) _ _ (ne_eqb t.many 0 some)
        ∙ pick-false t.differs _ _ d)) w
