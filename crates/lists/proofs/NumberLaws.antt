-- A decimal alone, both ways; and that it has none of the signs that part lists.
use Prim.Native.Nat.{ℕ, zero, suc, ◌+◌, ◌/◌, ◌%◌, ◌^◌, ◌≤◌, ◌<◌}
use mathlib.Core.Path.{◌≡◌, refl, sym, ap, ◌∙◌, subst}
use mathlib.Core.Bool.{true, false, not, ◌||◌}
use mathlib.Core.List.{List, [], ◌∷◌, ◌++◌, append-nil}
use native.Mathlib.Omega.{arith}
use native.Mathlib.Nat.{mod-lt}
use lib.Dec.{eqb, ltb}
use lib.ListN.{length, drop, length-append}
use borrow.Author.Tests.{eqb-true, ne_eqb, ltb-true, lt-ltb, le-ltb, not-false}
use Rattle.std.proofs.Common.{None}
use Rattle.rules.specs.Pick.{pick, pick_true, pick-false}
use Rattle.rules.specs.Every.{each}
use Rattle.print.specs.Decimal.{decimal_of, decimal, spaced}
use Rattle.print.proofs.DecimalLaws.{few-digits, tenth_below}
use Rattle.laws.proofs.Logic.{Or, left, right, decide, or_no, and_yes, and_both, cond_elim}
use Rattle.lines.specs.Table.{starts}
use Rattle.lines.specs.Read.{no_numbers, numbers_of, one_of, read_one}
use Rattle.lines.specs.Printed.{parted}
use Rattle.lines.specs.declared.Numbers.{Numbers}
use Rattle.lines.proofs.NumberLaws.{read-parted, last_of, small, numbers-read}
use Rattle.lists.specs.Lists.{value_of, number_in}

-- what a number that was read says
pub record Number (s : List ℕ) (x : ℕ) : Type 0 where
  pub text : s ≡ decimal x
  pub small : x < 4294967296

alone : (n : Numbers) (s : List ℕ) → n ≡ numbers_of s → n.bad ≡ false → n.count ≡ 1
    → Number s n.d
unfolding each spaced
alone n s e b c =
    let p = read-parted s (sym (ap (λ (m : Numbers). m.bad) e) ∙ b) in
    let last : last_of (numbers_of s).count (numbers_of s) ≡ n.d ∷ [] =
    ap (λ (m : Numbers). last_of m.count m) (sym e) ∙ ap (λ k. last_of k n) c in
    record {
      text = p.bytes ∙ ap parted last ∙ append-nil (decimal n.d);
      small = ltb-true n.d 4294967296
          (and_yes (small n.d) true (subst (λ xs. each small xs ≡ true) last p.range)).0;
    }

-- a number that is not 0 was read from its decimal
pub number_is : (s : List ℕ) → (number_in s ≡ 0 → ⊥) → Number s (number_in s)
unfolding number_in read_one one_of
number_is s some = go (decide (ltb 64 (length s) || not (starts [] s))) some
  where
    n : Numbers
    n = numbers_of (drop 0 s)

    whole : number_in s ≡ value_of (pick (ltb 64 (length s) || not (starts [] s)) None
        (one_of n))
    whole = refl

    go : Or ((ltb 64 (length s) || not (starts [] s)) ≡ true)
        ((ltb 64 (length s) || not (starts [] s)) ≡ false)
        → (number_in s ≡ 0 → ⊥) → Number s (number_in s)
    go (left t) f = absurd (f (whole ∙ ap value_of (pick_true _ _ _ t)))
    go (right t) f = on (decide (n.bad || not (eqb n.count 1)))
      where
        one : number_in s ≡ value_of (one_of n)
        one = whole ∙ ap value_of (pick-false _ _ _ t)

        on : Or ((n.bad || not (eqb n.count 1)) ≡ true)
            ((n.bad || not (eqb n.count 1)) ≡ false) → Number s (number_in s)
        on (left u) = absurd (f (one ∙ ap value_of (pick_true _ _ _ u)))
        on (right u) =
            let p = or_no n.bad (not (eqb n.count 1)) u in
            let c = eqb-true n.count 1 (not-false (eqb n.count 1) p.1) in
            subst (Number s) (sym (one ∙ ap value_of (pick-false _ _ _ u)))
            (alone n s refl p.0 c)

-- and its decimal is read
pub number_read : (x : ℕ) → x < 4294967296 → number_in (decimal x) ≡ x
unfolding number_in read_one one_of starts each spaced pick
number_read x h =
    let big : x < 10 ^ 10 = omega arith in
    let few : length (decimal x) ≤ 10 = few-digits 19 9 x big in
    let n : numbers_of (decimal x) ≡ record {
      bad = false;
      begun = false;
      value = 0;
      count = 1;
      a = 0;
      b = 0;
      c = 0;
      d = x;
    } =
    ap numbers_of (sym (append-nil (decimal x)))
    ∙ numbers-read x [] no_numbers refl refl refl (omega arith)
    (and_both (lt-ltb x 4294967296 h) refl)
    in
    ap value_of
    (pick-false _ _ _ (ap (λ b. b || false) (le-ltb 64 (length (decimal x)) (omega arith)))
    ∙ ap one_of n)

-- ---- no sign in a decimal

-- the byte b is not in a text
abbrev pub Without : ℕ → List ℕ → Type 0
Without b s = each (λ x. not (eqb x b)) s ≡ true

pub without_append : (b : ℕ) (s t : List ℕ) → Without b s → Without b t → Without b (s ++ t)
unfolding each
without_append b [] t p q = q
without_append b (x ∷ s) t p q =
    let r = and_yes (not (eqb x b)) (each (λ y. not (eqb y b)) s) p in
    and_both r.0 (without_append b s t r.1 q)

one_byte : (b x : ℕ) → (x ≡ b → ⊥) → Without b (x ∷ [])
unfolding each
one_byte b x h = and_both (ap not (ne_eqb x b h)) refl

-- a sign that is no digit
module _ (b : ℕ) (sign : (d : ℕ) → d < 10 → 48 + d ≡ b → ⊥) where
  digits-without : (f n : ℕ) → n < 10 ^ suc f → Without b (decimal_of f n)
  unfolding decimal_of
  digits-without zero n h = one_byte b (48 + n) (sign n (omega arith))
  digits-without (suc f) n h =
      cond_elim (Without b) (ltb n 10)
      (λ t. one_byte b (48 + n) (sign n (ltb-true n 10 t)))
      (λ t. without_append b (decimal_of f (n / 10)) ((48 + n % 10) ∷ [])
      (digits-without f (n / 10) (tenth_below (suc f) n h))
      (one_byte b (48 + n % 10) (sign (n % 10) (mod-lt n ten))))
    where
      ten : 0 < 10
      ten = omega arith

  pub decimal-without : (x : ℕ) → x < 4294967296 → Without b (decimal x)
  decimal-without x h = digits-without 19 x (omega arith)

-- a decimal has a digit
pub some-digit : (x : ℕ) → 0 < length (decimal x)
unfolding decimal_of
some-digit x =
    let rest = decimal_of 18 (x / 10) in
    let one : 0 < length ((48 + x) ∷ []) = omega arith in
    let more : 0 < length (rest ++ ((48 + x % 10) ∷ [])) =
    omega (arith, length-append rest ((48 + x % 10) ∷ [])) in
    cond_elim (λ (s : List ℕ). 0 < length s) (ltb x 10) (λ t. one) (λ t. more)
