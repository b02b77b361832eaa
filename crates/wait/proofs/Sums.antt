-- Sums over the boxes 1 to n, and how many boxes pass a test.
use Prim.Native.Nat.{ℕ, zero, suc, ◌+◌, ◌-◌, ◌*◌, ◌≤◌, ◌<◌}
use mathlib.Core.Path.{◌≡◌, refl, sym, ap, ◌∙◌, subst}
use mathlib.Core.Bool.{Bool, true, false, not, ◌&&◌, cond}
use native.Mathlib.Omega.{arith}
use lib.Count.{ones}
use borrow.Author.Tests.{ne_eqb}
use Rattle.rules.specs.Sizes.{most_boxes}
use Rattle.rules.specs.Sets.{has, set_form, without}
use Rattle.rules.specs.Every.{tally}
use Rattle.laws.proofs.Logic.{Or, left, right, In, same?, both-no, eqb_same}
use Rattle.laws.proofs.Counts.{one, in_up, in_top, in_down, tally_ext}
use Rattle.laws.proofs.SetLaws.{has-without, ones-tally}
use Rattle.wait.proofs.Going.{sum}

-- ---- sums

-- g is at most f and what h adds
pub sum-le : (n : ℕ) (f g h : ℕ → ℕ) → ((i : ℕ) → In i n → g i ≤ f i + h i)
    → sum n g ≤ sum n f + sum n h
unfolding sum
sum-le zero f g h l = omega arith
sum-le (suc n) f g h l =
    omega (arith, l (suc n) (in_top n), sum-le n f g h (λ i k. l i (in_up k)))

-- .. and v more leaves at b
pub sum_moves : (n : ℕ) (f g h : ℕ → ℕ) (b v : ℕ) → In b n
    → ((i : ℕ) → In i n → (i ≡ b → ⊥) → g i ≤ f i + h i) → g b + v ≤ f b + h b
    → sum n g + v ≤ sum n f + sum n h
unfolding sum
sum_moves zero f g h b v hb l m = absurd (omega (arith, hb.0, hb.1))
sum_moves (suc n) f g h b v hb l m =
    go (same? b (suc n)) (λ k. sum_moves n f g h b v k (λ i j. l i (in_up j)) m)
  where
    go : Or (b ≡ suc n) (b ≡ suc n → ⊥) → (In b n → sum n g + v ≤ sum n f + sum n h)
        → g (suc n) + sum n g + v ≤ f (suc n) + sum n f + (h (suc n) + sum n h)
    go (left e) ih =
        let top : g (suc n) + v ≤ f (suc n) + h (suc n) =
        subst (λ (k : ℕ). g k + v ≤ f k + h k) e m in
        let rest = sum-le n f g h (λ i k. l i (in_up k) (λ d. omega (arith, k.1, d, e))) in
        omega (arith, top, rest)
    go (right e) ih =
        let top = l (suc n) (in_top n) (λ d. e (sym d)) in
        omega (arith, top, ih (in_down hb e))

pub sum-zero : (n : ℕ) (f : ℕ → ℕ) → ((i : ℕ) → In i n → f i ≡ 0) → sum n f ≡ 0
unfolding sum
sum-zero zero f h = refl
sum-zero (suc n) f h =
    omega (arith, h (suc n) (in_top n), sum-zero n f (λ i k. h i (in_up k)))

-- at most w for each that passes
pub sum-few : (n : ℕ) (f : ℕ → ℕ) (p : ℕ → Bool) (w : ℕ)
    → ((i : ℕ) → In i n → f i ≤ cond (p i) w 0) → sum n f ≤ tally n p * w
unfolding sum tally
sum-few zero f p w h = omega arith
sum-few (suc n) f p w h =
    go (p (suc n)) (h (suc n) (in_top n)) (sum-few n f p w (λ i k. h i (in_up k)))
  where
    go : (b : Bool) → f (suc n) ≤ cond b w 0 → sum n f ≤ tally n p * w
        → f (suc n) + sum n f ≤ (cond b 1 0 + tally n p) * w
    go true l ih = omega (arith, l, ih)
    go false l ih = omega (arith, l, ih)

-- ---- counts

pub tally-up : (n : ℕ) (p q : ℕ → Bool) → ((i : ℕ) → In i n → p i ≡ true → q i ≡ true)
    → tally n p ≤ tally n q
unfolding tally
tally-up zero p q h = omega arith
tally-up (suc n) p q h =
    go (p (suc n)) (q (suc n)) (h (suc n) (in_top n)) (tally-up n p q (λ i k. h i (in_up k)))
  where
    go : (a b : Bool) → (a ≡ true → b ≡ true) → tally n p ≤ tally n q
        → one a + tally n p ≤ one b + tally n q
    go true true f ih = omega (arith, ih)
    go true false f ih = absurd (both-no (f refl) refl)
    go false true f ih = omega (arith, ih)
    go false false f ih = omega (arith, ih)

-- .. and one at least is no longer counted
pub tally-less : (n : ℕ) (p q : ℕ → Bool) (b : ℕ) → In b n → p b ≡ false → q b ≡ true
    → ((i : ℕ) → In i n → p i ≡ true → q i ≡ true)
    → tally n p < tally n q
unfolding tally
tally-less zero p q b hb off on h = absurd (omega (arith, hb.0, hb.1))
tally-less (suc n) p q b hb off on h =
    go (same? b (suc n)) (λ k. tally-less n p q b k off on (λ i j. h i (in_up j)))
  where
    up : (a b : Bool) → (a ≡ true → b ≡ true) → one a ≤ one b
    up true true f = omega arith
    up true false f = absurd (both-no (f refl) refl)
    up false true f = omega arith
    up false false f = omega arith

    go : Or (b ≡ suc n) (b ≡ suc n → ⊥) → (In b n → tally n p < tally n q)
        → one (p (suc n)) + tally n p < one (q (suc n)) + tally n q
    go (left e) ih =
        let p0 : one (p (suc n)) ≡ 0 = ap one (subst (λ (k : ℕ). p k ≡ false) e off) in
        let q1 : one (q (suc n)) ≡ 1 = ap one (subst (λ (k : ℕ). q k ≡ true) e on) in
        omega (arith, p0, q1, tally-up n p q (λ i k. h i (in_up k)))
    go (right e) ih =
        omega (arith, ih (in_down hb e), up (p (suc n)) (q (suc n)) (h (suc n) (in_top n)))

-- all but one
pub tally_but : (n : ℕ) (p q : ℕ → Bool) (c : ℕ) → In c n → p c ≡ true → q c ≡ false
    → ((i : ℕ) → In i n → (i ≡ c → ⊥) → p i ≡ q i)
    → tally n p ≡ 1 + tally n q
unfolding tally
tally_but zero p q c hc on off h = absurd (omega (arith, hc.0, hc.1))
tally_but (suc n) p q c hc on off h =
    go (same? c (suc n)) (λ k. tally_but n p q c k on off (λ i j. h i (in_up j)))
  where
    go : Or (c ≡ suc n) (c ≡ suc n → ⊥) → (In c n → tally n p ≡ 1 + tally n q)
        → one (p (suc n)) + tally n p ≡ 1 + (one (q (suc n)) + tally n q)
    go (left e) ih =
        let a : one (p (suc n)) ≡ 1 = ap one (subst (λ (k : ℕ). p k ≡ true) e on) in
        let b : one (q (suc n)) ≡ 0 = ap one (subst (λ (k : ℕ). q k ≡ false) e off) in
        omega (
          arith,
          a,
          b,
          tally_ext n p q (λ i k. h i (in_up k) (λ d. omega (arith, k.1, d, e))),
        )
    go (right e) ih =
        let a : one (p (suc n)) ≡ one (q (suc n)) =
        ap one (h (suc n) (in_top n) (λ d. e (sym d))) in
        omega (arith, a, ih (in_down hc e))

-- a set by form without one of its boxes
pub tally-without : (n w c : ℕ) → n ≤ most_boxes → set_form n w ≡ true → In c n → has w c ≡ true
    → tally n (has (without w c)) ≡ ones w - 1
tally-without n w c few e hc on =
    let all = ones-tally n w e in
    omega (arith, all, tally_but n (has w) (has (without w c)) c hc on off same)
  where
    up : (i : ℕ) → In i n → In i most_boxes
    up i k = (k.0, omega (arith, k.1, few))

    and-off : (a : Bool) → (a && false) ≡ false
    and-off true = refl
    and-off false = refl

    and-on : (a : Bool) → a ≡ (a && true)
    and-on true = refl
    and-on false = refl

    off : has (without w c) c ≡ false
    off =
        has-without w c c (up c hc) (up c hc)
        ∙ ap (λ (t : Bool). has w c && not t) (eqb_same c) ∙ and-off (has w c)

    same : (i : ℕ) → In i n → (i ≡ c → ⊥) → has w i ≡ has (without w c) i
    same i k d =
        and-on (has w i)
        ∙ sym (has-without w c i (up c hc) (up i k)
        ∙ ap (λ (t : Bool). has w i && not t) (ne_eqb i c d))
