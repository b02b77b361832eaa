-- What set words mean: their members, form and count; and when a present set is a majority.
use Prim.Native.Nat.{ℕ, zero, suc, ◌+◌, ◌*◌, ◌-◌, ◌/◌, ◌%◌, ◌≤◌, ◌<◌, min, max}
use mathlib.Core.Path.{◌≡◌, refl, sym, ap, ◌∙◌, subst}
use mathlib.Core.Bool.{Bool, true, false, not, cond, ◌&&◌, ◌||◌}
use native.Mathlib.Omega.{arith}
use lib.Bits.{bit_and, bit_or, bit_xor, differ, and_step, or_step, xor_step, and_zero_l, and_comm}
use lib.Count.{ones, ones_in, ones_step}
use lib.Dec.{eqb, leb, eqb-suc-suc}
use borrow.Author.Tests.{eq-eqb, ne_eqb, leb-true}
use Rattle.rules.specs.Pick.{pick}
use Rattle.rules.specs.Every.{every, tally}
use Rattle.rules.specs.Sizes.{majority_of, most_boxes}
use Rattle.rules.specs.Sets.{bit, joined, without, includes, digit, has, set_form, full_set}
use Rattle.laws.proofs.Logic.{Or, left, right, In, both-no, eqb_same, eqb_yes, and_yes}
use Rattle.laws.proofs.Logic.{or_cases, every-at}
use Rattle.laws.proofs.Counts.{one, tally_ext, Major, major-made}

-- ---- the digits of a union, of what two sets share, and of where they differ

bits : (a b : ℕ) → b < 2 → ((a * 2 + b) / 2 ≡ a) × ((a * 2 + b) % 2 ≡ b)
bits a b h = (omega arith, omega arith)

or_parts : (a b : ℕ)
    → (bit_or a b / 2 ≡ bit_or (a / 2) (b / 2)) × (bit_or a b % 2 ≡ max (a % 2) (b % 2))
or_parts a b =
    let e = or_step a b in
    let p = bits (bit_or (a / 2) (b / 2)) (max (a % 2) (b % 2)) (omega arith) in
    (ap (λ (t : ℕ). t / 2) e ∙ p.0, ap (λ (t : ℕ). t % 2) e ∙ p.1)

and_parts : (a b : ℕ)
    → (bit_and a b / 2 ≡ bit_and (a / 2) (b / 2)) × (bit_and a b % 2 ≡ min (a % 2) (b % 2))
and_parts a b =
    let e = and_step a b in
    let p = bits (bit_and (a / 2) (b / 2)) (min (a % 2) (b % 2)) (omega arith) in
    (ap (λ (t : ℕ). t / 2) e ∙ p.0, ap (λ (t : ℕ). t % 2) e ∙ p.1)

differ-small : (a b : ℕ) → a < 2 → b < 2 → differ a b < 2
differ-small zero b p q = q
differ-small (suc zero) zero p q = omega arith
differ-small (suc zero) (suc zero) p q = omega arith
differ-small (suc (suc a)) b p q = absurd (omega arith)
differ-small (suc zero) (suc (suc b)) p q = absurd (omega arith)

xor_parts : (a b : ℕ)
    → (bit_xor a b / 2 ≡ bit_xor (a / 2) (b / 2)) × (bit_xor a b % 2 ≡ differ (a % 2) (b % 2))
xor_parts a b =
    let e = xor_step a b in
    let p = bits (bit_xor (a / 2) (b / 2)) (differ (a % 2) (b % 2))
    (differ-small (a % 2) (b % 2) (omega arith) (omega arith)) in
    (ap (λ (t : ℕ). t / 2) e ∙ p.0, ap (λ (t : ℕ). t % 2) e ∙ p.1)

max-one : (a b : ℕ) → a < 2 → b < 2 → eqb (max a b) 1 ≡ (eqb a 1 || eqb b 1)
max-one zero zero p q = refl
max-one zero (suc zero) p q = refl
max-one (suc zero) zero p q = refl
max-one (suc zero) (suc zero) p q = refl
max-one (suc (suc a)) b p q = absurd (omega arith)
max-one zero (suc (suc b)) p q = absurd (omega arith)
max-one (suc zero) (suc (suc b)) p q = absurd (omega arith)

min-one : (a b : ℕ) → a < 2 → b < 2 → eqb (min a b) 1 ≡ (eqb a 1 && eqb b 1)
min-one zero zero p q = refl
min-one zero (suc zero) p q = refl
min-one (suc zero) zero p q = refl
min-one (suc zero) (suc zero) p q = refl
min-one (suc (suc a)) b p q = absurd (omega arith)
min-one zero (suc (suc b)) p q = absurd (omega arith)
min-one (suc zero) (suc (suc b)) p q = absurd (omega arith)

differ-one : (a b : ℕ) → a < 2 → b < 2
    → eqb (differ a b) 1 ≡ cond (eqb a 1) (not (eqb b 1)) (eqb b 1)
differ-one zero zero p q = refl
differ-one zero (suc zero) p q = refl
differ-one (suc zero) zero p q = refl
differ-one (suc zero) (suc zero) p q = refl
differ-one (suc (suc a)) b p q = absurd (omega arith)
differ-one zero (suc (suc b)) p q = absurd (omega arith)
differ-one (suc zero) (suc (suc b)) p q = absurd (omega arith)

digit_or : (a b k : ℕ) → digit (bit_or a b) k ≡ (digit a k || digit b k)
unfolding digit
digit_or a b zero =
    ap (λ (t : ℕ). eqb t 1) (or_parts a b).1 ∙ max-one (a % 2) (b % 2) (omega arith) (omega arith)
digit_or a b (suc k) = ap (λ (t : ℕ). digit t k) (or_parts a b).0 ∙ digit_or (a / 2) (b / 2) k

digit_and : (a b k : ℕ) → digit (bit_and a b) k ≡ (digit a k && digit b k)
unfolding digit
digit_and a b zero =
    ap (λ (t : ℕ). eqb t 1) (and_parts a b).1 ∙ min-one (a % 2) (b % 2) (omega arith) (omega arith)
digit_and a b (suc k) = ap (λ (t : ℕ). digit t k) (and_parts a b).0 ∙ digit_and (a / 2) (b / 2) k

digit_xor : (a b k : ℕ)
    → digit (bit_xor a b) k ≡ cond (digit a k) (not (digit b k)) (digit b k)
unfolding digit
digit_xor a b zero =
    ap (λ (t : ℕ). eqb t 1) (xor_parts a b).1
    ∙ differ-one (a % 2) (b % 2) (omega arith) (omega arith)
digit_xor a b (suc k) = ap (λ (t : ℕ). digit t k) (xor_parts a b).0 ∙ digit_xor (a / 2) (b / 2) k

pub has_or : (a b k : ℕ) → has (bit_or a b) k ≡ (has a k || has b k)
unfolding has
has_or a b zero = refl
has_or a b (suc k) = digit_or a b k

pub has-and : (a b k : ℕ) → has (bit_and a b) k ≡ (has a k && has b k)
unfolding has
has-and a b zero = refl
has-and a b (suc k) = digit_and a b k

pub has_xor : (a b k : ℕ) → has (bit_xor a b) k ≡ cond (has a k) (not (has b k)) (has b k)
unfolding has
has_xor a b zero = refl
has_xor a b (suc k) = digit_xor a b k

-- a set without what another shares with it
pub has-less : (w v k : ℕ) → has (bit_xor w (bit_and w v)) k ≡ (has w k && not (has v k))
has-less w v k =
    has_xor w (bit_and w v) k
    ∙ ap (λ (t : Bool). cond (has w k) (not t) t) (has-and w v k) ∙ go (has w k) (has v k)
  where
    go : (a b : Bool) → cond a (not (a && b)) (a && b) ≡ (a && not b)
    go true b = refl
    go false b = refl

digit-zero : (k : ℕ) → digit 0 k ≡ false
unfolding digit
digit-zero zero = refl
digit-zero (suc k) = digit-zero k

pub has-zero : (k : ℕ) → has 0 k ≡ false
unfolding has
has-zero zero = refl
has-zero (suc k) = digit-zero k

-- ---- form

digit_in : (n w k : ℕ) → set_form n w ≡ true → digit w k ≡ true → k < n
unfolding set_form digit
digit_in zero w k e h =
    absurd (both-no (subst (λ (j : ℕ). digit j k ≡ true) (eqb_yes w 0 e) h) (digit-zero k))
digit_in (suc n) w zero e h = omega arith
digit_in (suc n) w (suc k) e h = omega (arith, digit_in n (w / 2) k e h)

-- the members of a set by form
pub set_in : (n w b : ℕ) → set_form n w ≡ true → has w b ≡ true → In b n
unfolding has
set_in n w zero e h = absurd (both-no h refl)
set_in n w (suc b) e h = (omega arith, omega (arith, digit_in n w b e h))

pub set-zero : (n : ℕ) → set_form n 0 ≡ true
unfolding set_form
set-zero zero = refl
set-zero (suc n) = set-zero n

pub set_or : (n a b : ℕ) → set_form n a ≡ true → set_form n b ≡ true
    → set_form n (bit_or a b) ≡ true
unfolding set_form
set_or zero a b p q = rw (eqb_yes a 0 p, eqb_yes b 0 q) refl
set_or (suc n) a b p q = rw (or_parts a b).0 (set_or n (a / 2) (b / 2) p q)

pub set-and : (n a b : ℕ) → set_form n a ≡ true → set_form n (bit_and a b) ≡ true
unfolding set_form
set-and zero a b p =
    eq-eqb (bit_and a b) 0 (ap (λ (t : ℕ). bit_and t b) (eqb_yes a 0 p) ∙ and_zero_l b)
set-and (suc n) a b p = rw (and_parts a b).0 (set-and n (a / 2) (b / 2) p)

-- two sets by form with the same members are the same word
pub set_ext : (n v w : ℕ) → set_form n v ≡ true → set_form n w ≡ true
    → ((k : ℕ) → In k n → has v k ≡ has w k) → v ≡ w
unfolding set_form has digit
set_ext zero v w p q h = eqb_yes v 0 p ∙ sym (eqb_yes w 0 q)
set_ext (suc n) v w p q h =
    let d = odd (v % 2) (w % 2) (omega arith) (omega arith) (h 1 (omega arith, omega arith)) in
    let e = set_ext n (v / 2) (w / 2) p q (λ k l. next k l) in
    omega (arith, d, e)
  where
    odd : (a b : ℕ) → a < 2 → b < 2 → eqb a 1 ≡ eqb b 1 → a ≡ b
    odd zero zero f g e = refl
    odd (suc zero) (suc zero) f g e = refl
    odd zero (suc zero) f g e = absurd (both-no e refl)
    odd (suc zero) zero f g e = absurd (both-no (sym e) refl)
    odd (suc (suc a)) b f g e = absurd (omega arith)
    odd zero (suc (suc b)) f g e = absurd (omega arith)
    odd (suc zero) (suc (suc b)) f g e = absurd (omega arith)

    next : (k : ℕ) → In k n → has (v / 2) k ≡ has (w / 2) k
    next zero l = refl
    next (suc k) l = h (suc (suc k)) (omega arith, omega (arith, l.1))

-- ---- one box

power : ℕ → ℕ
power zero = 1
power (suc k) = power k * 2

half-pair : (t : ℕ) → t * 2 / 2 ≡ t
half-pair t = omega arith

digit-power : (k i : ℕ) → digit (power k) i ≡ eqb i k
unfolding power digit
digit-power zero zero = refl
digit-power zero (suc i) = digit-zero i ∙ sym (ne_eqb (suc i) zero (λ e. omega (arith, e)))
digit-power (suc k) zero =
    ap (λ (t : ℕ). eqb t 1) (even-pair (power k))
    ∙ sym (ne_eqb zero (suc k) (λ e. omega (arith, e)))
  where
    even-pair : (t : ℕ) → t * 2 % 2 ≡ 0
    even-pair t = omega arith
digit-power (suc k) (suc i) =
    ap (λ (t : ℕ). digit t i) (half-pair (power k)) ∙ digit-power k i ∙ sym (eqb-suc-suc i k)

set-power : (n k : ℕ) → k < n → set_form n (power k) ≡ true
unfolding set_form power
set-power zero k h = absurd (omega arith)
set-power (suc n) zero h = set-zero n
set-power (suc n) (suc k) h = rw (half-pair (power k)) (set-power n k (omega arith))

bit-power : (k : ℕ) → k < most_boxes → bit (suc k) ≡ power k
unfolding bit pick power
bit-power zero h = refl
bit-power (suc zero) h = refl
bit-power (suc (suc zero)) h = refl
bit-power (suc (suc (suc zero))) h = refl
bit-power (suc (suc (suc (suc zero)))) h = refl
bit-power (suc (suc (suc (suc (suc k))))) h = absurd (omega arith)

pub has-bit : (k i : ℕ) → In k most_boxes → has (bit k) i ≡ eqb i k
unfolding has
has-bit zero i h = absurd (omega arith)
has-bit (suc k) zero h = sym (ne_eqb zero (suc k) (λ e. omega (arith, e)))
has-bit (suc k) (suc i) h =
    ap (λ (t : ℕ). digit t i) (bit-power k (omega arith)) ∙ digit-power k i ∙ sym (eqb-suc-suc i k)

pub bit_is : (k i : ℕ) → In k most_boxes → has (bit k) i ≡ true → i ≡ k
bit_is k i h e = eqb_yes i k (sym (has-bit k i h) ∙ e)

pub set-bit : (n k : ℕ) → n ≤ most_boxes → In k n → set_form n (bit k) ≡ true
set-bit n zero few h = absurd (omega arith)
set-bit n (suc k) few h =
    rw (bit-power k (omega (arith, h.1))) (set-power n k (omega (arith, h.1)))

-- ---- a box joins

pub joined_in : (w k i : ℕ) → In k most_boxes → has (joined w k) i ≡ true
    → Or (has w i ≡ true) (i ≡ k)
unfolding joined
joined_in w k i h e = go (or_cases (has w i) (has (bit k) i) (sym (has_or w (bit k) i) ∙ e))
  where
    go : Or (has w i ≡ true) (has (bit k) i ≡ true) → Or (has w i ≡ true) (i ≡ k)
    go (left f) = left f
    go (right f) = right (bit_is k i h f)

pub set-joined : (n w k : ℕ) → n ≤ most_boxes → set_form n w ≡ true → In k n
    → set_form n (joined w k) ≡ true
unfolding joined
set-joined n w k few e h = set_or n w (bit k) e (set-bit n k few h)

-- ---- a box leaves

rest-test : ℕ → ℕ → Bool
rest-test k i = eqb (one (has (31 - bit k) i)) (one (not (eqb i k)))

-- computed at each box
rests : every most_boxes (λ k. every most_boxes (rest-test k)) ≡ true
unfolding rest-test every has digit bit pick
rests = refl

has_rest : (k i : ℕ) → In k most_boxes → In i most_boxes → has (31 - bit k) i ≡ not (eqb i k)
unfolding rest-test
has_rest k i h g =
    let test : every most_boxes (rest-test k) ≡ true = every-at most_boxes _ rests k h in
    one_same (has (31 - bit k) i) (not (eqb i k)) (eqb_yes _ _ (every-at most_boxes _ test i g))
  where
    one_same : (a b : Bool) → one a ≡ one b → a ≡ b
    one_same true true e = refl
    one_same false false e = refl
    one_same true false e = absurd (omega arith)
    one_same false true e = absurd (omega arith)

pub has-without : (w k i : ℕ) → In k most_boxes → In i most_boxes
    → has (without w k) i ≡ (has w i && not (eqb i k))
unfolding without
has-without w k i h g =
    has-and w (31 - bit k) i ∙ ap (λ (t : Bool). has w i && t) (has_rest k i h g)

pub without_in : (w k i : ℕ) → In k most_boxes → has (without w k) i ≡ true
    → (has w i ≡ true) × (i ≡ k → ⊥)
unfolding without
without_in w k i h e =
    let p = and_yes (has w i) (has (31 - bit k) i) (sym (has-and w (31 - bit k) i) ∙ e) in
    (p.0, λ g. both-no (subst (λ (j : ℕ). has (31 - bit k) j ≡ true) g p.1) off)
  where
    off : has (31 - bit k) k ≡ false
    off = has_rest k k h h ∙ ap not (eqb_same k)

pub set-without : (n w k : ℕ) → set_form n w ≡ true → set_form n (without w k) ≡ true
unfolding without
set-without n w k e = set-and n w (31 - bit k) e

-- ---- a set in a set

pub includes_in : (w v i : ℕ) → includes w v ≡ true → has v i ≡ true → has w i ≡ true
includes_in w v i e h =
    (and_yes (has w i) (has v i)
    (sym (has-and w v i) ∙ ap (λ (t : ℕ). has t i) (eqb_yes (bit_and w v) v e) ∙ h)).0

pub includes-made : (n w v : ℕ) → set_form n v ≡ true
    → ((i : ℕ) → In i n → has v i ≡ true → has w i ≡ true) → includes w v ≡ true
includes-made n w v e f =
    eq-eqb (bit_and w v) v
    (set_ext n (bit_and w v) v (rw (and_comm w v) (set-and n v w e)) e
    (λ i h. has-and w v i ∙ both (has w i) (has v i) (f i h)))
  where
    both : (a b : Bool) → (b ≡ true → a ≡ true) → (a && b) ≡ b
    both true b g = refl
    both false true g = absurd (both-no (g refl) refl)
    both false false g = refl

-- ---- all boxes

full-half : (n : ℕ) → (full_set n + full_set n + 1) / 2 ≡ full_set n
full-half n = omega arith

pub set_full : (n : ℕ) → set_form n (full_set n) ≡ true
unfolding set_form full_set
set_full zero = refl
set_full (suc n) = rw (full-half n) (set_full n)

digit-full : (n k : ℕ) → k < n → digit (full_set n) k ≡ true
unfolding digit full_set
digit-full zero k h = absurd (omega arith)
digit-full (suc n) zero h = eq-eqb ((full_set n + full_set n + 1) % 2) 1 (omega arith)
digit-full (suc n) (suc k) h =
    ap (λ (t : ℕ). digit t k) (full-half n) ∙ digit-full n k (omega arith)

pub has-full : (n k : ℕ) → In k n → has (full_set n) k ≡ true
unfolding has
has-full n zero h = absurd (omega arith)
has-full n (suc k) h = digit-full n k (omega (arith, h.1))

-- ---- how many

tally-low : (n : ℕ) (f : ℕ → Bool) → tally (suc n) f ≡ one (f 1) + tally n (λ i. f (suc i))
unfolding tally
tally-low zero f = refl
tally-low (suc n) f = omega (arith, tally-low n f)

-- the ones of a set by form are its members
pub ones-tally : (n w : ℕ) → set_form n w ≡ true → ones w ≡ tally n (has w)
unfolding set_form has digit ones ones_in tally
ones-tally zero w e = ap ones (eqb_yes w 0 e) ∙ none
  where
    none : ones 0 ≡ tally 0 (has w)
    none = refl
ones-tally (suc n) w e =
    ones_step w ∙ (rw (ones-tally n (w / 2) e) (low ∙ sym (tally-low n (has w))))
  where
    odd-digit : (t : ℕ) → t < 2 → t ≡ one (eqb t 1)
    odd-digit zero h = refl
    odd-digit (suc zero) h = refl
    odd-digit (suc (suc t)) h = absurd (omega arith)

    next : (i : ℕ) → In i n → has (w / 2) i ≡ has w (suc i)
    next zero h = absurd (omega arith)
    next (suc i) h = refl

    low : w % 2 + tally n (has (w / 2)) ≡ one (has w 1) + tally n (λ i. has w (suc i))
    low =
        rw (← tally_ext n (has (w / 2)) (λ i. has w (suc i)) next)
        (ap (λ (t : ℕ). t + tally n (has (w / 2))) (odd-digit (w % 2) (omega arith)))

-- refusal 4 is not given: the present set is a majority
pub major-present : (n w : ℕ) → set_form n w ≡ true → leb (majority_of n) (ones w) ≡ true
    → Major n (has w)
major-present n w e h =
    major-made n (has w) (omega (arith, leb-true (majority_of n) (ones w) h, ones-tally n w e))

-- a set by form fits a word: of at most five boxes, it is at most 31
pub set-small : (w : ℕ) → set_form most_boxes w ≡ true → w ≤ 31
unfolding set_form
set-small w e = omega (arith, eqb_yes (w / 2 / 2 / 2 / 2 / 2) 0 e)

pub set-up : (n m w : ℕ) → n ≤ m → set_form n w ≡ true → set_form m w ≡ true
unfolding set_form
set-up zero m w h e = rw (eqb_yes w 0 e) (set-zero m)
set-up (suc n) zero w h e = absurd (omega arith)
set-up (suc n) (suc m) w h e = set-up n m (w / 2) (omega arith) e
