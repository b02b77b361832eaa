-- How many of 1 to n pass a test, and majorities. A set of boxes is a test here; SetLaws reads
-- words so.
use Prim.Native.Nat.{ℕ, zero, suc, ◌+◌, ◌≤◌, ◌<◌}
use mathlib.Core.Path.{◌≡◌, refl, ap, subst}
use mathlib.Core.Bool.{Bool, true, false, cond}
use native.Mathlib.Omega.{arith}
use Rattle.rules.specs.Every.{tally}
use Rattle.rules.specs.Sizes.{majority_of}
use Rattle.laws.proofs.Logic.{Or, left, right, In, same?}

-- what one test adds to the count
abbrev pub one : Bool → ℕ
one b = cond b 1 0

pub one-le : (b : Bool) → one b ≤ 1
one-le true = omega arith
one-le false = omega arith

pub tally-le : (n : ℕ) (f : ℕ → Bool) → tally n f ≤ n
unfolding tally
tally-le zero f = omega arith
tally-le (suc n) f = omega (arith, tally-le n f, one-le (f (suc n)))

pub in_up : {i n : ℕ} → In i n → In i (suc n)
in_up h = (h.0, omega (arith, h.1))

pub in_top : (n : ℕ) → In (suc n) (suc n)
in_top n = (omega arith, omega arith)

pub in_down : {i n : ℕ} → In i (suc n) → (i ≡ suc n → ⊥) → In i n
in_down h e = (h.0, omega (arith, h.1))

-- ---- two sets

abbrev pub Common : ℕ → (ℕ → Bool) → (ℕ → Bool) → Type 0
Common n f g = (i : ℕ) × (In i n) × (f i ≡ true) × (g i ≡ true)

-- two sets of together more than n have a member in common
pub meet : (n : ℕ) (f g : ℕ → Bool) → n < tally n f + tally n g → Common n f g
unfolding tally
meet zero f g h = absurd (omega arith)
meet (suc n) f g h = go (λ l. meet n f g l) (f (suc n)) (g (suc n)) refl refl
  where
    up : Common n f g → Common (suc n) f g
    up r = (r.0, in_up r.1, r.2, r.3)

    go : (n < tally n f + tally n g → Common n f g)
        → (a b : Bool) → f (suc n) ≡ a → g (suc n) ≡ b → Common (suc n) f g
    go ih true true p q = (suc n, in_top n, p, q)
    go ih true false p q = up (ih (omega (arith, h, ap one p, ap one q)))
    go ih false true p q = up (ih (omega (arith, h, ap one p, ap one q)))
    go ih false false p q = up (ih (omega (arith, h, ap one p, ap one q)))

pub tally_ext : (n : ℕ) (f g : ℕ → Bool) → ((i : ℕ) → In i n → f i ≡ g i) → tally n f ≡ tally n g
unfolding tally
tally_ext zero f g h = refl
tally_ext (suc n) f g h = rw (h (suc n) (in_top n), tally_ext n f g (λ i l. h i (in_up l))) refl

-- ---- everyone

abbrev pub everyone : ℕ → Bool
everyone k = true

pub tally-everyone : (n : ℕ) → tally n everyone ≡ n
unfolding tally
tally-everyone zero = refl
tally-everyone (suc n) = omega (arith, tally-everyone n)

-- ---- at most one

tally-some : (n : ℕ) (f : ℕ → Bool) (i : ℕ) → In i n → f i ≡ true → 1 ≤ tally n f
unfolding tally
tally-some zero f i h e = absurd (omega arith)
tally-some (suc n) f i h e = go (λ l. tally-some n f i l e) (same? i (suc n))
  where
    go : (In i n → 1 ≤ tally n f) → Or (i ≡ suc n) (i ≡ suc n → ⊥) → 1 ≤ one (f (suc n)) + tally n f
    go ih (left d) = omega (arith, ap one (subst (λ (k : ℕ). f k ≡ true) d e))
    go ih (right d) = omega (arith, ih (in_down h d))

abbrev pub AtMostOne : ℕ → (ℕ → Bool) → Type 0
AtMostOne n f = (i j : ℕ) → In i n → In j n → f i ≡ true → f j ≡ true → i ≡ j

pub one-says : (n : ℕ) (f : ℕ → Bool) → tally n f ≤ 1 → AtMostOne n f
unfolding tally
one-says zero f le i j hi hj p q = absurd (omega arith)
one-says (suc n) f le i j hi hj p q =
    go (λ l gi gj. one-says n f l i j gi gj p q) (same? i (suc n)) (same? j (suc n))
  where
    two : (k : ℕ) → In k n → f k ≡ true → f (suc n) ≡ true → ⊥
    two k h r s = omega (arith, le, tally-some n f k h r, ap one s)

    go : (tally n f ≤ 1 → In i n → In j n → i ≡ j)
        → Or (i ≡ suc n) (i ≡ suc n → ⊥) → Or (j ≡ suc n) (j ≡ suc n → ⊥) → i ≡ j
    go ih (left d) (left e) = omega (arith, d, e)
    go ih (left d) (right e) = absurd (two j (in_down hj e) q (subst (λ (k : ℕ). f k ≡ true) d p))
    go ih (right d) (left e) = absurd (two i (in_down hi d) p (subst (λ (k : ℕ). f k ≡ true) e q))
    go ih (right d) (right e) = ih (omega arith) (in_down hi d) (in_down hj e)

tally-off : (n : ℕ) (f : ℕ → Bool) → ((i : ℕ) → In i n → f i ≡ true → ⊥) → tally n f ≡ 0
unfolding tally
tally-off zero f h = refl
tally-off (suc n) f h = go (f (suc n)) refl (tally-off n f (λ i l. h i (in_up l)))
  where
    go : (b : Bool) → f (suc n) ≡ b → tally n f ≡ 0 → one (f (suc n)) + tally n f ≡ 0
    go true p ih = absurd (h (suc n) (in_top n) p)
    go false p ih = omega (arith, ih, ap one p)

pub one-made : (n : ℕ) (f : ℕ → Bool) → AtMostOne n f → tally n f ≤ 1
unfolding tally
one-made zero f h = omega arith
one-made (suc n) f h = go (f (suc n)) refl (one-made n f (λ i j gi gj. h i j (in_up gi) (in_up gj)))
  where
    go : (b : Bool) → f (suc n) ≡ b → tally n f ≤ 1 → one (f (suc n)) + tally n f ≤ 1
    go true p ih =
        let z =
        tally-off n f (λ i l e. omega (arith, l.1, h i (suc n) (in_up l) (in_top n) e p)) in
        omega (arith, z, one-le (f (suc n)))
    go false p ih = omega (arith, ih, ap one p)

-- ---- majorities

abbrev pub Major : ℕ → (ℕ → Bool) → Type 0
Major n f = n < tally n f + tally n f

pub major-everyone : (n : ℕ) → 1 ≤ n → Major n everyone
major-everyone n h = omega (arith, tally-everyone n)

pub major-made : (n : ℕ) (f : ℕ → Bool) → majority_of n ≤ tally n f → Major n f
major-made n f h = omega arith

-- two majorities have a member in common
pub common : (n : ℕ) (f g : ℕ → Bool) → Major n f → Major n g → Common n f g
common n f g hf hg = meet n f g (omega arith)
