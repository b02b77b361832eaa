-- What the parts of a rule compute: the digit of a set, a first that is raised, the book that is
-- taken whole.
use native.Mathlib.Numerals.{unary_clauses}
use Prim.Native.Nat.{ℕ, zero, suc, ◌+◌, ◌-◌, ◌/◌, ◌%◌, ◌^◌, ◌≤◌, ◌<◌}
use mathlib.Core.Bool.{Bool, true, false}
use mathlib.Core.Logic.{◌≢◌}
use mathlib.Core.Path.{◌≡◌, refl, sym, ap, ◌∙◌}
use lib.Dec.{ltb, eqb}
use borrow.Author.Tests.{lt-ltb}
use Rattle.rules.specs.Pick.{pick, pick_true}
use Rattle.std.proofs.Math.Nat.{div-div-eq-div-mul, div-one, pow-succ'}
use Rattle.rules.specs.Sets.{has, digit}
use Rattle.rules.specs.Parts.{span, higher, took_book}
use Rattle.rules.specs.Types.{Book, Kept}

-- no set has a box 0
pub no-box : (w k : ℕ) → k ≡ 0 → false ≡ has w k
unfolding has
no-box w k e = rw e refl

-- the higher of two is one of them
pub higher-within : (own theirs r most : ℕ)
    → r ≡ higher own theirs → own ≤ most → theirs ≤ most → r ≤ most
unfolding higher pick
higher-within own theirs r most e p q = rw e (at (ltb own theirs))
  where
    at : (t : Bool) → pick t theirs own ≤ most
    at true = q
    at false = p

pub whole-book : (F L w : ℕ) (k : Kept)
    → w ≡ span F L → k.last + 1 < F → Book.Take 0 0 0 w ≡ took_book F L k
unfolding took_book
whole-book F L w k e h = rw e (sym (pick_true _ _ _ (lt-ltb (k.last + 1) F h)))

-- the digit of 2^k, by one shift
digit-shift : (k w : ℕ) → eqb (w / 2 ^ k % 2) 1 ≡ digit w k
unfolding digit
digit-shift zero w = ap (λ (h : ℕ). eqb (h % 2) 1) (div-one w)
digit-shift (suc k) w =
    ap (λ (h : ℕ). eqb (h % 2) 1)
    (ap (λ (p : ℕ). w / p) (pow-succ' 2 k) ∙ sym (div-div-eq-div-mul w 2 (2 ^ k)))
    ∙ digit-shift k (w / 2)

pub has-shift : (w k : ℕ) → k ≢ 0 → eqb (w / 2 ^ (k - 1) % 2) 1 ≡ has w k
unfolding has
has-shift w zero f = absurd (f refl)
has-shift w (suc k) f = simp unary_clauses (digit-shift k w)
