-- Kinds and their numbers, both ways; and the case of `kind_of` that is left.
use mathlib.Core.Path.{◌≡◌, refl, sym, ap}
use mathlib.Core.Bool.{true}
use Prim.Native.Nat.{ℕ, zero, suc, ◌-◌, ◌≤◌}
use native.Mathlib.Omega.{arith}
use Rattle.rules.specs.Sizes.{within}
use Rattle.rules.specs.Numbers.{kind_number}
use Rattle.rules.specs.declared.model.Kind.{Kind}
use Rattle.letter.specs.Place.{kind_of, most_kind}

pub kind-back : (k : Kind) → kind_of (kind_number k) ≡ k
kind-back Kind.Collect = refl
kind-back Kind.Last = refl
kind-back Kind.Begin = refl
kind-back Kind.Accept = refl
kind-back Kind.Commit = refl
kind-back Kind.Lease = refl
kind-back Kind.LeaseAck = refl

pub kind-number-back : (x : ℕ) → 1 ≤ x → x ≤ most_kind → kind_number (kind_of x) ≡ x
kind-number-back zero a b = omega arith
kind-number-back (suc zero) a b = refl
kind-number-back (suc (suc zero)) a b = refl
kind-number-back (suc (suc (suc zero))) a b = refl
kind-number-back (suc (suc (suc (suc zero)))) a b = refl
kind-number-back (suc (suc (suc (suc (suc zero))))) a b = refl
kind-number-back (suc (suc (suc (suc (suc (suc zero)))))) a b = refl
kind-number-back (suc (suc (suc (suc (suc (suc (suc x))))))) a b = omega arith

-- x is none of the numbers below k, as a match over these says it ..
abbrev Missed : ℕ → ℕ → Type 0
Missed zero x = Unit
Missed (suc k) x = Missed k x × (x ≡ k → ⊥)

-- .. so it is k or more.
missed : (k x : ℕ) → Missed k x → k ≤ x
missed zero x m = omega arith
missed (suc k) x m = let h = missed k x m.0 in omega (arith, m.1)

-- Every number from 7 on is read as a LeaseAck.
pub kind-rest : (x : ℕ) → Missed 7 x → Kind.LeaseAck ≡ kind_of x
kind-rest x m =
    let h = missed 7 x m in
    let e : x ≡ suc (suc (suc (suc (suc (suc (suc (x - 7))))))) = omega arith in
    sym (ap kind_of e)

-- Every kind has a number by form.
pub kind-in : (k : Kind) → within 1 most_kind (kind_number k) ≡ true
kind-in Kind.Collect = refl
kind-in Kind.Last = refl
kind-in Kind.Begin = refl
kind-in Kind.Accept = refl
kind-in Kind.Commit = refl
kind-in Kind.Lease = refl
kind-in Kind.LeaseAck = refl
