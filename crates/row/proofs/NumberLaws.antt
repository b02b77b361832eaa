-- States, phases and flags with their numbers, both ways; and the cases of the code that are left.
use mathlib.Core.Path.{◌≡◌, refl, sym, ap}
use mathlib.Core.Bool.{Bool, true, false}
use Prim.Native.Nat.{ℕ, zero, suc, ◌-◌, ◌≤◌}
use native.Mathlib.Omega.{arith}
use lib.Dec.{leb}
use Rattle.std.specs.Int.{from_bool}
use Rattle.rules.specs.Numbers.{flag_number, state_number, phase_number}
use Rattle.rules.specs.declared.model.Phase.{Phase}
use Rattle.rules.specs.declared.model.State.{State}
use Rattle.row.specs.Row.{state_of, phase_of, flag_of, most_state, most_phase}

pub state-back : (s : State) → state_of (state_number s) ≡ s
state-back State.Recovering = refl
state-back State.Active = refl
state-back State.Updating = refl
state-back State.UpdatingPrevious = refl
state-back State.Refresh = refl

pub state-number-back : (x : ℕ) → x ≤ most_state → state_number (state_of x) ≡ x
state-number-back zero h = refl
state-number-back (suc zero) h = refl
state-number-back (suc (suc zero)) h = refl
state-number-back (suc (suc (suc zero))) h = refl
state-number-back (suc (suc (suc (suc x)))) h = omega arith

pub state-rest : (x : ℕ) → 4 ≤ x → State.Refresh ≡ state_of x
state-rest x h = let e : x ≡ suc (suc (suc (suc (x - 4)))) = omega arith in sym (ap state_of e)

pub state_in : (s : State) → leb (state_number s) most_state ≡ true
state_in State.Recovering = refl
state_in State.Active = refl
state_in State.Updating = refl
state_in State.UpdatingPrevious = refl
state_in State.Refresh = refl

pub phase-back : (p : Phase) → phase_of (phase_number p) ≡ p
phase-back Phase.Election = refl
phase-back Phase.SendCollect = refl
phase-back Phase.Collect = refl
phase-back Phase.Lease = refl
phase-back Phase.Begin = refl
phase-back Phase.Commit = refl
phase-back Phase.LeaseDone = refl

pub phase-number-back : (x : ℕ) → x ≤ most_phase → phase_number (phase_of x) ≡ x
phase-number-back zero h = refl
phase-number-back (suc zero) h = refl
phase-number-back (suc (suc zero)) h = refl
phase-number-back (suc (suc (suc zero))) h = refl
phase-number-back (suc (suc (suc (suc zero)))) h = refl
phase-number-back (suc (suc (suc (suc (suc zero))))) h = refl
phase-number-back (suc (suc (suc (suc (suc (suc x)))))) h = omega arith

pub phase-rest : (x : ℕ) → 6 ≤ x → Phase.LeaseDone ≡ phase_of x
phase-rest x h =
    let e : x ≡ suc (suc (suc (suc (suc (suc (x - 6)))))) = omega arith in
    sym (ap phase_of e)

pub phase_in : (p : Phase) → leb (phase_number p) most_phase ≡ true
phase_in Phase.Election = refl
phase_in Phase.SendCollect = refl
phase_in Phase.Collect = refl
phase_in Phase.Lease = refl
phase_in Phase.Begin = refl
phase_in Phase.Commit = refl
phase_in Phase.LeaseDone = refl

pub flag-back : (b : Bool) → flag_of (flag_number b) ≡ b
flag-back true = refl
flag-back false = refl

pub flag-number-back : (x : ℕ) → x ≤ 1 → flag_number (flag_of x) ≡ x
flag-number-back zero h = refl
flag-number-back (suc zero) h = refl
flag-number-back (suc (suc x)) h = absurd (omega arith)

pub flag_in : (b : Bool) → leb (flag_number b) 1 ≡ true
flag_in true = refl
flag_in false = refl

-- .. and the library's number of a test is the same.
pub flag-from : (b : Bool) → from_bool b ≡ flag_number b
flag-from true = refl
flag-from false = refl
