-- Finish: the Lease goes out, and all that is kept stays.
use Prim.Native.Nat.{ℕ}
use mathlib.Core.Path.{◌≡◌}
use native.Mathlib.Omega.{arith}
use Rattle.rules.specs.Steps.{finish, acted}
use Rattle.rules.specs.Site.{Site}
use Rattle.rules.specs.Step.{step}
use Rattle.laws.proofs.Types.{Call}
use Rattle.laws.proofs.Conditions.{go-unless, can-finish}
use Rattle.laws.proofs.View.{phase_of}
use Rattle.laws.proofs.StepLaws.{by-acting}
use Rattle.safety.proofs.Inv.{Inv}
use Rattle.safety.proofs.After.{After, after_same}
use Rattle.safety.proofs.Leader.{led}
use Rattle.safety.proofs.Start.{inv-leased}

pub inv-finish : (s : Site) (i : Inv s) (c : ℕ) → After s i (step s (Call.Finish c)).next
unfolding step acted finish
inv-finish s i c =
    by-acting (After s i) s c _ _ _ (after_same i)
    (λ f c_in go.
    let o = can-finish (go-unless _ _ _ go).0 in
    let k = (led (i.live o.even) c c_in o.leads).settled (λ e. omega (arith, o.state, e)) in
    let idle = not-begin o.phase in
    inv-leased s i c c_in o.leads o.even idle k.ripe (s.box c) o.leads (k.done idle))
  where
    not-begin : phase_of (s.box c) ≡ 5 → phase_of (s.box c) ≡ 4 → ⊥
    not-begin p e = omega (arith, p, e)
