-- Heard: the leader goes on from phase Lease to LeaseDone, and all else stays.
use Prim.Native.Nat.{ℕ}
use mathlib.Core.Path.{refl}
use native.Mathlib.Omega.{arith}
use Rattle.rules.specs.Fields.{with_phase}
use Rattle.rules.specs.Steps.{lease_heard, acted}
use Rattle.rules.specs.Box.{Box, written}
use Rattle.rules.specs.Site.{Site, posted}
use Rattle.rules.specs.Step.{step}
use Rattle.laws.proofs.Types.{Call, Phase}
use Rattle.laws.proofs.Conditions.{go-unless, can-heard}
use Rattle.laws.proofs.StepLaws.{by-acting}
use Rattle.safety.proofs.Inv.{Inv}
use Rattle.safety.proofs.After.{After, after_same}
use Rattle.safety.proofs.Kept.{inv-kept}

pub inv-heard : (s : Site) (i : Inv s) (c : ℕ) → After s i (step s (Call.Heard c)).next
unfolding step acted lease_heard posted written
inv-heard s i c =
    by-acting (After s i) s c _ _ _ (after_same i)
    (λ f c_in go.
    let o = (can-heard (go-unless _ _ _ go).0).0 in
    inv-kept s i c c_in o.even o.leads done o.leads refl refl
    (λ e. omega arith) (λ e. omega arith) (λ e. absurd (omega arith))
    (λ e. absurd (omega (arith, o.phase, e)))
    s.link (λ e. absurd (omega arith)) (λ P h. h))
  where
    done : Box
    done = record {
      head = with_phase Phase.LeaseDone (s.box c).head;
      records = (s.box c).records;
    }
