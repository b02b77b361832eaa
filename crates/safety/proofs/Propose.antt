-- Propose: the offer is started as number last+1; nothing is agreed there yet.
use Prim.Native.Nat.{ℕ}
use native.Mathlib.Omega.{arith}
use Rattle.rules.specs.Fields.{with_state, with_waiting}
use Rattle.rules.specs.Steps.{propose, acted}
use Rattle.rules.specs.Box.{Box}
use Rattle.rules.specs.Site.{Site}
use Rattle.rules.specs.Step.{step}
use Rattle.laws.proofs.Types.{Call, State}
use Rattle.laws.proofs.Conditions.{go-unless, can-propose}
use Rattle.laws.proofs.StepLaws.{by-acting}
use Rattle.safety.proofs.Inv.{Inv}
use Rattle.safety.proofs.After.{After, after_same}
use Rattle.safety.proofs.Leader.{led}
use Rattle.safety.proofs.Start.{inv-started}

pub inv-propose : (s : Site) (i : Inv s) (c : ℕ) → After s i (step s (Call.Propose c)).next
unfolding step acted propose
inv-propose s i c =
    by-acting (After s i) s c _ _ _ (after_same i)
    (λ f c_in go.
    let o = (can-propose (go-unless _ _ _ go).0).0 in
    let k = (led (i.live o.even) c c_in o.leads).settled (λ e. omega (arith, o.state, e)) in
    inv-started s i c c_in o.leads o.even o.phase k.ripe taken o.leads
    (s.box c).head.waiting (λ e. omega (arith, e))
    (λ e. absurd (omega (arith, e, k.done o.phase))))
  where
    taken : Box
    taken = record {
      head = with_state State.Updating (with_waiting 0 (s.box c).head);
      records = (s.box c).records;
    }
