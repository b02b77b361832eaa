-- Offer: the record waits, and all else stays.
use Prim.Native.Nat.{ℕ}
use mathlib.Core.Path.{refl}
use native.Mathlib.Omega.{arith}
use Rattle.rules.specs.Sizes.{record_of}
use Rattle.rules.specs.Fields.{with_waiting}
use Rattle.rules.specs.Steps.{offer, acted}
use Rattle.rules.specs.Box.{Box, written}
use Rattle.rules.specs.Site.{Site, posted}
use Rattle.rules.specs.Step.{step}
use Rattle.laws.proofs.Types.{Call}
use Rattle.laws.proofs.Conditions.{go-unless, can-offer}
use Rattle.laws.proofs.StepLaws.{by-acting}
use Rattle.safety.proofs.Inv.{Inv}
use Rattle.safety.proofs.After.{After, after_same}
use Rattle.safety.proofs.Leader.{led}
use Rattle.safety.proofs.Kept.{inv-kept}

pub inv-offer : (s : Site) (i : Inv s) (c l r : ℕ) → After s i (step s (Call.Offer c l r)).next
unfolding step acted offer posted written
inv-offer s i c l r =
    by-acting (After s i) s c _ _ _ (after_same i)
    (λ f c_in go.
    let o = (can-offer (go-unless _ _ _ (go-unless _ _ _ go).1).0).0 in
    let L = led (i.live o.even) c c_in o.leads in
    inv-kept s i c c_in o.even o.leads waits o.leads refl refl
    (λ e. omega (arith, o.state, (L.asking e).recovering))
    (λ e. omega (arith, o.state, (L.hearing e).recovering))
    (λ e. e) (λ e. e) s.link L.quiet (λ P h. h))
  where
    waits : Box
    waits = record {
      head = with_waiting (record_of l r) (s.box c).head;
      records = (s.box c).records;
    }
