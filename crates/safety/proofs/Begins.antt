-- After every run from a fresh site a Begin has its receiver's promised number, wherever it stands.
use Prim.Native.Nat.{ℕ}
use mathlib.Core.Path.{◌≡◌}
use mathlib.Core.List.{List, []}
use native.Mathlib.Omega.{arith}
use Rattle.rules.specs.Sizes.{most_boxes}
use Rattle.rules.specs.Box.{Letter}
use Rattle.rules.specs.Step.{run}
use Rattle.laws.proofs.Types.{Call, Kind}
use Rattle.laws.proofs.Logic.{In}
use Rattle.safety.specs.Demand3.{start}
use Rattle.safety.specs.Begins.{BeginComes, Begins}
use Rattle.safety.proofs.Follower.{mail-on}
use Rattle.safety.proofs.MailBegin.{begin-pn}
use Rattle.safety.proofs.Safe.{inv-run, same-n}

promised : (n J L : ℕ) → In n most_boxes → (calls : List Call) (a b : ℕ) → In b n
    → (ahead : List Letter) (y : Letter) → BeginComes (run (start n J L) calls) a b ahead y
    → y.head.pn ≡ ((run (start n J L) calls).box b).head.kept.pn
promised n J L size calls a b bn ahead y c =
    let live = (inv-run n J L size calls).live c.even in
    begin-pn live (rw (same-n n J L size calls) bn)
    (mail-on live a b ahead y c.behind c.stands c.other Kind.Begin c.kind)

pub begins : Begins
begins = record {
  promised = promised;
  none_above = λ n J L size calls a b bn y c follows above.
      omega (arith, above, promised n J L size calls a b bn [] y c);
}
