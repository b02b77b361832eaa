use Prim.Native.Nat.{◌*◌}
use Rattle.print.specs.Decimal.{spaced}
use Rattle.print.specs.Text.{Wrote}
use Rattle.feed.specs.Rows.{lasts_at}
use Rattle.feed.proofs.tell.put_lasts.Given as goal

abbrev pub invariant-loop-i : goal.invariant-loop-i
invariant-loop-i l = Wrote (21 * l.i) l.initial.out l.out l.at l.p (spaced (lasts_at
    l.site l.w l.i))
