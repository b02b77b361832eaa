-- The run has gone on from where the loop began.
use Prim.Native.Nat.{ℕ, ◌+◌, ◌-◌}
use mathlib.Core.Path.{◌≡◌, subst}
use native.Mathlib.Omega.{arith}
use Rattle.until.specs.Turns.{Gone}
use Rattle.until.proofs.GoneLaws.{handed-none, handed-more, handed-stop}
use Rattle.until.proofs.turns.hand_over.Goals as goal

pub returns-in-Nothing : goal.returns-in-Nothing
returns-in-Nothing c =
    handed-none c.loop-u.invariant c.mail_next-next.ensures _ _ _ c.take.ensures c.in-Nothing.is

pub returns-in-Refused : goal.returns-in-Refused
returns-in-Refused c =
    handed-stop c.loop-u.invariant c.mail_next-next.ensures _ _ _ c.take.ensures (omega arith)
    c.in-Refused.is

pub loop-u-preserved : goal.loop-u-preserved
loop-u-preserved c =
    let one : c.args.left + c.args.used - c.loop-u.u - 1
    ≡ c.args.left + c.args.used - (c.loop-u.u + 1) = omega arith in
    subst (λ (k : ℕ). Gone c.args.left c.args.used c.args.site.now c.args.links.now k
    (c.loop-u.u + 1) c.take.new.site c.take.new.links) one
    (handed-more c.loop-u.invariant c.mail_next-next.ensures _ _ _ c.take.ensures (omega arith)
    c.in-Played.is)
