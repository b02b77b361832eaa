use mathlib.Core.Path.{◌∙◌}
use native.Mathlib.Omega.{arith}
use Rattle.found.specs.Found.{sender_way}
use Rattle.found.specs.Near.{sender_stride}
use Rattle.found.proofs.WalkLaws.{walk_none, walk_more, walk-stop, walk-all}
use Rattle.found.proofs.WalkLaws.{within-next, handed-on}
use Rattle.found.proofs.mail.walk_senders.Goals as goal

pub loop-i-init : goal.loop-i-init
loop-i-init c =
    walk_none
    (sender_way c.args.n c.args.j c.args.l
    c.args.src.now) sender_stride c.args.n 0

pub walk_sender-requires : goal.walk_sender-requires
walk_sender-requires c =
    (c.requires.0, c.requires.1, omega arith)

pub loop-i-preserved : goal.loop-i-preserved
loop-i-preserved c =
    walk_more (sender_way c.args.n c.args.j c.args.l c.args.src.now)
    sender_stride c.args.n 0 c.loop-i.invariant c.loop-i-test.true
    c.walk_sender.ensures.value c.in_ok-p.was
    (within-next c.in_ok-p.was c.walk_sender.ensures.within)

pub returns-in_err-p : goal.returns-in_err-p
returns-in_err-p c =
    handed-on c.from_residual.result c.from_residual.ensures
    ∙ walk-stop (sender_way c.args.n c.args.j c.args.l c.args.src.now)
    sender_stride c.args.n 0 c.loop-i.invariant c.loop-i-test.true
    c.walk_sender.ensures.value c.in_err-p.was

pub returns : goal.returns
returns c =
    walk-all (sender_way c.args.n c.args.j c.args.l c.args.src.now)
    sender_stride c.args.n 0 c.loop-i.invariant c.loop-i-test.false
