-- The first k links are by form.
use native.Mathlib.Omega.{arith}
use Rattle.memory.specs.Parts.{links_form}
use Rattle.memory.proofs.EveryLaws.{pass-none, pass-more, pass-stop, pass_all}
use mathlib.Core.Path.{ap}
use mathlib.Core.Bool.{not}
use Rattle.memory.proofs.form.are_links_by_form.Goals as goal

pub returns-then-not-is_link_by_form : goal.returns-then-not-is_link_by_form
unfolding links_form
returns-then-not-is_link_by_form c =
    pass-stop c.loop-k.invariant (omega (arith, c.link_count-count.ensures))
    c.is_link_by_form.ensures (ap not c.if-not-is_link_by_form.true)

pub loop-k-preserved : goal.loop-k-preserved
loop-k-preserved c =
    pass-more c.loop-k.invariant (omega (arith, c.link_count-count.ensures))
    c.is_link_by_form.ensures (ap not c.if-not-is_link_by_form.false)

pub returns : goal.returns
unfolding links_form
returns c =
    pass_all c.loop-k.invariant (omega (arith, c.link_count-count.ensures))

pub loop-k-init : goal.loop-k-init
loop-k-init c = pass-none
