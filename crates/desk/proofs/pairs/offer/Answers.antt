-- `desk::pairs::offer` meets its contract: form, the leader, then the engine's step.
use Rattle.words.proofs.TestLaws.{fails, passes}
use Rattle.desk.proofs.OfferLaws.{step-settled, offer-unformed, offer-none, offer-to}
use mathlib.Core.Path.{ap}
use mathlib.Core.Bool.{not}
use Rattle.desk.proofs.pairs.offer.Goals as goal

pub returns-then-not-is_by_form : goal.returns-then-not-is_by_form
returns-then-not-is_by_form c =
    offer-unformed c.args.site.now c.args.links.now c.args.left c.args.right
    (fails c.is_by_form.ensures (ap not c.if-not-is_by_form.true))

pub leader_formed-c-requires : goal.leader_formed-c-requires
leader_formed-c-requires c =
    passes c.is_by_form.ensures (ap not c.if-not-is_by_form.false)

pub returns-then-c-eq0 : goal.returns-then-c-eq0
returns-then-c-eq0 c =
    offer-none c.args.site.now c.args.links.now c.args.left c.args.right
    (passes c.is_by_form.ensures (ap not c.if-not-is_by_form.false))
    c.leader_formed-c.ensures c.if-c-eq0.true

pub step_formed-requires : goal.step_formed-requires
step_formed-requires c =
    passes c.is_by_form.ensures
    (ap not c.if-not-is_by_form.false)

pub offered-requires : goal.offered-requires
offered-requires c = step-settled c.step_formed.ensures

pub returns : goal.returns
returns c =
    rw c.offered.ensures
    (offer-to c.args.site.now c.args.links.now c.args.left c.args.right
    (passes c.is_by_form.ensures (ap not c.if-not-is_by_form.false))
    c.leader_formed-c.ensures c.if-c-eq0.false
    c.step_formed.ensures)
