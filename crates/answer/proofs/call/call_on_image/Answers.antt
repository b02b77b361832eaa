use mathlib.Core.Path.{sym, ◌∙◌}
use borrow.Author.Tests.{not-true, not-false}
use Rattle.answer.specs.Calls.{too_long}
use Rattle.answer.proofs.CallLaws.{call-unserved}
use mathlib.Core.Path.{ap}
use mathlib.Core.Bool.{not}
use Rattle.answer.proofs.call.call_on_image.Goals as goal

pub returns-then-not-serves : goal.returns-then-not-serves
returns-then-not-serves c =
    call-unserved _ _ _ c.if-image-n.false
    (sym c.serves.ensures ∙ not-true c.serves.result (ap not c.if-not-serves.true))

pub call_served-requires : goal.call_served-requires
call_served-requires c = record {
  l_value = sym c.serves.ensures ∙ not-false c.serves.result (ap not c.if-not-serves.false);
  n_in_bounds = c.if-image-n.false;
}

pub returns-then-image-n : goal.returns-then-image-n
returns-then-image-n c = too_long c.if-image-n.true
