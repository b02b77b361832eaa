use lib.ListN.{length}
use mathlib.Core.Path.{◌≡◌, sym, ◌∙◌, refl}
use mathlib.Core.Bool.{true}
use native.Mathlib.Omega.{arith}
use borrow.Author.Tests.{not-true, not-false}
use Rattle.answer.specs.Says.{lends, too_short}
use Rattle.answer.proofs.AnswerLaws.{lent-text, found, found_none, answer-call, answer-long}
use Rattle.answer.proofs.AnswerLaws.{answer-nothing}
use mathlib.Core.Path.{ap}
use mathlib.Core.Bool.{not}
use Rattle.answer.proofs.answer.Goals.{Else-not-lends}
use Rattle.answer.proofs.answer.Goals as goal

pub returns-then-not-lends : goal.returns-then-not-lends
returns-then-not-lends c =
    too_short
    (sym c.lends.ensures ∙ not-true c.lends.result (ap not c.if-not-lends.true))

-- the buffers have room for the image and its text
lent : (c : Else-not-lends) →
    lends (length c.args.image.now) (length c.args.out.now) ≡ true
lent c = sym c.lends.ensures ∙ not-false c.lends.result (ap not c.if-not-lends.false)

pub answer_call-requires : goal.answer_call-requires
answer_call-requires c =
    let f = found c.ask-a.ensures c.in-Step.is in record {
      n_in_bounds = f.inside;
      image_in_bounds =
          omega (
            arith,
            lent-text _ _ (lent (goal.at.answer_call-requires c).Else-not-lends),
            f.room,
          );
    }

pub put_refusal-requires : goal.put_refusal-requires
put_refusal-requires c =
    let l = lent (goal.at.put_refusal-requires c).Else-not-lends in record {
      in_bounds = omega (arith, lent-text _ _ l);
      a_value = refl;
    }

pub returns-in-Step : goal.returns-in-Step
returns-in-Step c =
    answer-call (lent (goal.at.returns-in-Step c).Else-not-lends)
    (found c.ask-a.ensures c.in-Step.is)
    c.answer_call.ensures

pub returns-in-Long : goal.returns-in-Long
returns-in-Long c =
    answer-long (lent (goal.at.returns-in-Long c).Else-not-lends) c.ask-a.ensures c.in-Long.is

pub returns-in-Unreadable : goal.returns-in-Unreadable
returns-in-Unreadable c =
    answer-nothing (lent (goal.at.returns-in-Unreadable c).Else-not-lends)
    (found_none c.ask-a.ensures c.in-Unreadable.is)
    c.put_refusal.ensures
