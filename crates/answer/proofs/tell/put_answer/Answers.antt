use mathlib.Core.Path.{sym, ◌∙◌}
use native.Mathlib.Omega.{arith}
use Rattle.answer.proofs.TellLaws.{refusal-wrote, image-wrote}
use Rattle.answer.proofs.tell.put_answer.Goals as goal

pub put_refusal-requires : goal.put_refusal-requires
put_refusal-requires c = record {
  in_bounds = omega arith;
  a_value = sym c.is_refusal.ensures ∙ c.if-is_refusal.true;
}

pub returns-then-is_refusal : goal.returns-then-is_refusal
returns-then-is_refusal c =
    refusal-wrote _ _ (sym c.is_refusal.ensures ∙ c.if-is_refusal.true) (omega arith)
    c.put_refusal.ensures

pub put_image-requires : goal.put_image-requires
put_image-requires c = record {
  image_in_bounds = omega arith;
  a_value = sym c.is_refusal.ensures ∙ c.if-is_refusal.false;
}

pub returns : goal.returns
returns c = image-wrote _ _ c.put_image.ensures
