use native.Mathlib.Omega.{arith}
use Rattle.answer.proofs.CallLaws.{call-within, told-call}
use Rattle.answer.proofs.answer_call.Goals as goal

pub tell-requires : goal.tell-requires
tell-requires c =
    let w = call-within c.call_on_image-c.ensures c.requires.n_in_bounds in record {
      within = w.0;
      image_in_bounds = omega (arith, w.1, c.requires.image_in_bounds);
    }

pub returns : goal.returns
returns c =
    told-call c.call_on_image-c.ensures c.requires.n_in_bounds c.tell.ensures
