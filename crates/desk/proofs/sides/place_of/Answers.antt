-- `desk::sides::place_of` meets its contract: the places that were passed have other frames.
use Rattle.std.proofs.Common.{sym, ◌∙◌, arith}
use Rattle.desk.proofs.SideLaws.{place-on, place_here, place_none}
use Rattle.desk.proofs.sides.place_of.Goals as goal

pub loop-i-init : goal.loop-i-init
loop-i-init c = omega arith

pub returns-then-frame_of-frame : goal.returns-then-frame_of-frame
returns-then-frame_of-frame c = record {
  value = place_here c.args.frame c.args.row.now c.loop-i.i (omega arith)
      (sym c.frame_of.ensures ∙ c.if-frame_of-frame.true) c.loop-i.invariant;
  upper_bound = omega arith;
}

pub loop-i-preserved : goal.loop-i-preserved
loop-i-preserved c =
    place-on c.args.frame c.args.row.now c.loop-i.i (omega arith)
    (λ e. c.if-frame_of-frame.false (c.frame_of.ensures ∙ e)) c.loop-i.invariant

pub returns : goal.returns
returns c = record {
  value = omega (
    arith,
    place_none c.args.frame c.args.row.now c.loop-i.i (omega arith) c.loop-i.invariant,
  );
  upper_bound = omega arith;
}
