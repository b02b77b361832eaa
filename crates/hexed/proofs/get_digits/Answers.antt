use Rattle.std.proofs.Common.{refl, ◌+◌, ◌*◌, ◌∙◌, arith, length-set}
use Rattle.hexed.specs.Hex.{smalls}
use Rattle.hexed.proofs.HexLaws.{smalls-length}
use Rattle.hexed.proofs.CodeLaws.{digit-read, got_none, got_more}
use Rattle.hexed.proofs.get_digits.Goals as goal

pub loop-i-init : goal.loop-i-init
loop-i-init c = (refl, got_none (smalls c.args.text.now) c.args.out.now)

pub overflow_mul-out : goal.overflow_mul-out
overflow_mul-out c =
    let text = c.args.text.now in
    let i = c.loop-i.i in
    omega (
      arith,
      c.requires.digits.each (2 * i) (omega (arith, smalls-length text)),
      digit-read text (2 * i) _ c.value-high.ensures.0,
    )

pub overflow_add-out : goal.overflow_add-out
overflow_add-out c =
    let text = c.args.text.now in
    let i = c.loop-i.i in
    omega (
      arith,
      c.requires.digits.each (2 * i) (omega (arith, smalls-length text)),
      c.requires.digits.each (2 * i + 1) (omega (arith, smalls-length text)),
      digit-read text (2 * i) _ c.value-high.ensures.0,
      digit-read text (2 * i + 1) _ c.value-low.ensures.0,
    )

pub loop-i-preserved : goal.loop-i-preserved
loop-i-preserved c =
    let text = c.args.text.now in
    let i = c.loop-i.i in (
      length-set c.loop-i.out i _ ∙ c.loop-i.invariant.0,
      got_more (smalls text) c.loop-i.out i c.value-high.result c.value-low.result
          (omega (arith, smalls-length text)) c.requires.digits (omega arith)
          (digit-read text (2 * i) _ c.value-high.ensures.0)
          (digit-read text (2 * i + 1) _ c.value-low.ensures.0) c.loop-i.invariant.1,
    )
