use Rattle.std.proofs.Common.{arith}
use Rattle.hexed.proofs.HexLaws.{smalls-length}
use Rattle.hexed.proofs.CodeLaws.{digit-read}
use Rattle.hexed.proofs.all_digits.Goals as goal

pub returns-then-value-gt15 : goal.returns-then-value-gt15
returns-then-value-gt15 c =
    let text = c.args.text.now in
    let i = c.loop-b.b-index in
    λ d. omega (
      arith,
      d.each i (omega (arith, smalls-length text)),
      digit-read text i _ c.value.ensures.0,
    )
