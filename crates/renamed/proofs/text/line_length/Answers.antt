-- `renamed::text::line_length` meets its contract.
use mathlib.Core.Path.{ap}
use native.Mathlib.Omega.{arith}
use Rattle.renamed.specs.declared.names.Found.{Found}
use Rattle.renamed.proofs.TextLaws.{cut_inside, few_bytes, few-new, length-is}
use Rattle.renamed.proofs.text.line_length.Goals as goal

pub overflow_sub-result : goal.overflow_sub-result
overflow_sub-result c =
    cut_inside c.args.from c.args.to c.args.s.now c.requires c.find-found.ensures

pub overflow_add-result : goal.overflow_add-result
overflow_add-result c =
    omega (
      arith,
      few_bytes c.args.from c.args.to c.args.s.now c.requires,
      few-new c.args.from c.args.to c.args.s.now c.requires,
      ap (λ (x : Found). x.put) c.find-found.ensures,
    )

pub overflow_add-result-2 : goal.overflow_add-result-2
overflow_add-result-2 c =
    omega (
      arith,
      few_bytes c.args.from c.args.to c.args.s.now c.requires,
      few-new c.args.from c.args.to c.args.s.now c.requires,
      ap (λ (x : Found). x.put) c.find-found.ensures,
    )

pub returns : goal.returns
returns c =
    length-is c.args.from c.args.to c.args.s.now c.requires c.find-found.ensures
