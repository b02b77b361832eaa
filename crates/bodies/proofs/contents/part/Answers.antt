-- `bodies::contents::part` meets its contract.
use native.Mathlib.Omega.{arith}
use mathlib.Core.Path.{◌≡◌, sym, ◌∙◌}
use Rattle.std.specs.Prelude.{Ok}
use Rattle.bodies.specs.Contents.{named}
use Rattle.bodies.proofs.ContentsLaws.{Inside, told_as}
use Rattle.bodies.proofs.HandedLaws.{handed-part, handed-none}
use Rattle.bodies.proofs.contents.part.Goals.{In-Ok}
use Rattle.bodies.proofs.contents.part.Goals as goal

-- where a part is named
named-told : (c : In-Ok) → Ok c.in-Ok.part ≡ named c.args.image.now c.args.k
named-told c = sym c.in-Ok.is ∙ c.named-is.ensures

is : (c : In-Ok) → Inside c.args.image.now c.args.k c.in-Ok.part.begin
    c.in-Ok.part.long
is c =
    told_as c.args.image.now c.args.k
    (sym (named-told c))

pub overflow_add-result : goal.overflow_add-result
overflow_add-result c = let end = (is (goal.at.overflow_add-result c).In-Ok).end in
    record { fits = omega arith }

pub slice_bounds-result-end : goal.slice_bounds-result-end
slice_bounds-result-end c = (is (goal.at.slice_bounds-result-end c).In-Ok).end

pub returns-in-Ok : goal.returns-in-Ok
returns-in-Ok c =
    handed-part c.args.image c.in-Ok.part
    (named-told (goal.at.returns-in-Ok c).In-Ok)

pub returns-in-Err : goal.returns-in-Err
returns-in-Err c =
    handed-none c.args.image
    (sym c.in-Err.is ∙ c.named-is.ensures)
