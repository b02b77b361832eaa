use native.Mathlib.Omega.{arith}
use mathlib.Core.Path.{ap, ◌∙◌}
use Rattle.found.specs.Found.{box_found}
use Rattle.salvage.proofs.TableLaws.{sound-is}
use Rattle.salvage.proofs.block.look.Goals as goal

pub body-requires : goal.body-requires
body-requires c =
    let i = sound-is c.args.image.now c.requires.0.table in
    let l = i.least in
    (c.requires.0.table, omega arith, omega arith)

pub box_found-requires : goal.box_found-requires
box_found-requires c = c.requires.0.few

pub returns : goal.returns
returns c =
    c.box_found.ensures
    ∙ ap (box_found c.args.n c.args.j c.args.b) c.body.ensures
