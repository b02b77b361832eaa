-- `bodies::contents::after` meets its contract.
use native.Mathlib.Omega.{arith}
use mathlib.Core.Path.{sym, ◌∙◌}
use Rattle.bodies.proofs.ContentsLaws.{told_as, after-part, after_none}
use Rattle.bodies.proofs.contents.after.Goals as goal

pub overflow_add-result : goal.overflow_add-result
overflow_add-result c =
    let most = (told_as c.args.image.now c.args.k
    (sym c.named-is.ensures ∙ c.in-Ok.is)).most in
    record { fits = omega arith }

pub returns-in-Ok : goal.returns-in-Ok
returns-in-Ok c =
    after-part c.args.image.now c.args.k
    (sym c.named-is.ensures ∙ c.in-Ok.is)

pub returns-in-Err : goal.returns-in-Err
returns-in-Err c =
    after_none c.args.image.now c.args.k
    (sym c.named-is.ensures ∙ c.in-Err.is)
