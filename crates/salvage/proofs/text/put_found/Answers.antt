use mathlib.Core.Path.{refl}
use Rattle.salvage.proofs.TextLaws.{found-put}
use Rattle.salvage.proofs.text.put_found.Goals as goal

pub returns-in-Ok : goal.returns-in-Ok
returns-in-Ok c =
    found-put c.in-Ok.is refl
    c.put_bytes.ensures

pub returns-in-Err : goal.returns-in-Err
returns-in-Err c =
    found-put c.in-Err.is refl
    c.put_aside.ensures
