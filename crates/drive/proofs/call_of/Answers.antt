-- `drive::call_of` meets its contract.
use Rattle.drive.proofs.DriveLaws.{call-rest, none_below}
use Rattle.drive.proofs.call_of.Goals as goal

pub returns-in_default : goal.returns-in_default
returns-in_default c =
    call-rest c.args.a c.args.b c.args.c
    (none_below 15 c.args.which c.in_default.in_default-own.rest)
