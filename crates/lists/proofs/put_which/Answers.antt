-- `lists::put_which` meets its contract.
use native.Mathlib.Omega.{arith}
use Rattle.lists.proofs.LineLaws.{first_short, second_short, first_said, second-said}
use Rattle.lists.proofs.LineLaws.{differs-said}
use Rattle.lists.proofs.put_which.Goals as goal

pub put_list-requires : goal.put_list-requires
put_list-requires c =
    omega (arith, first_short c.args.line.now c.up_to.ensures)

pub put_list-requires-in-Second : goal.put_list-requires-in-Second
put_list-requires-in-Second c =
    omega (arith, second_short c.args.line.now c.behind.ensures)

pub returns-in-First : goal.returns-in-First
returns-in-First c =
    first_said c.args.line.now c.up_to.ensures
    c.in-First.is c.put_list.ensures

pub returns-in-Second : goal.returns-in-Second
returns-in-Second c =
    second-said c.args.line.now c.behind.ensures
    c.in-Second.is c.put_list-in-Second.ensures

pub returns-in-Differs : goal.returns-in-Differs
returns-in-Differs c =
    differs-said c.args.line.now c.in-Differs.is
    c.put_bytes.ensures
