-- `longer::from_first` meets its contract.
use native.Mathlib.Omega.{arith}
use Rattle.longer.proofs.FromLaws.{from-whole, from-part, from-none}
use Rattle.longer.proofs.from_first.Goals as goal

pub returns-then-first-own : goal.returns-then-first-own
returns-then-first-own c =
    from-whole c.args.own c.args.first c.args.list.now (omega arith)

pub returns-then-dropped-list : goal.returns-then-dropped-list
returns-then-dropped-list c =
    from-part c.args.own c.args.first c.args.list.now

pub returns : goal.returns
returns c =
    from-none c.args.own c.args.first c.args.list.now (omega arith)
