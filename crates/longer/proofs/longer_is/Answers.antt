-- `longer::longer_is` meets its contract.
use native.Mathlib.Omega.{arith}
use Rattle.longer.proofs.WhichLaws.{is-first, first-differs, is-second, second-differs}
use Rattle.longer.proofs.longer_is.Goals as goal

pub returns-then-is_beginning : goal.returns-then-is_beginning
returns-then-is_beginning c =
    is-first c.args.a.now c.args.b.now (omega arith) c.is_beginning.ensures
    c.if-is_beginning.true

pub returns-then-b-a : goal.returns-then-b-a
returns-then-b-a c =
    first-differs c.args.a.now c.args.b.now (omega arith) c.is_beginning.ensures
    c.if-is_beginning.false

pub returns-then-is_beginning-2 : goal.returns-then-is_beginning-2
returns-then-is_beginning-2 c =
    is-second c.args.a.now c.args.b.now (omega arith) c.is_beginning-2.ensures
    c.if-is_beginning-2.true

pub returns : goal.returns
returns c =
    second-differs c.args.a.now c.args.b.now (omega arith) c.is_beginning-2.ensures
    c.if-is_beginning-2.false
