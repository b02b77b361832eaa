use Rattle.std.proofs.Common.{rules}
use Rattle.desk.specs.Near.{apart}
use Rattle.desk.proofs.near.apart_of.Goals as goal

pub returns-then-on-back : goal.returns-then-on-back
unfolding apart
returns-then-on-back c = search rules

pub returns-else-on-back : goal.returns-else-on-back
unfolding apart
returns-else-on-back c = search rules
