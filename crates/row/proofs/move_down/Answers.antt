-- `row::move_down` meets its contract.
use mathlib.Core.Path.{sym}
use Prim.Native.Nat.{◌-◌}
use Rattle.row.specs.Row.{head_words}
use Rattle.words.proofs.PartLaws.{splice-same}
use Rattle.row.proofs.move_down.Goals as goal

pub returns-then-d-eq0 : goal.returns-then-d-eq0
returns-then-d-eq0 c =
    rw c.if-d-eq0.true (sym (splice-same head_words (c.args.a - 0) c.args.row.now))
