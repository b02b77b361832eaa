-- `row::act_turn` meets its contract.
use mathlib.Core.Path.{◌∙◌, ap}
use Prim.Native.Nat.{ℕ}
use Rattle.rules.specs.Box.{held_at}
use Rattle.row.proofs.TurnLaws.{row-formed, first-within, act_law}
use Rattle.row.proofs.act_turn.Goals as goal

pub load-head-requires : goal.load-head-requires
load-head-requires c =
    (row-formed c.args.s c.args.row.now c.requires).readable

pub span-agreed-requires : goal.span-agreed-requires
span-agreed-requires c =
    rw c.load-head.ensures (
      (row-formed c.args.s c.args.row.now c.requires).says.last,
      first-within c.args.s c.args.row.now c.requires,
    )

pub records-requires : goal.records-requires
records-requires c =
    (row-formed c.args.s c.args.row.now c.requires).readable.room

pub returns : goal.returns
returns c =
    act_law c.args.s c.args.row.now c.requires c.args.a _ _ _ _
    c.load-head.ensures c.records.ensures
    (c.held_at-mine.ensures
    ∙ ap (λ (l : ℕ). held_at c.records.result.now l) c.span-agreed.ensures)
    c.any_act.ensures
